-- What `to_string` returns.
-- A promise rests on this.
use Rattle.std.specs.Prelude.{◌≡◌, ℕ, List, None, Result, ⊤, IsOk, IsErrAnd, String, string_bytes}
use Rattle.std.specs.declared.alloc.Global.{Global}
use Rattle.std.specs.Str.{chars, encode_utf8_all}
use Rattle.json5_grammar.specs.declared.error_code.ErrorCode.TheVariants as codes
use Rattle.json5_types.specs.declared.error.Error.{Error}
use Rattle.json5_types.specs.Errors.{FaultKind, code, custom, failed_write, kind_of, error_position, SaysAt}
use Rattle.json5_write.specs.Out.{Out, whole, invalid_key, too_deep}
use Rattle.json5_write.specs.declared.refusal.Refused.{Refused}
use Rattle.json5_write.specs.declared.refusal.Refused.TheVariants as refused

-- the bytes are the whole output
pub record IsText (o : Out) (bytes : List ℕ) : Type 0 where
  pub stop : o.stop ≡ whole
  pub characters : chars bytes ≡ o.text
  pub encoded : bytes ≡ encode_utf8_all o.text

-- the output stops with this kind of fault, or memory was refused
abbrev pub StopsAs : Out → FaultKind → Type 0
StopsAs o (code codes.InvalidKey) = o.stop ≡ invalid_key
StopsAs o (code codes.TooDeep) = o.stop ≡ too_deep
StopsAs o (code codes.OutOfMemory) = ⊤
StopsAs o (code _) = ⊥
StopsAs o failed_write = ⊥
StopsAs o (custom _) = ⊥

-- a refusal of `to_string`: it has no position
pub record RefusesToString (o : Out) (e : Error) : Type 0 where
  pub stops : StopsAs o (kind_of e)
  pub no_place : error_position e ≡ None

-- the string has these bytes, and all was written
pub record IsTextOf (printed : Result ⊤ Refused) (bytes : List ℕ) (s : String Global) : Type 0 where
  pub same : string_bytes s ≡ bytes
  pub wrote : IsOk printed

-- what the error of a string says that wasn't written: its writer fails where memory is refused
abbrev pub text_kind_by : Refused → FaultKind
text_kind_by refused.Before = code codes.Failed
text_kind_by refused.ByWriter = code codes.OutOfMemory
text_kind_by refused.TooDeep = code codes.TooDeep
text_kind_by refused.Key = code codes.InvalidKey

abbrev pub RefusesTextOf : Result ⊤ Refused → Error → Type 0
RefusesTextOf printed e = IsErrAnd printed (λ r. SaysAt (text_kind_by r) None e)
