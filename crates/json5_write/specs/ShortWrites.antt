-- What a call does that writes pieces or a value, and returns a small value.
-- A promise rests on this.
use Rattle.std.specs.Prelude.{◌≡◌, ◌+◌, None, Result, Ok, Err, ⊤, OnOk}
use Rattle.json5_grammar.specs.Faults.Fronts.{opening}
use Rattle.json5_grammar.specs.declared.error_code.ErrorCode.TheVariants as codes
use Rattle.json5_types.specs.declared.error.Error.{Error}
use Rattle.json5_types.specs.Errors.{FaultKind, code, failed_write, kind_of, SaysAt}
use Rattle.json5_write.specs.WrittenTrees.{Written}
use Rattle.json5_write.specs.Brackets.{bracket_of}
use Rattle.json5_write.specs.Out.{Out, out, opened_by}
use Rattle.json5_write.specs.Writes.{SerializerState, at_depth, Wrote, Refusal, by_key, by_writer, by_refusal, by_depth, by_none, refusal_of, RefusesBy}
use Rattle.json5_write.specs.declared.brackets.Brackets.{Brackets}
use Rattle.json5_write.specs.declared.refusal.Refused.{Refused}
use Rattle.json5_write.specs.declared.refusal.Refused.TheVariants as refused

-- the refusal that it names
abbrev pub refusal_by : Refused → Refusal
refusal_by refused.Before = by_refusal
refusal_by refused.ByWriter = by_writer
refusal_by refused.TooDeep = by_depth
refusal_by refused.Key = by_key

-- the output was written, or refused so
abbrev pub Puts : Out → SerializerState → Result ⊤ Refused → SerializerState → Type 0
Puts o old (Ok x) new = Wrote o old new
Puts o old (Err r) new = RefusesBy o old (refusal_by r) new

-- the bracket is written where the limit has room for it, and then one more is open
pub record OpensBrackets (brackets : Brackets) (old : SerializerState) (result : Result ⊤ Refused) (new : SerializerState) : Type 0 where
  pub opens : Puts (opened_by old.limit old.depth (opening (bracket_of brackets))) old result (at_depth old.depth new)
  pub deeper : OnOk result (new.depth ≡ old.depth + 1)

-- it says what a call of a serializer is refused for
abbrev pub IsOfWriting : Error → Type 0
IsOfWriting e = refusal_of (kind_of e) ≡ by_none → ⊥

-- what a call did that has this tree to write, within the brackets that are open
abbrev pub PutsTree : Written → SerializerState → Result ⊤ Refused → SerializerState → Type 0
PutsTree t old result new = Puts (out old.limit t old.depth) old result new

-- what its error says
abbrev pub kind_by : Refused → FaultKind
kind_by refused.Before = code codes.Failed
kind_by refused.ByWriter = failed_write
kind_by refused.TooDeep = code codes.TooDeep
kind_by refused.Key = code codes.InvalidKey

abbrev pub MakesError : Refused → Error → Type 0
MakesError r e = SaysAt (kind_by r) None e
