-- What is returned of a text that was put into a string.
use Rattle.std.proofs.Common.{◌≡◌, ◌≤◌, ◌+◌, ◌∙◌, ℕ, true, false, List, [], Some, None, Result, Ok, Err, sym, arith}
use Rattle.std.specs.Prelude.{⊤, IfOk, IfErr, IsOk, OnOk, String, string_bytes}
use Rattle.std.specs.Str.{chars}
use Rattle.std.specs.declared.alloc.Global.{Global}
use Rattle.std.proofs.lemmas.Bool.Decides.{nat_tests}
use Rattle.json5_grammar.specs.Language.Documents.{max_depth}
use Rattle.json5_grammar.specs.declared.error_code.ErrorCode.TheVariants as codes
use Rattle.json5_types.specs.declared.error.Error.{Error}
use Rattle.json5_types.specs.Errors.{code, SaysAt, LacksMemory}
use Rattle.json5_types.specs.ValueLookups.{fits, datum_depth}
use Rattle.json5_types.specs.ValueMeanings.{Datum}
use Rattle.json5_write.specs.Out.{piece}
use Rattle.json5_write.specs.ShortWrites.{Puts}
use Rattle.json5_write.specs.WholeOutputs.{IsTextOf, RefusesTextOf, text_kind_by}
use Rattle.json5_write.specs.Writes.{SerializerState}
use Rattle.json5_write.specs.declared.refusal.Refused.{Refused}
use Rattle.json5_write.specs.declared.refusal.Refused.TheVariants as refused
use Rattle.json5_write.proofs.TextsWhole.{text_returned}
use Rattle.json5_styles.specs.Json.{JsonText}
use Rattle.json5_styles.specs.JsonTexts.{is_json}
use Rattle.json5_styles.specs.LaidBack.{ReadsAs}
use Rattle.json5_styles.specs.WholeTexts.{LaysOut, WritesJson}

-- the writer of a string fails only for want of memory
no_memory : (t : List ℕ) (old new : SerializerState) (r : Refused) (e : Error) → old.failed ≡ false → Puts (piece t) old (Err r) new → SaysAt (text_kind_by r) None e → SaysAt (code codes.OutOfMemory) None e
no_memory t old new refused.Before e live p h = absurd (let x : true ≡ false = sym p.was ∙ live in cc)
no_memory t old new refused.ByWriter e live p h = h
no_memory t old new refused.TooDeep e live p h = absurd (let x = p.stop in cc)
no_memory t old new refused.Key e live p h = absurd (let x = p.stop in cc)

pub laid_returned : (t : List ℕ) (x : Datum) (old new : SerializerState) (items : List ℕ) (printed : Result ⊤ Refused) (result : Result (String Global) Error) → fits x ≡ true → old.failed ≡ false → Puts (piece t) old printed new
    → old.known ≡ Some [] → Some items ≡ new.known → IfOk result (IsTextOf printed items) → IfErr result (RefusesTextOf printed) → LaysOut t x result
laid_returned t x old new items printed (Ok s) fit live p e f h k = (fit, text_returned (piece t) old new items printed (Ok s) p e f h)
laid_returned t x old new items (Ok y) (Err z) fit live p e f h k = absurd k
laid_returned t x old new items (Err r) (Err z) fit live p e f h k = rw fit (no_memory t old new r z live p k)

-- a string that was put
pub string_spelled : (t : List ℕ) (old new : SerializerState) (items : List ℕ) (printed : Result ⊤ Refused) (result : Result (String Global) Error) → Puts (piece t) old printed new → old.known ≡ Some [] → Some items ≡ new.known → IfOk result (IsTextOf printed items) → IfOk result (λ s. chars (string_bytes s) ≡ t)
string_spelled t old new items printed (Ok s) p e f h = (text_returned (piece t) old new items printed (Ok s) p e f h).characters
string_spelled t old new items printed (Err z) p e f h = tt

-- a string is refused only for want of memory
pub string_refused : (t : List ℕ) (old new : SerializerState) (printed : Result ⊤ Refused) (result : Result (String Global) Error) → old.failed ≡ false → Puts (piece t) old printed new → IfErr result (RefusesTextOf printed) → IfErr result LacksMemory
string_refused t old new printed (Ok s) live p k = tt
string_refused t old new (Ok y) (Err z) live p k = absurd k
string_refused t old new (Err r) (Err z) live p k = let h = no_memory t old new r z live p k in record { kind = h.kind; place = h.place }

pub shallow : (x : Datum) → fits x ≡ true → datum_depth x + 0 ≤ max_depth
shallow x h = grind (arith, nat_tests)

pub numbers_returned : (P : Type 0) (items : List ℕ) (printed : Result ⊤ Refused) (result : Result (String Global) Error) → IfOk result (IsTextOf printed items) → OnOk printed P → IsOk result → P
numbers_returned P items (Ok y) (Ok s) h p ok = p
numbers_returned P items (Err r) (Ok s) h p ok = absurd (let x = h.wrote in cc)
numbers_returned P items printed (Err e) h p ok = absurd (cc)

-- the text of a value that JSON has
pub written_json : (t : List ℕ) (x : Datum) (result : Result (String Global) Error) → fits x ≡ true → is_json x ≡ true → LaysOut t x result
    → IfOk result (λ s. JsonText (chars (string_bytes s))) → IfOk result (λ s. ReadsAs max_depth (chars (string_bytes s)) x) → WritesJson t x result
written_json t x (Ok s) f j h is reads = (h.0, j, h.1, record { is_json = is; reads_back = reads })
written_json t x (Err e) f j h is reads = rw (f, j) (let k = rw f at h in record { kind = k.kind; place = k.place })
