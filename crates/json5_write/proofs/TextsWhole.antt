-- What a writer that was empty holds after a whole output, and why a string wasn't written.
use Rattle.std.proofs.Common.{◌≡◌, ℕ, List, [], Option, Some, Result, Ok, Err, true, false, sym, ap, ◌∙◌, subst}
use Rattle.std.specs.Prelude.{⊤, IfOk, IfErr, OnOk, string_bytes, String}
use Rattle.std.specs.declared.alloc.Global.{Global}
use Rattle.std.specs.Str.{IsUtf8, chars, encode_utf8_all}
use Rattle.std.proofs.lemmas.Str.{chars-encodes}
use Rattle.std.specs.Io.KnownBytes.{Appends}
use Rattle.json5_types.specs.declared.error.Error.{Error}
use Rattle.json5_write.specs.Out.{Out}
use Rattle.json5_write.specs.ShortWrites.{Puts}
use Rattle.json5_write.specs.declared.refusal.Refused.{Refused}
use Rattle.json5_write.specs.declared.refusal.Refused.TheVariants as refused
use Rattle.json5_write.specs.Writes.{SerializerState, Wrote}
use Rattle.json5_write.specs.WholeOutputs.{IsText, StopsAs, RefusesToString, IsTextOf, RefusesTextOf, text_kind_by}

appended_to_none : (old new : Option (List ℕ)) (items bytes : List ℕ) → old ≡ Some [] → Some items ≡ new → Appends old new bytes → items ≡ bytes
appended_to_none old new items bytes e f p =
    let q = subst (λ x. Appends x new bytes) e p in
    let r : Appends (Some []) (Some items) bytes = subst (λ x. Appends (Some []) x bytes) (sym f) q in
    r

pub whole_text : (o : Out) (old new : SerializerState) (items bytes : List ℕ) → Wrote o old new → old.known ≡ Some [] → Some items ≡ new.known → bytes ≡ items → IsText o bytes
whole_text o old new items bytes w e f h =
    let same : bytes ≡ encode_utf8_all o.text = h ∙ appended_to_none old.known new.known items _ e f w.bytes in
    record { stop = w.stop; characters = ap chars same ∙ chars-encodes o.text w.chars; encoded = same }

pub whole_utf8 : (o : Out) (old new : SerializerState) (items : List ℕ) → Wrote o old new → old.known ≡ Some [] → Some items ≡ new.known → IsUtf8 items
whole_utf8 o old new items w e f = (o.text, (w.chars, sym (appended_to_none old.known new.known items _ e f w.bytes)))

-- ---- the string that is made of what was put

pub put_utf8 : (o : Out) (old new : SerializerState) (items : List ℕ) (printed : Result ⊤ Refused) → Puts o old printed new → old.known ≡ Some [] → Some items ≡ new.known → OnOk printed (IsUtf8 items)
put_utf8 o old new items (Ok x) p e f = whole_utf8 o old new items p e f
put_utf8 o old new items (Err r) p e f = tt

text_put : (o : Out) (old new : SerializerState) (items : List ℕ) (printed : Result ⊤ Refused) (s : String Global) → Puts o old printed new → old.known ≡ Some [] → Some items ≡ new.known → IsTextOf printed items s → IsText o (string_bytes s)
text_put o old new items (Ok x) s p e f h = whole_text o old new items (string_bytes s) p e f h.same
text_put o old new items (Err r) s p e f h = let x : false ≡ true = h.wrote in cc

pub text_returned : (o : Out) (old new : SerializerState) (items : List ℕ) (printed : Result ⊤ Refused) (result : Result (String Global) Error) → Puts o old printed new → old.known ≡ Some [] → Some items ≡ new.known → IfOk result (IsTextOf printed items) → IfOk result (λ s. IsText o (string_bytes s))
text_returned o old new items printed (Ok s) p e f h = text_put o old new items printed s p e f h
text_returned o old new items printed (Err x) p e f h = tt

stops_by : (o : Out) (old new : SerializerState) (r : Refused) → old.failed ≡ false → Puts o old (Err r) new → StopsAs o (text_kind_by r)
stops_by o old new refused.Before live p = let x : true ≡ false = sym p.was ∙ live in cc
stops_by o old new refused.ByWriter live p = tt
stops_by o old new refused.TooDeep live p = p.stop
stops_by o old new refused.Key live p = p.stop

refuses_put : (o : Out) (old new : SerializerState) (printed : Result ⊤ Refused) (e : Error) → old.failed ≡ false → Puts o old printed new → RefusesTextOf printed e → RefusesToString o e
refuses_put o old new (Ok x) e live p h = absurd h
refuses_put o old new (Err r) e live p h = record { stops = subst (StopsAs o) (sym h.kind) (stops_by o old new r live p); no_place = h.place }

pub refusal_returned : (o : Out) (old new : SerializerState) (printed : Result ⊤ Refused) (result : Result (String Global) Error) → old.failed ≡ false → Puts o old printed new → IfErr result (RefusesTextOf printed) → IfErr result (RefusesToString o)
refusal_returned o old new printed (Ok s) live p h = tt
refusal_returned o old new printed (Err e) live p h = refuses_put o old new printed e live p h
