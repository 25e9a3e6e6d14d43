-- What reading on lists refuses a value with is its fault, and the other way round.
use Rattle.std.proofs.Common.{◌≡◌, ℕ, ◌-◌, List, ◌++◌, refl, ap, sym, ◌∙◌, subst, inl, inr, Option, Some, None}
use Rattle.json5_grammar.specs.Language.Blanks.{Gap, Solid}
use Rattle.json5_grammar.specs.declared.error_code.ErrorCode.{ErrorCode}
use Rattle.json5_grammar.specs.Language.Documents.{max_depth}
use Rattle.json5_grammar.specs.Model.Reading.{Read, Place, here, inner, got, bad, and_then, IsAt}
use Rattle.json5_grammar.specs.Model.ReadBlanks.{skip, between}
use Rattle.json5_grammar.specs.Model.ReadValues.{read}
use Rattle.json5_grammar.proofs.CommonLemmas.{at_after}
use Rattle.json5_grammar.proofs.BlanksSound.{BlanksSound, skip_sound, blank_refused, gap_read}
use Rattle.json5_grammar.proofs.FoundPlaces.{IsIn}
use Rattle.json5_grammar.proofs.Refusals.{Refuses, refuses_after, same_place}
use Rattle.json5_grammar.proofs.OneFault.{blames_value, value_refuses}
use Rattle.json5_grammar.proofs.OneTree.{phrase_reader}
use Rattle.json5_grammar.proofs.ValuesSound.{read_place}
use Rattle.json5_types.specs.declared.error.Error.{Error}
use Rattle.json5_de.specs.AnyTree.{RefusesTree, ReadingRefuses, RefusedInReading}
use Rattle.json5_read.specs.EntryFaults.{AfterBlanks, in_blanks, after_gap}
use Rattle.json5_de.specs.State.{State}

-- a comment's fault, or that of the value after the blanks, is what reading refuses
from_blanks : (level : ℕ) (x : List ℕ) (reason : Option ErrorCode) (place : Option (List ℕ)) → AfterBlanks (ReadingRefuses level) x reason place
    → Refuses (phrase_reader (max_depth - level) x) x reason place
from_blanks level x reason place (in_blanks (before, part, shown, f)) =
    let (p, e, i) = blank_refused f in (p, ap (λ m. and_then m (λ u y. read (max_depth - level) y)) e, i)
from_blanks level x reason place (after_gap {w = w} {x = y} {place = there} g s k) =
    refuses_after w y (read (max_depth - level) y) (phrase_reader (max_depth - level) (w ++ y)) reason there
    (λ p is. ap (λ m. and_then m (λ u y. read (max_depth - level) y)) (gap_read g s) ∙ is) k

-- and the other way round
to_blanks : (level : ℕ) (x : List ℕ) (reason : Option ErrorCode) (place : Option (List ℕ))
    → Refuses (phrase_reader (max_depth - level) x) x reason place → AfterBlanks (ReadingRefuses level) x reason place
to_blanks level x reason place (p, e, i) = by_gap (skip between x) (skip_sound x) e
  where
    d : ℕ
    d = max_depth - level

    in_front : (w y : List ℕ) → x ≡ w ++ y → Gap w y → Solid y → (q : Place) → read d y ≡ bad reason q → q ≡ p → IsIn y q
        → AfterBlanks (ReadingRefuses level) x reason place
    in_front w y split g s (here z) is same (b, k) =
        let there : IsAt x (Some (w ++ b)) (here z) = subst (λ v. IsAt v (Some (w ++ b)) (here z)) (sym split) (at_after w y (Some b) (here z) k) in
        subst (λ v. AfterBlanks (ReadingRefuses level) x reason v)
        (same_place x (Some (w ++ b)) place (here z) there (subst (IsAt x place) (sym same) i))
        (subst (λ v. AfterBlanks (ReadingRefuses level) v reason (Some (w ++ b))) (sym split) (after_gap {place = Some b} g s (here z, is, k)))
    in_front w y split g s inner is same k =
        subst (λ v. AfterBlanks (ReadingRefuses level) x reason v) (same_place x None place inner tt (subst (IsAt x place) (sym same) i))
        (subst (λ v. AfterBlanks (ReadingRefuses level) v reason None) (sym split) (after_gap {place = None} g s (inner, is, tt)))

    by_gap : (m : Read (Unit {0})) → BlanksSound x m → and_then m (λ u y. read d y) ≡ bad reason p → AfterBlanks (ReadingRefuses level) x reason place
    by_gap (got u y) (w, split, g, s) k = in_front w y split g s p k refl (read_place d y reason p k)
    by_gap (bad c q) b k =
        let codes : c ≡ reason = cc in
        let places : q ≡ p = cc in
        subst (λ z. AfterBlanks (ReadingRefuses level) x z place) codes
        (subst (λ z. AfterBlanks (ReadingRefuses level) x c z) (same_place x b.place place q b.is_at (subst (IsAt x place) (sym places) i))
        (in_blanks (b.before, b.part, b.shown, b.fault)))

-- what reading refuses is the value's fault
pub as_fault : (s : State) (e : Error) → RefusedInReading s e → RefusesTree s e
as_fault s e (inl memory) = inl memory
as_fault s e (inr k) = inr (λ live. let f = k live in record {
  reason = f.reason;
  place = f.place;
  fault = blames_value (max_depth - s.level) s.unread f.reason f.place (from_blanks s.level s.unread f.reason f.place f.fault);
  says = f.says;
  placed = f.placed;
})

-- and the value's fault is what reading refuses
pub as_reading : (s : State) (e : Error) → RefusesTree s e → RefusedInReading s e
as_reading s e (inl memory) = inl memory
as_reading s e (inr k) = inr (λ live. let f = k live in record {
  reason = f.reason;
  place = f.place;
  fault = to_blanks s.level s.unread f.reason f.place (value_refuses (max_depth - s.level) s.unread f.reason f.place f.fault);
  says = f.says;
  placed = f.placed;
})
