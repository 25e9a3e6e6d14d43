-- Numbers that are read below the scanner, in the words of its contract.
use mathlib.Core.Bool.{true≢false}
use Rattle.std.proofs.Common.{◌≡◌, ℕ, Bool, true, false, List, [], ◌∷◌, ◌++◌, refl, ap, sym, ◌∙◌, subst, arith, Option, Some, None}
use Rattle.std.specs.Prelude.{◌==◌, ◌||◌}
use Rattle.std.proofs.lemmas.Bool.Decides.{nat_tests}
use Rattle.json5_grammar.specs.Language.Characters.{NotBegun}
use Rattle.json5_grammar.specs.declared.error_code.ErrorCode.TheVariants.{EofParsingNumber, ExpectedNumber}
use Rattle.json5_grammar.specs.Language.Numbers.{Number, Num, lengthens, begins_run}
use Rattle.json5_grammar.specs.Faults.Tokens.{is_sign, begins_number}
use Rattle.json5_grammar.specs.Model.Reading.{Read, Place, here, inner, got, bad, IsAt}
use Rattle.json5_grammar.specs.Model.ReadNumbers.{number, unsigned}
use Rattle.json5_grammar.proofs.NumbersRead.{complete}
use Rattle.json5_grammar.proofs.NumbersSound.{PlaceIs, SoundNumber, sound}
use Rattle.json5_tokens.specs.TokenFaults.{FaultyNumber, no_number, number_missing}
use Rattle.json5_tokens.specs.declared.refusal.Refusal.{Refusal}
use Rattle.json5_types.specs.NumberMeanings.{keeps_digits}
use Rattle.json5_tokens.specs.Outcome.{outcome}
use Rattle.json5_tokens.specs.RefusalOutcomes.{Refuses, WantsForDigits}
use Rattle.json5_tokens.specs.Scan.{HasFault}
use Rattle.json5_tokens.proofs.ScanFaults.{FaultAt, FaultyIn}
use Rattle.json5_tokens.proofs.ScanTokens.{of_memory, never_refused}

abbrev NumberAtSound : List ℕ → Read Number → Type 0
NumberAtSound x (got n r) = (s : List ℕ) × (x ≡ s ++ r) × Num s n × NotBegun (lengthens s) r
NumberAtSound x (bad e p) = FaultAt FaultyNumber x e p

at_from : (x : List ℕ) (p : Place) (place : Option (List ℕ)) → PlaceIs x p place → IsAt x place p
at_from x (here q) (Some b) (d, e, f) = let same : d ≡ b = cc in f ∙ ap (λ z. z ++ q) same
at_from x (here q) None (d, e, f) = absurd (cc)
at_from x inner (Some b) e = absurd (cc)
at_from x inner None e = tt

from_number : (x : List ℕ) (res : Read Number) → SoundNumber x res → NumberAtSound x res
from_number x (got n r) k = k
from_number x (bad e p) k = record { place = k.place; fault = FaultyNumber.faulty k.fault; is_at = at_from x p k.place k.is_place }

no_number_at : (c : ℕ) (r : List ℕ) → (is_sign c || begins_number c) ≡ false → number (c ∷ r) ≡ bad (Some ExpectedNumber) (here (c ∷ r))
unfolding number unsigned
no_number_at c r h =
    let plus : (c == 43) ≡ false = grind (arith, nat_tests) in
    let minus : (c == 45) ≡ false = grind (arith, nat_tests) in
    let infinity : (c == 73) ≡ false = grind (arith, nat_tests) in
    let nan : (c == 78) ≡ false = grind (arith, nat_tests) in
    let zero_sign : (c == 48) ≡ false = grind (arith, nat_tests) in
    let run : begins_run c ≡ false = grind (arith, nat_tests) in
    rw run (rw (plus, minus, infinity, nan, zero_sign) refl)

number_end_at : number [] ≡ bad (Some EofParsingNumber) inner
unfolding number
number_end_at = refl

number_at_sound : (x : List ℕ) → NumberAtSound x (number x)
number_at_sound [] = subst (NumberAtSound []) (sym number_end_at) (record { place = None; fault = number_missing; is_at = tt })
number_at_sound (c ∷ r) = by_flag (is_sign c || begins_number c) refl
  where
    by_flag : (b : Bool) → (is_sign c || begins_number c) ≡ b → NumberAtSound (c ∷ r) (number (c ∷ r))
    by_flag true h = from_number (c ∷ r) (number (c ∷ r)) (sound (c ∷ r) h)
    by_flag false h = subst (NumberAtSound (c ∷ r)) (sym (no_number_at c r h)) (record { place = Some []; fault = no_number c r h; is_at = refl })

pub record NumberTaken (x r : List ℕ) (n : Number) : Type 0 where
  pub literal : List ℕ
  pub split : x ≡ literal ++ r
  pub is_number : Num literal n
  pub stops : NotBegun (lengthens literal) r

pub number_taken : (x y r : List ℕ) (n : Number) → x ≡ y → number x ≡ got n r → NumberTaken y r n
number_taken x y r n f e =
    let k = subst (NumberAtSound y) (ap number (sym f) ∙ e) (number_at_sound y) in
    record { literal = k.0; split = k.1; is_number = k.2; stops = k.3 }

faulty_number : (x : List ℕ) (res : Read Number) → NumberAtSound x res → FaultyIn FaultyNumber x res
faulty_number x (got n r) k = tt
faulty_number x (bad e p) k = k

pub number_faulty : (x y : List ℕ) → x ≡ y → FaultyIn FaultyNumber y (number x)
number_faulty x y e = subst (λ z. FaultyIn FaultyNumber y (number z)) (sym e) (faulty_number y (number y) (number_at_sound y))

-- memory doesn't run out at a number in front without digits to keep
pub number_memory : (x y s t : List ℕ) (n : Number) (r : Refusal) → x ≡ y → Refuses r (outcome (number x)) → WantsForDigits r (number x) → y ≡ s ++ t → Num s n → NotBegun (lengthens s) t → keeps_digits n ≡ false → ⊥
number_memory x y s t n r f h k e num stops free =
    let read : number x ≡ got n t = ap number (f ∙ e) ∙ complete num t stops in
    let memory = of_memory r n t (subst (λ z. Refuses r (outcome z)) read h) in
    let kept : keeps_digits n ≡ true = subst (λ z. WantsForDigits z (got n t)) memory (subst (WantsForDigits r) read k) in
    true≢false (sym kept ∙ free)

-- a number in front isn't refused with a fault
pub number_never : (x y s t : List ℕ) (n : Number) (r : Refusal) → x ≡ y → Refuses r (outcome (number x)) → HasFault r → y ≡ s ++ t → Num s n → NotBegun (lengthens s) t → ⊥
number_never x y s t n r f h k e num stops = never_refused r (number x) n t (ap number (f ∙ e) ∙ complete num t stops) h k
