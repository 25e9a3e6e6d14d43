-- A pointer, a part at a time.
use Rattle.std.proofs.Common.{◌≡◌, ◌≢◌, ℕ, suc, ◌<◌, List, [], ◌∷◌, ◌++◌, length, get_or, Option, None, Some, option_and_then, refl, ap, arith, ne_eqb}
use Rattle.json5_types.specs.ValueMeanings.{Datum}
use Rattle.json5_types.specs.Pointers.{step_from, steps_from, parts_of, pointed}

abbrev pub Lacks : ℕ → List ℕ → Type 0
Lacks c xs = (i : ℕ) → i < length xs → get_or xs i 0 ≢ c

parts_split : (xs rest : List ℕ) → Lacks 47 xs → parts_of (xs ++ 47 ∷ rest) ≡ xs ∷ parts_of rest
parts_split [] rest h = refl
parts_split (x ∷ xs) rest h = rw (ne_eqb x 47 (h 0 (omega arith)), parts_split xs rest (λ i less. h (suc i) (omega arith))) refl

parts_last : (xs : List ℕ) → Lacks 47 xs → parts_of xs ≡ xs ∷ []
parts_last [] h = refl
parts_last (x ∷ xs) h = rw (ne_eqb x 47 (h 0 (omega arith)), parts_last xs (λ i less. h (suc i) (omega arith))) refl

pub steps_part : (xs rest : List ℕ) (x : Datum) → Lacks 47 xs → steps_from (parts_of (xs ++ 47 ∷ rest)) x ≡ option_and_then (steps_from (parts_of rest)) (step_from xs x)
steps_part xs rest x h = rw (parts_split xs rest h) refl

at_end : (found : Option Datum) → option_and_then (steps_from []) found ≡ found
at_end None = refl
at_end (Some x) = refl

pub steps_last : (xs : List ℕ) (x : Datum) → Lacks 47 xs → steps_from (parts_of xs) x ≡ step_from xs x
steps_last xs x h = rw (parts_last xs h) (at_end (step_from xs x))

pub no_slash : (xs : List ℕ) (x : Datum) → 0 < length xs → ((rest : List ℕ) → xs ≢ 47 ∷ rest) → pointed xs x ≡ None
no_slash [] x some h = absurd (omega arith)
no_slash (c ∷ s) x some h = rw (ne_eqb c 47 (λ e. h s (ap (λ y. y ∷ s) e))) refl
