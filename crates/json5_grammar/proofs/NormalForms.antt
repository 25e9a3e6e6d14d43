-- A number's value is in range, and a decimal's in normal form.
use Rattle.std.proofs.Common.{◌≡◌, ℕ, Bool, false, List, [], ◌∷◌, ◌++◌, refl, ap, sym, ◌∙◌, Option}
use Rattle.std.specs.Prelude.{◌==◌, ℤ, pos, reverse}
use Rattle.std.proofs.lemmas.List.{append-nil, reverse-append, reverse-reverse}
use Rattle.json5_grammar.specs.Language.Characters.{is_digit, Each, no_char, char}
use Rattle.json5_grammar.specs.Language.Numbers.{Number, whole, decimal, integer, with_point, point_first, Literal, literal, Num, is_infinite, is_nan, is_hexadecimal, is_integer, is_decimal, InWhole, without_front_zeros, without_zeros, normal_exponent, all_digits}
use Rattle.json5_grammar.specs.Written.NumberText.{Normal}
use Rattle.json5_grammar.proofs.CommonLemmas.{by_test}
use Rattle.json5_grammar.proofs.CharacterTests.{Each-append}
use Rattle.json5_grammar.proofs.DecimalLiterals.{integer_digits}
use Rattle.json5_grammar.proofs.DecimalsWritten.{Each-reverse, front_kept}

Each-front : {p : ℕ → Bool} {s : List ℕ} → Each p s → Each p (without_front_zeros s)
Each-front no_char = no_char
Each-front {p = p} (char {c = c} {s = s} h e) = by_test (Each p) (c == 48) (without_front_zeros s) (c ∷ s) (λ k. Each-front e) (λ k. char h e)

Each-bare : {p : ℕ → Bool} {s : List ℕ} → Each p s → Each p (without_zeros s)
Each-bare e = Each-reverse (Each-front (Each-reverse (Each-front e)))

pub front_twice : (s : List ℕ) → without_front_zeros (without_front_zeros s) ≡ without_front_zeros s
front_twice [] = refl
front_twice (c ∷ s) = by_test (λ z. without_front_zeros z ≡ z) (c == 48) (without_front_zeros s) (c ∷ s) (λ k. front_twice s) (λ k. rw k)

-- nothing, or another digit than 0 first
data Shape : List ℕ → Type 0 where
  nothing : Shape []
  other : (c : ℕ) (t : List ℕ) → (c == 48) ≡ false → Shape (c ∷ t)

front_shape : (s : List ℕ) → Shape (without_front_zeros s)
front_shape [] = nothing
front_shape (c ∷ s) = by_test Shape (c == 48) (without_front_zeros s) (c ∷ s) (λ k. front_shape s) (λ k. other c s k)

-- the last one stays
back_kept : (u : List ℕ) (c : ℕ) → (c == 48) ≡ false → (v : List ℕ) × (without_front_zeros (u ++ c ∷ []) ≡ v ++ c ∷ [])
back_kept [] c h = ([], rw h refl)
back_kept (d ∷ u) c h = by_test (λ z. (v : List ℕ) × (z ≡ v ++ c ∷ [])) (d == 48) (without_front_zeros (u ++ c ∷ [])) (d ∷ (u ++ c ∷ [])) (λ k. back_kept u c h) (λ k. (d ∷ u, refl))

back_twice : (a : List ℕ) → Shape a → without_zeros (reverse (without_front_zeros (reverse a))) ≡ reverse (without_front_zeros (reverse a))
back_twice [] nothing = refl
back_twice (c ∷ t) (other d u h) =
    let k = back_kept (reverse t) c h in
    let e : without_front_zeros (reverse (c ∷ t)) ≡ k.0 ++ c ∷ [] = ap without_front_zeros (reverse-append (c ∷ []) t) ∙ k.1 in
    let f : reverse (without_front_zeros (reverse (c ∷ t))) ≡ c ∷ reverse k.0 = ap reverse e ∙ reverse-append k.0 (c ∷ []) in
    let b : List ℕ = without_front_zeros (reverse (c ∷ t)) in
    let g : without_front_zeros (reverse b) ≡ reverse b = ap without_front_zeros f ∙ (ap without_front_zeros (sym (append-nil (c ∷ reverse k.0))) ∙ front_kept c (reverse k.0) [] h ∙ append-nil (c ∷ reverse k.0)) ∙ sym f in
    ap (λ z. reverse (without_front_zeros (reverse z))) g ∙ ap (λ z. reverse (without_front_zeros z)) (reverse-reverse b) ∙ ap reverse (front_twice (reverse (c ∷ t)))

pub bare_twice : (s : List ℕ) → without_zeros (without_zeros s) ≡ without_zeros s
bare_twice s = back_twice (without_front_zeros s) (front_shape s)

zero_exponent : (s : List ℕ) (e : ℤ) → without_zeros s ≡ [] → normal_exponent s e ≡ pos 0
zero_exponent s e h = rw h

literal_digits : {l i : List ℕ} {f : Option (List ℕ)} {w : Option ℤ} → Literal l i f w → Each is_digit (all_digits i f)
literal_digits (literal (integer n) x) = Each-append (integer_digits n) no_char
literal_digits (literal (with_point n d) x) = Each-append (integer_digits n) d
literal_digits (literal (point_first d) x) = d

abbrev pub GoodNumber : Number → Type 0
GoodNumber (whole z) = InWhole z
GoodNumber (decimal d) = Normal d

pub num_normal : {s : List ℕ} {n : Number} → Num s n → GoodNumber n
num_normal (is_infinite g) = tt
num_normal (is_nan g) = tt
num_normal (is_hexadecimal x g k e b) = b
num_normal (is_integer g h b) = b
num_normal (is_decimal {i = i} {f = f} g h n b) = record {
  digits = Each-bare (literal_digits h);
  bare = bare_twice (all_digits i f);
  in_range = b;
  zero = zero_exponent (all_digits i f) _;
}
