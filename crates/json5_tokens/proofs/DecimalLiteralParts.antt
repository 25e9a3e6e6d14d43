-- Parts of a decimal literal, as code finds them.
use Rattle.std.proofs.Common.{◌≡◌, ℕ, ◌<◌, Bool, true, false, ◌&&◌, ◌||◌, List, [], ◌∷◌, ◌++◌, length, refl, ap, sym, ◌∙◌, arith, Option, Some, None}
use Rattle.std.specs.Prelude.{◌==◌, not, ℤ}
use Rattle.std.proofs.lemmas.List.{append-nil}
use Rattle.json5_grammar.specs.Language.Characters.{is_digit}
use Rattle.json5_grammar.specs.Language.Numbers.{is_empty, signed, spelled}
use Rattle.json5_grammar.specs.Model.ReadNumbers.{front_of, rest_of, exponent_digits, exponent_at, is_integer, no_point, at_point, point_or, literal_at}
use Rattle.json5_grammar.proofs.CharacterTests.{front_rest}

-- ---- the digits of an exponent

digit_first : (c : ℕ) (x f : List ℕ) → is_digit c ≡ true → f ≡ front_of is_digit (c ∷ x) → length f ≡ 0 → ⊥
unfolding front_of
digit_first c x f d e h = let k : f ≡ c ∷ front_of is_digit x = rw d at e in omega (arith, ap length k)

pub exponent_no_digit : (m : Bool) (x f : List ℕ) → f ≡ front_of is_digit x → length f ≡ 0 → exponent_digits m x ≡ None
exponent_no_digit m [] f e h = refl
exponent_no_digit m (c ∷ x) f e h = by (is_digit c) refl
  where
    by : (o : Bool) → is_digit c ≡ o → exponent_digits m (c ∷ x) ≡ None
    by false d = rw d refl
    by true d = absurd (digit_first c x f d e h)

rest_past : (c : ℕ) (x : List ℕ) → is_digit c ≡ true → rest_of is_digit (c ∷ x) ≡ rest_of is_digit x
unfolding rest_of
rest_past c x d = rw d refl

rest_here : (c : ℕ) (x : List ℕ) → is_digit c ≡ false → rest_of is_digit (c ∷ x) ≡ c ∷ x
unfolding rest_of
rest_here c x d = rw d refl

pub exponent_more : (m : Bool) (x : List ℕ) → is_empty (rest_of is_digit x) ≡ false → exponent_digits m x ≡ None
exponent_more m [] h = refl
exponent_more m (c ∷ x) h = by (is_digit c) refl
  where
    by : (o : Bool) → is_digit c ≡ o → exponent_digits m (c ∷ x) ≡ None
    by false d = rw d refl
    by true d = let k : is_empty (rest_of is_digit x) ≡ false = ap is_empty (sym (rest_past c x d)) ∙ h in rw (d, k) refl

all_front : (x f : List ℕ) → f ≡ front_of is_digit x → rest_of is_digit x ≡ [] → x ≡ f
all_front x f e h = front_rest is_digit x ∙ ap (λ z. front_of is_digit x ++ z) h ∙ append-nil (front_of is_digit x) ∙ sym e

pub exponent_found : (m : Bool) (x f : List ℕ) → f ≡ front_of is_digit x → 0 < length f → rest_of is_digit x ≡ [] → exponent_digits m x ≡ Some (Some (signed m (spelled 10 0 f)))
exponent_found m [] f e h k = let l = all_front [] f e k in absurd (omega (arith, ap length l))
exponent_found m (c ∷ x) f e h k = by (is_digit c) refl
  where
    by : (o : Bool) → is_digit c ≡ o → exponent_digits m (c ∷ x) ≡ Some (Some (signed m (spelled 10 0 f)))
    by false d = let l = sym (rest_here c x d) ∙ k in absurd (omega (arith, ap length l))
    by true d =
        let l : is_empty (rest_of is_digit x) ≡ true = ap is_empty (sym (rest_past c x d) ∙ k) in
        rw (d, l) (ap (λ z. Some (Some (signed m (spelled 10 0 z)))) (all_front (c ∷ x) f e k))

-- ---- literals

at_literal : (x i y : List ℕ) → i ≡ front_of is_digit x → y ≡ rest_of is_digit x → literal_at x ≡ point_or i y
unfolding literal_at
at_literal x i y e h = rw (e, h) refl

plain_end : (i y : List ℕ) → y ≡ [] → point_or i y ≡ no_point i y
plain_end i y h = rw h refl

pub literal_ends : (x i y : List ℕ) → i ≡ front_of is_digit x → y ≡ rest_of is_digit x → y ≡ [] → literal_at x ≡ no_point i y
literal_ends x i y e h k = at_literal x i y e h ∙ plain_end i y k

plain_other : (i y t : List ℕ) (c : ℕ) → y ≡ c ∷ t → (c == 46) ≡ false → point_or i y ≡ no_point i y
plain_other i y t c h k = rw h (rw k refl)

pub literal_plain : (x i y t : List ℕ) (c : ℕ) → i ≡ front_of is_digit x → y ≡ rest_of is_digit x → y ≡ c ∷ t → (c == 46) ≡ false → literal_at x ≡ no_point i y
literal_plain x i y t c e h k n = at_literal x i y e h ∙ plain_other i y t c k n

-- the literal with a point: digits before, digits after, and what follows
pub literal_pointed : (x i y t f z : List ℕ) (c : ℕ) → i ≡ front_of is_digit x → y ≡ rest_of is_digit x → y ≡ c ∷ t → c ≡ 46 → f ≡ front_of is_digit t → z ≡ rest_of is_digit t → literal_at x ≡ at_point i f z
literal_pointed x i y t f z c e h k n g l = at_literal x i y e h ∙ ap (point_or i) (k ∙ ap (λ d. d ∷ t) n) ∙ rw (g, l) refl

pub point_without_digits : (i f z : List ℕ) (b : Bool) → b ≡ (is_integer i || (is_empty i && not (is_empty f))) → b ≡ false → at_point i f z ≡ None
point_without_digits i f z b e h = let k = sym e ∙ h in rw k refl

pub point_without_exponent : (i f z : List ℕ) (b : Bool) → b ≡ (is_integer i || (is_empty i && not (is_empty f))) → b ≡ true → exponent_at z ≡ None → at_point i f z ≡ None
point_without_exponent i f z b e h l = let k = sym e ∙ h in rw (k, l) refl

pub point_found : (i f z : List ℕ) (b : Bool) (w : Option ℤ) → b ≡ (is_integer i || (is_empty i && not (is_empty f))) → b ≡ true → exponent_at z ≡ Some w → at_point i f z ≡ Some (record { before = i; after = Some f; raised = w })
point_found i f z b w e h l = let k = sym e ∙ h in rw (k, l) refl
