-- The order of decimals by their signs and sizes.
use Rattle.std.proofs.Common.{◌≡◌, ℕ, ◌<◌, Bool, true, false, cond, ◌&&◌, List, [], ◌∷◌, refl, ap, sym, subst, ◌∙◌, arith, Some}
use mir.Syntax.{w16}
use mir.Val.{to_z, of_z}
use Rattle.std.specs.Prelude.{ℤ, pos, neg_ℤ, ◌<ℤ◌, ◌-ℤ◌}
use Rattle.std.specs.Int.{int_min}
use Rattle.std.specs.Ordering.{MatchOrdering, int_cmp, bool_cmp, ordering_reverse}
use Rattle.std.specs.declared.cmp.Ordering.{Ordering}
use Rattle.std.specs.declared.cmp.Ordering.TheVariants.{Less, Equal, Greater}
use Rattle.std.proofs.lemmas.Cmp.{ranked, int_ranked}
use Rattle.std.proofs.lemmas.Int.{ints}
use Rattle.json5_grammar.specs.Language.Characters.{no_char}
use Rattle.json5_grammar.specs.Language.Numbers.{Decimal, infinite, nan, finite, is_empty, signed}
use Rattle.json5_grammar.specs.Written.NumberText.{Normal, IsNormal}
use Rattle.json5_types.specs.NumberDecimals.{has_minus, is_not_a_number, digits_in, exponent_in}
use Rattle.json5_types.specs.NumberWholes.{distance}
use Rattle.json5_types.proofs.NumberZeros.{held}
use Rattle.json5_numbers.specs.Orders.{size_in, decimal_cmp}
use Rattle.json5_numbers.specs.SizeOrders.{digits_cmp, size_cmp, is_zero, signed_cmp}
use Rattle.json5_numbers.proofs.DigitOrders.{worth_none, worth_some}

nothing_normal : IsNormal [] (pos 0)
nothing_normal = record {
  digits = no_char;
  bare = refl;
  in_range = (omega (arith, ints), omega (arith, ints));
  zero = λ h. refl;
}

-- what a decimal shows is normal
pub shown_normal : (d : Decimal) → Normal d → IsNormal (digits_in d) (exponent_in d)
shown_normal (infinite m) h = nothing_normal
shown_normal (nan m) h = nothing_normal
shown_normal (finite m ds e) h = h

pub held_normal : (d : Decimal) (ds : List ℕ) (e : ℤ) → Normal d → ds ≡ digits_in d → e ≡ exponent_in d → IsNormal ds (to_z w16 (of_z w16 e))
held_normal d ds e n h k =
    let s = shown_normal d n in
    let same : to_z w16 (of_z w16 e) ≡ exponent_in d = ap (λ z. to_z w16 (of_z w16 z)) k ∙ held (exponent_in d) s.in_range in
    subst (IsNormal ds) (sym same) (subst (λ t. IsNormal t (exponent_in d)) (sym h) s)

-- ---- whole numbers of either sign

abbrev Ranks : Ordering → ℤ → ℤ → Type 0
Ranks r x y = MatchOrdering r (x <ℤ y) (x ≡ y) (y <ℤ x)

one_rank : (o r : Ordering) (x y : ℤ) → Ranks o x y → Ranks r x y → o ≡ r
one_rank Less Less x y h k = refl
one_rank Less Equal x y h k = absurd (omega (arith, ints, h, k))
one_rank Less Greater x y h k = absurd (omega (arith, ints, h, k))
one_rank Equal Less x y h k = absurd (omega (arith, ints, h, k))
one_rank Equal Equal x y h k = refl
one_rank Equal Greater x y h k = absurd (omega (arith, ints, h, k))
one_rank Greater Less x y h k = absurd (omega (arith, ints, h, k))
one_rank Greater Equal x y h k = absurd (omega (arith, ints, h, k))
one_rank Greater Greater x y h k = refl

is_int_cmp : (r : Ordering) (x y : ℤ) → Ranks r x y → int_cmp x y ≡ r
is_int_cmp r x y h = one_rank (int_cmp x y) r x y (int_ranked x y (int_cmp x y) refl) h

above_zero : (a b : ℕ) (r : Ordering) → MatchOrdering r (a < b) (a ≡ b) (b < a) → int_cmp (pos a) (pos b) ≡ r
above_zero a b Less h = is_int_cmp Less (pos a) (pos b) (omega (arith, ints, h))
above_zero a b Equal h = is_int_cmp Equal (pos a) (pos b) (ap pos h)
above_zero a b Greater h = is_int_cmp Greater (pos a) (pos b) (omega (arith, ints, h))

below_zero : (a b : ℕ) (r : Ordering) → MatchOrdering r (a < b) (a ≡ b) (b < a) → int_cmp (neg_ℤ (pos a)) (neg_ℤ (pos b)) ≡ ordering_reverse r
below_zero a b Less h = is_int_cmp Greater (neg_ℤ (pos a)) (neg_ℤ (pos b)) (omega (arith, ints, h))
below_zero a b Equal h = is_int_cmp Equal (neg_ℤ (pos a)) (neg_ℤ (pos b)) (ap (λ (n : ℕ). neg_ℤ (pos n)) h)
below_zero a b Greater h = is_int_cmp Less (neg_ℤ (pos a)) (neg_ℤ (pos b)) (omega (arith, ints, h))

-- ---- finite numbers

module _ (e g : ℤ) where
  abbrev up : ℕ
  up = distance (e -ℤ int_min e g)

  abbrev over : ℕ
  over = distance (g -ℤ int_min e g)

  abbrev left : List ℕ → ℕ
  left ds = size_in (int_min e g) ds e

  abbrev right : List ℕ → ℕ
  right fs = size_in (int_min e g) fs g

  minus_first : (ds fs : List ℕ) → IsNormal ds e → IsNormal fs g → int_cmp (neg_ℤ (pos (left ds))) (pos (right fs)) ≡ cond (is_empty ds && is_empty fs) Equal Less
  minus_first [] [] h k = is_int_cmp Equal (neg_ℤ (pos (left []))) (pos (right [])) (omega (arith, ints, worth_none up, worth_none over))
  minus_first [] (c ∷ t) h k = is_int_cmp Less (neg_ℤ (pos (left []))) (pos (right (c ∷ t))) (omega (arith, ints, worth_none up, worth_some c t over g k))
  minus_first (c ∷ t) fs h k = is_int_cmp Less (neg_ℤ (pos (left (c ∷ t)))) (pos (right fs)) (omega (arith, ints, worth_some c t up e h))

  minus_last : (ds fs : List ℕ) → IsNormal ds e → IsNormal fs g → int_cmp (pos (left ds)) (neg_ℤ (pos (right fs))) ≡ cond (is_empty ds && is_empty fs) Equal Greater
  minus_last [] [] h k = is_int_cmp Equal (pos (left [])) (neg_ℤ (pos (right []))) (omega (arith, ints, worth_none up, worth_none over))
  minus_last [] (c ∷ t) h k = is_int_cmp Greater (pos (left [])) (neg_ℤ (pos (right (c ∷ t)))) (omega (arith, ints, worth_none up, worth_some c t over g k))
  minus_last (c ∷ t) fs h k = is_int_cmp Greater (pos (left (c ∷ t))) (neg_ℤ (pos (right fs))) (omega (arith, ints, worth_some c t up e h))

  finite_ordered : (m n : Bool) (ds fs : List ℕ) → IsNormal ds e → IsNormal fs g → int_cmp (signed m (left ds)) (signed n (right fs)) ≡ signed_cmp m n (is_empty ds && is_empty fs) (digits_cmp ds e fs g)
  finite_ordered false false ds fs h k = above_zero (left ds) (right fs) (digits_cmp ds e fs g) (ranked (left ds) (right fs) (digits_cmp ds e fs g) refl)
  finite_ordered true true ds fs h k = below_zero (left ds) (right fs) (digits_cmp ds e fs g) (ranked (left ds) (right fs) (digits_cmp ds e fs g) refl)
  finite_ordered true false ds fs h k = minus_first ds fs h k
  finite_ordered false true ds fs h k = minus_last ds fs h k

infinities : (m n : Bool) → bool_cmp n m ≡ signed_cmp m n false Equal
infinities false false = refl
infinities false true = refl
infinities true false = refl
infinities true true = refl

infinite_first : (m n : Bool) → cond m Less Greater ≡ signed_cmp m n false Greater
infinite_first false false = refl
infinite_first false true = refl
infinite_first true false = refl
infinite_first true true = refl

infinite_last : (m n : Bool) → cond n Greater Less ≡ signed_cmp m n false Less
infinite_last false false = refl
infinite_last false true = refl
infinite_last true false = refl
infinite_last true true = refl

none_zero : (b : Bool) → (b && false) ≡ false
none_zero true = refl
none_zero false = refl

pub ordered : (d f : Decimal) → is_not_a_number d ≡ false → is_not_a_number f ≡ false → Normal d → Normal f → decimal_cmp d f ≡ Some (signed_cmp (has_minus d) (has_minus f) (is_zero d && is_zero f) (size_cmp d f))
ordered (nan m) f h k p q = absurd (cc)
ordered (infinite m) (nan n) h k p q = absurd (cc)
ordered (infinite m) (infinite n) h k p q = ap Some (infinities m n)
ordered (infinite m) (finite n fs g) h k p q = ap Some (infinite_first m n)
ordered (finite m ds e) (nan n) h k p q = absurd (cc)
ordered (finite m ds e) (infinite n) h k p q = ap Some (infinite_last m n ∙ ap (λ z. signed_cmp m n z Less) (sym (none_zero (is_empty ds))))
ordered (finite m ds e) (finite n fs g) h k p q = ap Some (finite_ordered e g m n ds fs p q)

pub signed_same : {a b z A B Z : Bool} {s S : Ordering} → a ≡ A → b ≡ B → z ≡ Z → s ≡ S → signed_cmp a b z s ≡ signed_cmp A B Z S
signed_same h k l m = rw (h, k, l, m) refl
