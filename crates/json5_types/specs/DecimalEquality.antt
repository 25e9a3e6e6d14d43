-- Decimals are equal exactly when they are the same, and what is equal is hashed alike.
-- A promise rests on this.
use Rattle.std.proofs.Common.{◌≡◌, ℕ, Bool, true, ◌&&◌, nat_eq, List, refl, ap, sym, ◌∙◌}
use Rattle.std.specs.Prelude.{ℤ}
use mathlib.Core.Bool.{true≢false}
use Rattle.std.specs.Bool.{Decides, beq}
use Rattle.std.specs.Ordering.{int_eq}
use Rattle.std.specs.Cmp.{IsEquivalence, IsPartialEquivalence, partial_equiv_from_equiv, decided, booleans_Decides, signed_Decides, unsigned_Decides, first_so, second_so}
use Rattle.std.specs.Cmp.Derive.{both_true}
use Rattle.std.specs.Cmp.Lexicographic.{pointwise, pointwise_decides}
use Rattle.json5_grammar.specs.Language.Numbers.{Decimal, infinite, nan, finite}
use Rattle.json5_types.specs.NumberDecimals.{decimal_eq, decimal_hashed}

digits_Decides : (ds fs : List ℕ) → Decides (pointwise nat_eq ds fs) (ds ≡ fs)
digits_Decides = pointwise_decides unsigned_Decides

finite_from : (m n : Bool) (ds fs : List ℕ) (e g : ℤ) → m ≡ n → ds ≡ fs → e ≡ g → finite m ds e ≡ finite n fs g
finite_from m n ds fs e g h k l = ap (λ z. finite z ds e) h ∙ (ap (λ z. finite n z e) k ∙ ap (finite n fs) l)

eq_means : (x y : Decimal) → decimal_eq x y ≡ true → x ≡ y
eq_means (infinite m) (infinite n) h = ap infinite ((booleans_Decides m n).0 h)
eq_means (infinite m) (nan n) h = absurd (true≢false (sym h))
eq_means (infinite m) (finite n fs g) h = absurd (true≢false (sym h))
eq_means (nan m) (infinite n) h = absurd (true≢false (sym h))
eq_means (nan m) (nan n) h = ap nan ((booleans_Decides m n).0 h)
eq_means (nan m) (finite n fs g) h = absurd (true≢false (sym h))
eq_means (finite m ds e) (infinite n) h = absurd (true≢false (sym h))
eq_means (finite m ds e) (nan n) h = absurd (true≢false (sym h))
eq_means (finite m ds e) (finite n fs g) h =
    let k = second_so (beq m n) (pointwise nat_eq ds fs && int_eq e g) h in
    finite_from m n ds fs e g ((booleans_Decides m n).0 (first_so (beq m n) (pointwise nat_eq ds fs && int_eq e g) h)) ((digits_Decides ds fs).0 (first_so (pointwise nat_eq ds fs) (int_eq e g) k)) ((signed_Decides e g).0 (second_so (pointwise nat_eq ds fs) (int_eq e g) k))

eq_self : (x : Decimal) → decimal_eq x x ≡ true
eq_self (infinite m) = (booleans_Decides m m).1 refl
eq_self (nan m) = (booleans_Decides m m).1 refl
eq_self (finite m ds e) = both_true ((booleans_Decides m m).1 refl) (both_true ((digits_Decides ds ds).1 refl) ((signed_Decides e e).1 refl))

pub decimal_Decides : (x y : Decimal) → Decides (decimal_eq x y) (x ≡ y)
decimal_Decides x y = (eq_means x y, λ e. ap (decimal_eq x) (sym e) ∙ eq_self x)

pub decimal_equivalence : IsEquivalence decimal_eq
decimal_equivalence = decided decimal_eq decimal_Decides

pub decimal_partial_equivalence : IsPartialEquivalence decimal_eq
decimal_partial_equivalence = partial_equiv_from_equiv decimal_equivalence

pub decimals_alike : (x y : Decimal) → decimal_eq x y ≡ true → decimal_hashed x ≡ decimal_hashed y
decimals_alike x y h = ap decimal_hashed (eq_means x y h)
