-- Equal numbers have one form.
use Rattle.std.proofs.Common.{◌≡◌, ◌∙◌, ℕ, Bool, true, false, ◌&&◌, ◌||◌, List, [], ◌∷◌, length, Some, refl, sym, ap, true≢false, arith}
use Rattle.std.specs.Prelude.{◌==◌, ℤ, pos, ◌+ℤ◌}
use Rattle.std.specs.Ordering.{nat_cmp, int_cmp, bool_cmp, ordering_then}
use Rattle.std.specs.declared.cmp.Ordering.{Ordering}
use Rattle.std.specs.declared.cmp.Ordering.TheVariants.{Less, Equal, Greater}
use Rattle.std.specs.Cmp.{signed_Decides}
use Rattle.std.specs.Cmp.Lexicographic.{slice_cmp}
use Rattle.std.proofs.lemmas.Bool.Decides.{nat_tests}
use Rattle.std.proofs.lemmas.Int.{ints}
use Rattle.std.proofs.lemmas.Map.Lookups.{exact_bytes, exact_signed}
use Rattle.json5_grammar.specs.Language.Numbers.{Decimal, infinite, nan, finite, Number, whole, decimal, is_empty}
use Rattle.json5_grammar.specs.Written.NumberText.{IsNormal, Normal}
use Rattle.json5_types.specs.NumberDecimals.{decimal_eq}
use Rattle.json5_types.specs.DecimalEquality.{decimal_Decides}
use Rattle.json5_numbers.specs.NumberTexts.{decimal_of}
use Rattle.json5_numbers.specs.Orders.{decimal_cmp}
use Rattle.json5_numbers.specs.SizeOrders.{digits_cmp, signed_cmp}
use Rattle.json5_numbers.specs.Sameness.{is_equal, same_decimals, same_number}
use Rattle.json5_numbers.proofs.DecimalOrders.{ordered}
use Rattle.json5_numbers.proofs.DigitOrders.{by_none, by_both, full, right_true}
use Rattle.json5_schema.specs.CanonicalForms.{decimal_form}

-- ---- orders that are `Equal`

then_equal : (o r : Ordering) → is_equal (Some (ordering_then o r)) ≡ true → (o ≡ Equal) × (r ≡ Equal)
then_equal Less r h = absurd (true≢false (sym h))
then_equal Equal Less h = absurd (true≢false (sym h))
then_equal Equal Equal h = (refl, refl)
then_equal Equal Greater h = absurd (true≢false (sym h))
then_equal Greater r h = absurd (true≢false (sym h))

-- where not both numbers are zero
signs_equal : (m n : Bool) (o : Ordering) → is_equal (Some (signed_cmp m n false o)) ≡ true → (m ≡ n) × (is_equal (Some o) ≡ true)
signs_equal false false o h = (refl, h)
signs_equal true true Less h = absurd (true≢false (sym h))
signs_equal true true Equal h = (refl, refl)
signs_equal true true Greater h = absurd (true≢false (sym h))
signs_equal true false o h = absurd (true≢false (sym h))
signs_equal false true o h = absurd (true≢false (sym h))

is_same : (a b : Bool) → (a || b) ≡ true → (a ≡ false → b ≡ true)
is_same true b h e = absurd (true≢false e)
is_same false b h e = h

-- ---- finite numbers

finite_form : (m n : Bool) (ds fs : List ℕ) (e g : ℤ) → m ≡ n → ds ≡ fs → e ≡ g → decimal_form (finite m ds e) ≡ decimal_form (finite n fs g)
finite_form m n ds fs e g h k l = ap (λ z. decimal_form (finite z ds e)) h ∙ (ap (λ z. decimal_form (finite n z e)) k ∙ ap (λ z. decimal_form (finite n fs z)) l)

-- digits that are equal reach as far
one_exponent : (ds fs : List ℕ) (e g : ℤ) → ds ≡ fs → pos (length ds) +ℤ e ≡ pos (length fs) +ℤ g → e ≡ g
one_exponent ds fs e g h k = omega (arith, ints, k, ap length h)

digits_form : (m n : Bool) (ds fs : List ℕ) (e g : ℤ) → IsNormal ds e → IsNormal fs g → (ds ≡ [] → ⊥) → (fs ≡ [] → ⊥) → m ≡ n → is_equal (Some (digits_cmp ds e fs g)) ≡ true → decimal_form (finite m ds e) ≡ decimal_form (finite n fs g)
digits_form m n ds fs e g p q some also signs h =
    let reach = int_cmp (pos (length ds) +ℤ e) (pos (length fs) +ℤ g) in
    let both = then_equal reach (slice_cmp nat_cmp ds fs) (ap (λ o. is_equal (Some o)) (by_both ds e fs g p q some also) ∙ h) in
    let one = exact_bytes ds fs both.1 in
    finite_form m n ds fs e g signs one (one_exponent ds fs e g one (exact_signed _ _ both.0))

-- the sign of zero doesn't count
zero_form : (m : Bool) (e : ℤ) → decimal_form (finite m [] e) ≡ decimal_form (finite false [] e)
zero_form true e = refl
zero_form false e = refl

some_digits : (c : ℕ) (t : List ℕ) → (length (c ∷ t) == 0) ≡ false
some_digits c t = grind (arith, nat_tests)

is_finite : (m n : Bool) (ds fs : List ℕ) (e g : ℤ) → IsNormal ds e → IsNormal fs g → is_equal (Some (signed_cmp m n (is_empty ds && is_empty fs) (digits_cmp ds e fs g))) ≡ true
    → decimal_form (finite m ds e) ≡ decimal_form (finite n fs g)
is_finite m n [] [] e g p q h = zero_form m e ∙ ap (λ z. decimal_form (finite false [] z)) (p.zero refl ∙ sym (q.zero refl)) ∙ sym (zero_form n g)
is_finite m n [] (c ∷ t) e g p q h =
    let equal = ap (λ o. is_equal (Some o)) (by_none [] e (c ∷ t) g p q refl) ∙ (signs_equal m n (digits_cmp [] e (c ∷ t) g) h).1 in
    absurd (true≢false (sym equal ∙ ap (λ b. is_equal (Some (bool_cmp b true))) (some_digits c t)))
is_finite m n (c ∷ t) [] e g p q h =
    let equal = ap (λ o. is_equal (Some o)) (by_none (c ∷ t) e [] g p q (right_true (length (c ∷ t) == 0) true refl)) ∙ (signs_equal m n (digits_cmp (c ∷ t) e [] g) h).1 in
    absurd (true≢false (sym equal ∙ ap (λ b. is_equal (Some (bool_cmp true b))) (some_digits c t)))
is_finite m n (c ∷ t) (d ∷ s) e g p q h =
    let both = signs_equal m n (digits_cmp (c ∷ t) e (d ∷ s) g) h in
    digits_form m n (c ∷ t) (d ∷ s) e g p q (full (c ∷ t) (some_digits c t)) (full (d ∷ s) (some_digits d s)) both.0 both.1

-- ---- all numbers

by_order : (d f : Decimal) → Normal d → Normal f → is_equal (decimal_cmp d f) ≡ true → decimal_form d ≡ decimal_form f
by_order (nan m) f p q h = absurd (true≢false (sym h))
by_order (infinite m) (nan n) p q h = absurd (true≢false (sym h))
by_order (infinite false) (infinite false) p q h = refl
by_order (infinite false) (infinite true) p q h = absurd (true≢false (sym h))
by_order (infinite true) (infinite false) p q h = absurd (true≢false (sym h))
by_order (infinite true) (infinite true) p q h = refl
by_order (infinite false) (finite n fs g) p q h = absurd (true≢false (sym h))
by_order (infinite true) (finite n fs g) p q h = absurd (true≢false (sym h))
by_order (finite m ds e) (nan n) p q h = absurd (true≢false (sym h))
by_order (finite m ds e) (infinite false) p q h = absurd (true≢false (sym h))
by_order (finite m ds e) (infinite true) p q h = absurd (true≢false (sym h))
by_order (finite m ds e) (finite n fs g) p q h = is_finite m n ds fs e g p q (ap is_equal (sym (ordered (finite m ds e) (finite n fs g) refl refl p q)) ∙ h)

one_decimal : (d f : Decimal) → Normal d → Normal f → same_decimals d f ≡ true → decimal_form d ≡ decimal_form f
one_decimal d f p q h = go (decimal_eq d f) refl
  where
    go : (b : Bool) → decimal_eq d f ≡ b → decimal_form d ≡ decimal_form f
    go true e = ap decimal_form ((decimal_Decides d f).0 e)
    go false e = by_order d f p q (is_same (decimal_eq d f) (is_equal (decimal_cmp d f)) h e)

pub one_number : (m n : Number) → Normal (decimal_of m) → Normal (decimal_of n) → same_number m n ≡ true → decimal_form (decimal_of m) ≡ decimal_form (decimal_of n)
one_number (whole z) (whole w) p q h = ap (λ y. decimal_form (decimal_of (whole y))) ((signed_Decides z w).0 h)
one_number (whole z) (decimal f) p q h = one_decimal (decimal_of (whole z)) f p q h
one_number (decimal d) (whole w) p q h = sym (one_decimal (decimal_of (whole w)) d q p h)
one_number (decimal d) (decimal f) p q h = one_decimal d f p q h
