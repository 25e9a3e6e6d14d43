-- The number that a literal means, as code finds it.
use Rattle.std.proofs.Common.{◌≡◌, ℕ, zero, suc, ◌+◌, ◌-◌, ◌^◌, ◌<◌, ◌≤◌, min, Bool, true, false, cond, List, ◌++◌, length, refl, ap, sym, subst, ◌∙◌, arith, Option, Some, None}
use Rattle.std.specs.Prelude.{[], IfSome, ℤ, pos, ◌+ℤ◌, ◌-ℤ◌}
use denote.Ref.{Bor}
use Rattle.json5_grammar.specs.Language.Characters.{is_digit, Each, no_char}
use Rattle.std.specs.Option.{is_some, option_map, unwrap_or}
use Rattle.std.proofs.lemmas.Bool.Decides.{nat_tests}
use Rattle.std.proofs.lemmas.List.{length-append}
use Rattle.json5_grammar.specs.declared.error_code.ErrorCode.TheVariants.{OverflowParsingNumber}
use Rattle.json5_grammar.specs.Language.Numbers.{Decimal, finite, whole, decimal, signed, spelled, InExponents, is_empty, without_front_zeros, without_zeros, normal_exponent, digits_after, written, all_digits, exponent_of}
use Rattle.json5_grammar.specs.Model.FixedWidthNumbers.{checked}
use Rattle.json5_grammar.specs.Model.Reading.{got, bad, here}
use Rattle.json5_grammar.specs.Model.ReadNumbers.{is_whole, in_whole, in_exponents, judged, if_literal}
use Rattle.json5_grammar.proofs.CharacterTests.{in_exponents_yes, in_exponents_true}
use Rattle.json5_grammar.proofs.FixedWidthLaws.{IsChecked, checked_is, capped_range, capped_same}
use Rattle.json5_tokens.specs.declared.numbers.decimal_literals.Exponent.{Exponent}
use Rattle.json5_tokens.specs.declared.numbers.decimal_literals.DecimalLiteral.{DecimalLiteral}
use Rattle.json5_tokens.specs.NumberParts.{raised_of, parts_of, limited_exponent, is_whole_literal, MeansDecimal}
use Rattle.json5_types.specs.NumberDecimals.{IsFiniteIfInRange}
use mathlib.Core.Bool.{true≢false}
use Rattle.json5_grammar.proofs.DecimalsWritten.{length-front}

-- ---- whole numbers

pub whole_at : {B E : Type 0} (m : Bool) (i : List ℕ) (g : B → List ℕ) (h : E → ℤ) (b : Option B) (e : Option E) → is_some b ≡ false → is_some e ≡ false → is_whole m i (option_map g b) (option_map h e) ≡ in_whole (signed m (spelled 10 0 i))
whole_at m i g h None None p q = refl
whole_at m i g h None (Some e) p q = cc
whole_at m i g h (Some b) e p q = cc

pub not_whole : (m : Bool) (l : DecimalLiteral) → (is_whole_literal m l ≡ true → ⊥) → is_whole_literal m l ≡ false
not_whole m l n = by (is_whole_literal m l) refl
  where
    by : (b : Bool) → is_whole_literal m l ≡ b → b ≡ false
    by true h = absurd (n h)
    by false h = refl

large : (m : Bool) (n : ℕ) → 2 ^ 128 ≤ n → in_whole (signed m n) ≡ false
large false n h = grind (arith, nat_tests)
large true zero h = absurd (omega arith)
large true (suc k) h = grind (arith, nat_tests)

-- the value that was found
pub value_found : (s : List ℕ) (k : ℕ) → Some k ≡ checked (2 ^ 128) 10 0 s → k ≡ spelled 10 0 s
value_found s k e = let h : IsChecked (2 ^ 128) (spelled 10 0 s) (Some k) = subst (IsChecked (2 ^ 128) (spelled 10 0 s)) (sym e) (checked_is (2 ^ 128) 10 0 s (omega arith) (omega arith)) in h.0

pub value_past : (s : List ℕ) (m : Bool) → None ≡ checked (2 ^ 128) 10 0 s → in_whole (signed m (spelled 10 0 s)) ≡ false
value_past s m e = let h : IsChecked (2 ^ 128) (spelled 10 0 s) None = subst (IsChecked (2 ^ 128) (spelled 10 0 s)) (sym e) (checked_is (2 ^ 128) 10 0 s (omega arith) (omega arith)) in large m (spelled 10 0 s) h

-- ---- the exponent

-- in range together, and then the same
abbrev pub Agree : ℤ → ℤ → Type 0
Agree a b = (InExponents a → a ≡ b) × (InExponents b → InExponents a)

agree_self : (a : ℤ) → Agree a a
agree_self a = (λ h. refl, λ h. h)

agree_if : (b : Bool) (x y z : ℤ) → Agree y z → Agree (cond b x y) (cond b x z)
agree_if true x y z h = agree_self x
agree_if false x y z h = h

agree_limited : (m : Bool) (w f g limit : ℕ) → f + 32768 ≤ limit → g + 32769 ≤ limit → Agree (signed m (min limit w) -ℤ pos f +ℤ pos g) (signed m w -ℤ pos f +ℤ pos g)
agree_limited m w f g limit h k = (
  λ r. ap (λ z. signed m z -ℤ pos f +ℤ pos g) (capped_same m w f g limit h k (in_exponents_true (signed m (min limit w) -ℤ pos f +ℤ pos g) r)),
  λ r. in_exponents_yes (signed m (min limit w) -ℤ pos f +ℤ pos g) (capped_range m w f g limit h k ∙ in_exponents_true (signed m w -ℤ pos f +ℤ pos g) r),
)

pub agree_exponent : (ds : List ℕ) (x : Option Exponent) (f : ℕ) → f + 32768 ≤ 2 ^ 100 → length ds + 32769 ≤ 2 ^ 100 → Agree (normal_exponent ds (limited_exponent (2 ^ 100) x -ℤ pos f)) (normal_exponent ds (written (option_map raised_of x) -ℤ pos f))
agree_exponent ds None f h k = agree_self (normal_exponent ds (pos 0 -ℤ pos f))
agree_exponent ds (Some e) f h k =
    let g : ℕ = length (without_front_zeros ds) - length (without_zeros ds) in
    agree_if (is_empty (without_zeros ds)) (pos 0) (signed e.negative (min (2 ^ 100) (spelled 10 0 e.digits.now)) -ℤ pos f +ℤ pos g) (signed e.negative (spelled 10 0 e.digits.now) -ℤ pos f +ℤ pos g)
    (agree_limited e.negative (spelled 10 0 e.digits.now) f g (2 ^ 100) h (omega (arith, length-front ds)))

-- ---- the number

pub judged_whole : (q : List ℕ) (m : Bool) (r i : List ℕ) (f : Option (List ℕ)) (w : Option ℤ) → is_whole m i f w ≡ true → judged q m r i f w ≡ got (whole (signed m (spelled 10 0 i))) r
unfolding judged
judged_whole q m r i f w h = rw h refl

pub judged_decimal : (q : List ℕ) (m : Bool) (r i : List ℕ) (f : Option (List ℕ)) (w : Option ℤ) (d : Decimal) (e : ℤ) → is_whole m i f w ≡ false → Agree e (exponent_of i f w) → InExponents e → d ≡ finite m (without_zeros (all_digits i f)) e → judged q m r i f w ≡ got (decimal d) r
unfolding judged
judged_decimal q m r i f w d e h a k g =
    let x = a.0 k in
    let t = in_exponents_true (exponent_of i f w) (subst InExponents x k) in
    rw (h, t) (ap (λ z. got (decimal z) r) (sym (g ∙ ap (finite m (without_zeros (all_digits i f))) x)))

not_in_range : (z : ℤ) → (InExponents z → ⊥) → in_exponents z ≡ false
not_in_range z n = by (in_exponents z) refl
  where
    by : (b : Bool) → in_exponents z ≡ b → b ≡ false
    by true h = absurd (n (in_exponents_yes z h))
    by false h = refl

pub judged_past : (q : List ℕ) (m : Bool) (r i : List ℕ) (f : Option (List ℕ)) (w : Option ℤ) (e : ℤ) → is_whole m i f w ≡ false → Agree e (exponent_of i f w) → (InExponents e → ⊥) → judged q m r i f w ≡ bad (Some OverflowParsingNumber) (here q)
unfolding judged
judged_past q m r i f w e h a n = let t = not_in_range (exponent_of i f w) (λ k. n (a.1 k)) in rw (h, t) refl

-- the digits after the point, or no digits
pub after_or : (o : Option (Bor (List ℕ))) (d : Bor (List ℕ)) → d.now ≡ [] → (unwrap_or o d).now ≡ digits_after (option_map (λ digits. digits.now) o)
after_or None d e = e
after_or (Some x) d e = refl

pub after_each : (o : Option (Bor (List ℕ))) (d : Bor (List ℕ)) → d.now ≡ [] → IfSome o (λ digits. Each is_digit digits.now) → Each is_digit (unwrap_or o d).now
after_each None d e h = rw e no_char
after_each (Some x) d e h = h

-- a literal's number, with the digits after the point and the lowered exponent that code has
pub record Found (l : DecimalLiteral) (after : List ℕ) (e : ℤ) : Type 0 where
  pub after_is : after ≡ digits_after (parts_of l).after
  pub exponent_is : e ≡ limited_exponent (2 ^ 100) l.exponent -ℤ pos (length after)
  pub short : length (l.before.now ++ after) < 2 ^ 64

pub found_is : (l : DecimalLiteral) (after : List ℕ) (r e : ℤ) → after ≡ digits_after (parts_of l).after → r ≡ limited_exponent (2 ^ 100) l.exponent -ℤ pos (length after) → e ≡ r → length l.before.now < 2 ^ 63 → length after < 2 ^ 63 → Found l after e
found_is l after r e h k f a b = record { after_is = h; exponent_is = f ∙ k; short = omega (arith, length-append l.before.now after) }

agree_found : (l : DecimalLiteral) (after : List ℕ) (e : ℤ) → Found l after e → Agree (normal_exponent (l.before.now ++ after) e) (exponent_of (parts_of l).before (parts_of l).after (parts_of l).raised)
agree_found l after e h =
    let s = h.short in
    let a = agree_exponent (l.before.now ++ after) l.exponent (length after) (omega (arith, length-append l.before.now after)) (omega arith) in
    rw (h.exponent_is, ← h.after_is) a

pub literal_decimal : (q : List ℕ) (m : Bool) (r : List ℕ) (l : DecimalLiteral) (after : List ℕ) (e : ℤ) (d : Decimal) → Found l after e → is_whole_literal m l ≡ false → InExponents (normal_exponent (l.before.now ++ after) e)
    → d ≡ finite m (without_zeros (l.before.now ++ after)) (normal_exponent (l.before.now ++ after) e) → if_literal q m r (Some (parts_of l)) ≡ got (decimal d) r
literal_decimal q m r l after e d h w k g =
    judged_decimal q m r (parts_of l).before (parts_of l).after (parts_of l).raised d (normal_exponent (l.before.now ++ after) e) w (agree_found l after e h) k
    (g ∙ ap (λ z. finite m (without_zeros (l.before.now ++ z)) (normal_exponent (l.before.now ++ after) e)) h.after_is)

pub literal_past : (q : List ℕ) (m : Bool) (r : List ℕ) (l : DecimalLiteral) (after : List ℕ) (e : ℤ) → Found l after e → is_whole_literal m l ≡ false → (InExponents (normal_exponent (l.before.now ++ after) e) → ⊥)
    → if_literal q m r (Some (parts_of l)) ≡ bad (Some OverflowParsingNumber) (here q)
literal_past q m r l after e h w n = judged_past q m r (parts_of l).before (parts_of l).after (parts_of l).raised (normal_exponent (l.before.now ++ after) e) w (agree_found l after e h) n

pub means_decimal : (m : Bool) (l : DecimalLiteral) (after : List ℕ) (e : ℤ) (o : Option Decimal) → Found l after e → is_whole_literal m l ≡ false → IsFiniteIfInRange m (l.before.now ++ after) e o → MeansDecimal m l o
means_decimal m l after e None h w k = λ q r. literal_past q m r l after e h w (λ i. true≢false (sym (k.in_range.1 i)))
means_decimal m l after e (Some d) h w k = λ q r. literal_decimal q m r l after e d h w (k.in_range.0 refl) k.value
