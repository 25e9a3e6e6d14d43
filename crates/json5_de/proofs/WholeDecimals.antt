-- The digits of a whole number make a decimal.
use Rattle.std.proofs.Common.{ℕ, ◌-◌, ◌%◌, ◌^◌, ◌<◌, ◌≤◌, List, [], ◌∷◌, length, arith}
use Rattle.std.specs.Prelude.{◌==◌, ℤ, pos, negsuc, nat_abs, ◌+ℤ◌}
use Rattle.std.specs.Fmt.{decimal}
use Rattle.std.proofs.lemmas.Fmt.{decimal_by_steps_wide, length-decimal-le_wide}
use Rattle.std.proofs.lemmas.Int.{ints}
use Rattle.json5_grammar.specs.Language.Characters.{is_digit, Each, no_char, char}
use Rattle.json5_grammar.specs.Language.Numbers.{without_front_zeros, without_zeros, is_empty, normal_exponent, InExponents, InWhole}
use Rattle.json5_grammar.proofs.CommonLemmas.{by_test}
use Rattle.json5_grammar.proofs.CharacterTests.{Each-append}
use Rattle.json5_grammar.proofs.WholesWritten.{glyph_digit}

all_digits : (n : ℕ) → n < 10 ^ 64 → Each is_digit (decimal n)
all_digits = decimal_by_steps_wide (λ n ds. Each is_digit ds)
    (λ n h. char (glyph_digit n h) no_char)
    (λ n ds h k. Each-append k (char (glyph_digit (n % 10) (omega arith)) no_char))

front_length : (s : List ℕ) → length (without_front_zeros s) ≤ length s
front_length [] = omega arith
front_length (c ∷ s) =
    by_test (λ z. length z ≤ length (c ∷ s)) (c == 48) (without_front_zeros s) (c ∷ s)
    (λ _. let shorter = front_length s in omega arith)
    (λ _. omega arith)

few_digits : (s : List ℕ) → length s ≤ 39 → InExponents (normal_exponent s (pos 0))
few_digits s h =
    let shorter = front_length s in
    by_test InExponents (is_empty (without_zeros s)) (pos 0) (pos 0 +ℤ pos (length (without_front_zeros s) - length (without_zeros s)))
    (λ _. (omega (arith, ints), omega (arith, ints)))
    (λ _. (omega (arith, ints), omega (arith, ints)))

distance_below : (z : ℤ) → InWhole z → nat_abs z < 2 ^ 128
distance_below (pos n) h = let a = h.1 in omega (arith, ints)
distance_below (negsuc n) h = let a = h.0 in omega (arith, ints)

pub whole_digits : (z : ℤ) → InWhole z → Each is_digit (decimal (nat_abs z)) × InExponents (normal_exponent (decimal (nat_abs z)) (pos 0))
whole_digits z h =
    let below = distance_below z h in
    (all_digits (nat_abs z) (omega arith), few_digits (decimal (nat_abs z)) (length-decimal-le_wide 39 (nat_abs z) (omega arith) (omega arith) (omega arith)))
