-- The lanes of bytes that are tested in front of a text.
use Rattle.std.proofs.Common.{◌≡◌, ℕ, Bool, true, false, not, cond, eqb, ltb, ◌||◌, ◌&&◌, refl, arith}
use Rattle.std.specs.Prelude.{◌==◌}
use Rattle.std.proofs.lemmas.Bool.Decides.{nat_tests}
use lib.Bits.{bit_and, bit_or}
use lib.Lanes.{top}
pub use Rattle.json5_types.proofs.ByteSearch.{run_bound, run_through, run_stops, either, masked, below, no_digit_lane, digit_or_none}
use Rattle.json5_tokens.specs.ByteRuns.{ends_raw, is_ascii_blank, is_no_blank}

abbrev pub hit : ℕ → ℕ → ℕ
hit a b = cond (eqb a b) 255 0

one_of_four : (a b c d : Bool) → top 7 (bit_or (bit_or (bit_or (cond a 255 0) (cond b 255 0)) (cond c 255 0)) (cond d 255 0)) ≡ (a || (b || (c || d)))
one_of_four true true true true = refl
one_of_four true true true false = refl
one_of_four true true false true = refl
one_of_four true true false false = refl
one_of_four true false true true = refl
one_of_four true false true false = refl
one_of_four true false false true = refl
one_of_four true false false false = refl
one_of_four false true true true = refl
one_of_four false true true false = refl
one_of_four false true false true = refl
one_of_four false true false false = refl
one_of_four false false true true = refl
one_of_four false false true false = refl
one_of_four false false false true = refl
one_of_four false false false false = refl

pub byte_lane : (n x : ℕ) → top 7 (hit x n) ≡ (x == n)
byte_lane n x = one (x == n)
  where
    one : (a : Bool) → top 7 (cond a 255 0) ≡ a
    one true = refl
    one false = refl

one_of_three : (a b c : Bool) → top 7 (bit_or (bit_or (cond a 255 0) (cond b 255 0)) (cond c 255 0)) ≡ (a || b || c)
one_of_three true true true = refl
one_of_three true true false = refl
one_of_three true false true = refl
one_of_three true false false = refl
one_of_three false true true = refl
one_of_three false true false = refl
one_of_three false false true = refl
one_of_three false false false = refl

pub three_lane : (m n o x : ℕ) → top 7 (bit_or (bit_or (hit x m) (hit x n)) (hit x o)) ≡ ((x == m) || (x == n) || (x == o))
three_lane m n o x = one_of_three (x == m) (x == n) (x == o)

pub raw_lane : (q x : ℕ) → top 7 (bit_or (bit_or (bit_or (hit x q) (hit x 92)) (hit x 10)) (hit x 13)) ≡ ends_raw q x
raw_lane q x = one_of_four (x == q) (x == 92) (x == 10) (x == 13)

-- ---- blanks

abbrev pub other : ℕ → ℕ → ℕ
other a b = cond (not (eqb a b)) 255 0

none_of_two : (a b c : Bool) → top 7 (bit_and (cond (not a) 255 0) (bit_or (cond b 255 0) (cond c 255 0))) ≡ (not a && (b || c))
none_of_two true true true = refl
none_of_two true true false = refl
none_of_two true false true = refl
none_of_two true false false = refl
none_of_two false true true = refl
none_of_two false true false = refl
none_of_two false false true = refl
none_of_two false false false = refl

pub no_blank_lane : (x : ℕ) → top 7 (bit_and (other x 32) (bit_or (below x 9) (below 13 x))) ≡ is_no_blank x
no_blank_lane x = none_of_two (x == 32) (ltb x 9) (ltb 13 x)

pub blank_or_none : (x : ℕ) → is_ascii_blank x ≡ not (is_no_blank x)
blank_or_none x = grind (arith, nat_tests)
