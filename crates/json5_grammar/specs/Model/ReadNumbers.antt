-- Reading a number as a function on lists.
-- A promise rests on this.
use Rattle.std.specs.Prelude.{ℕ, ◌+◌, ◌*◌, ◌^◌, Bool, true, false, cond, ◌&&◌, ◌||◌, not, ◌==◌, nat_lt, nat_le, List, [], ◌∷◌, ℤ, pos, negsuc, neg_ℤ, Option, Some, None}
use Rattle.std.specs.Char.{digit_value}
use lib.Chars.{codes}
use Rattle.json5_grammar.specs.Language.Characters.{capital_e, capital_i, capital_n, digit_zero, letter_e, minus_sign, plus_sign, point_sign, is_digit, is_hex_digit}
use Rattle.json5_grammar.specs.Faults.Codes.{EofParsingNumber, ExpectedNumber, LeadingZero, OverflowParsingNumber}
use Rattle.json5_grammar.specs.Language.Numbers.{Number, signed, spelled, without_zeros, is_empty, all_digits, exponent_of, hex_start, infinite, nan, finite, whole, decimal, in_run, begins_run}
use Rattle.json5_grammar.specs.Model.Reading.{Read, here, inner, got, bad, word_at}

-- ---- hexadecimal numbers

unfoldable pub hex_digits : ℕ → List ℕ → Read ℕ
hex_digits n [] = got n []
hex_digits n (c ∷ r) = cond (is_hex_digit c) (cond (nat_lt (n * 16 + digit_value c) (2 ^ 128)) (hex_digits (n * 16 + digit_value c) r) (bad (Some OverflowParsingNumber) (here (c ∷ r)))) (got n (c ∷ r))

-- q is the input from the number's start on; true after a minus
abbrev pub hex_judged : List ℕ → Bool → Read ℕ → Read Number
hex_judged q false (got n r) = got (whole (pos n)) r
hex_judged q true (got n r) = cond (nat_le n (2 ^ 127)) (got (whole (neg_ℤ (pos n))) r) (bad None (here q))
hex_judged q m (bad e p) = bad e p

abbrev pub hexadecimal : List ℕ → Bool → List ℕ → Read Number
hexadecimal q m [] = bad (Some EofParsingNumber) inner
hexadecimal q m (c ∷ r) = cond (is_hex_digit c) (hex_judged q m (hex_digits 0 (c ∷ r))) (bad (Some ExpectedNumber) (here (c ∷ r)))

-- ---- decimal literals

-- the longest front whose characters pass the test, and what follows it
unfoldable pub front_of : (ℕ → Bool) → List ℕ → List ℕ
front_of p [] = []
front_of p (c ∷ s) = cond (p c) (c ∷ front_of p s) []

unfoldable pub rest_of : (ℕ → Bool) → List ℕ → List ℕ
rest_of p [] = []
rest_of p (c ∷ s) = cond (p c) (rest_of p s) (c ∷ s)

-- digits before the point, digits after it, the written exponent
pub record Parts : Type 0 where
  pub before : List ℕ
  pub after : Option (List ℕ)
  pub raised : Option ℤ

abbrev pub exponent_digits : Bool → List ℕ → Option (Option ℤ)
exponent_digits m [] = None
exponent_digits m (d ∷ s) = cond (is_digit d && is_empty (rest_of is_digit s)) (Some (Some (signed m (spelled 10 0 (d ∷ s))))) None

abbrev pub exponent_sign : List ℕ → Option (Option ℤ)
exponent_sign [] = None
exponent_sign (c ∷ s) = cond (c == plus_sign) (exponent_digits false s) (cond (c == minus_sign) (exponent_digits true s) (exponent_digits false (c ∷ s)))

abbrev pub exponent_at : List ℕ → Option (Option ℤ)
exponent_at [] = Some None
exponent_at (c ∷ s) = cond ((c == letter_e) || (c == capital_e)) (exponent_sign s) None

-- of digits
abbrev pub is_integer : List ℕ → Bool
is_integer [] = false
is_integer (c ∷ s) = not (c == digit_zero) || is_empty s

abbrev pub with_exponent : List ℕ → Option (List ℕ) → Option (Option ℤ) → Option Parts
with_exponent i f None = None
with_exponent i f (Some w) = Some (record { before = i; after = f; raised = w })

abbrev pub no_point : List ℕ → List ℕ → Option Parts
no_point i y = cond (is_integer i) (with_exponent i None (exponent_at y)) None

abbrev pub at_point : List ℕ → List ℕ → List ℕ → Option Parts
at_point i f y = cond (is_integer i || (is_empty i && not (is_empty f))) (with_exponent i (Some f) (exponent_at y)) None

abbrev pub point_or : List ℕ → List ℕ → Option Parts
point_or i [] = no_point i []
point_or i (c ∷ y) = cond (c == point_sign) (at_point i (front_of is_digit y) (rest_of is_digit y)) (no_point i (c ∷ y))

unfoldable pub literal_at : List ℕ → Option Parts
literal_at x = point_or (front_of is_digit x) (rest_of is_digit x)

abbrev pub in_whole : ℤ → Bool
in_whole (pos n) = nat_lt n (2 ^ 128)
in_whole (negsuc n) = nat_lt n (2 ^ 127)

abbrev pub in_exponents : ℤ → Bool
in_exponents (pos n) = nat_lt n 32768
in_exponents (negsuc n) = nat_lt n 32768

abbrev pub is_whole : Bool → List ℕ → Option (List ℕ) → Option ℤ → Bool
is_whole m i None None = in_whole (signed m (spelled 10 0 i))
is_whole m i None (Some e) = false
is_whole m i (Some f) w = false

unfoldable pub judged : List ℕ → Bool → List ℕ → List ℕ → Option (List ℕ) → Option ℤ → Read Number
judged q m r i f w =
    cond (is_whole m i f w) (got (whole (signed m (spelled 10 0 i))) r)
    (cond (in_exponents (exponent_of i f w)) (got (decimal (finite m (without_zeros (all_digits i f)) (exponent_of i f w))) r)
    (bad (Some OverflowParsingNumber) (here q)))

abbrev pub if_literal : List ℕ → Bool → List ℕ → Option Parts → Read Number
if_literal q m r None = bad None (here q)
if_literal q m r (Some p) = judged q m r p.before p.after p.raised

abbrev pub decimal_run : List ℕ → Bool → List ℕ → Read Number
decimal_run q m x = if_literal q m (rest_of in_run x) (literal_at (front_of in_run x))

-- ---- numbers

abbrev pub at_zero : List ℕ → Bool → List ℕ → Read Number
at_zero q m [] = got (whole (pos 0)) []
at_zero q m (c ∷ r) =
    cond (is_digit c) (bad (Some LeadingZero) (here q))
    (cond (hex_start c) (hexadecimal q m r)
    (cond ((c == point_sign) || ((c == letter_e) || (c == capital_e))) (decimal_run q m (digit_zero ∷ c ∷ r))
    (got (whole (pos 0)) (c ∷ r))))

-- after the sign
unfoldable pub unsigned : List ℕ → Bool → List ℕ → Read Number
unsigned q m [] = bad (Some EofParsingNumber) inner
unsigned q m (c ∷ r) =
    cond (c == capital_i) (word_at EofParsingNumber ExpectedNumber (decimal (infinite m)) (codes "nfinity") r)
    (cond (c == capital_n) (word_at EofParsingNumber ExpectedNumber (decimal (nan m)) (codes "aN") r)
    (cond (c == digit_zero) (at_zero q m r)
    (cond (begins_run c) (decimal_run q m (c ∷ r))
    (bad (Some ExpectedNumber) (here (c ∷ r))))))

unfoldable pub number : List ℕ → Read Number
number [] = bad (Some EofParsingNumber) inner
number (c ∷ r) = cond (c == plus_sign) (unsigned (c ∷ r) false r) (cond (c == minus_sign) (unsigned (c ∷ r) true r) (unsigned (c ∷ r) false (c ∷ r)))
