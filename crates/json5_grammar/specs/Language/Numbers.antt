-- Number literals, the number that each means, and the normal form of a decimal.
-- A promise rests on this.
-- JSON5 section 6 (numbers), ECMAScript 5.1 section 7.8.3.
use Rattle.std.specs.Prelude.{◌≡◌, ℕ, ◌+◌, ◌-◌, ◌*◌, ◌^◌, Bool, true, false, if◌then◌else◌, ◌||◌, ◌==◌, List, [], ◌∷◌, ◌++◌, length, reverse, ℤ, pos, ◌+ℤ◌, ◌-ℤ◌, neg_ℤ, ◌≤ℤ◌, Option, Some, None, ◌&&◌}
use Rattle.std.specs.Char.{digit_value}
use lib.Chars.{codes}
use Rattle.json5_grammar.specs.Language.Characters.{capital_e, capital_x, letter_e, plus_sign, minus_sign, point_sign, digit_zero, digit_one, digit_nine, letter_x, is_in, is_digit, is_hex_digit, Each, NotBegun}

-- a finite one means its digits times ten to the exponent
pub data Decimal : Type 0 where
  infinite : Bool → Decimal
  nan : Bool → Decimal
  finite : Bool → List ℕ → ℤ → Decimal

pub data Number : Type 0 where
  whole : ℤ → Number
  decimal : Decimal → Number

-- at most one sign, and whether it is a minus
pub data Sign : List ℕ → Bool → Type 0 where
  no_sign : Sign [] false
  plus : Sign (plus_sign ∷ []) false
  minus : Sign (minus_sign ∷ []) true

abbrev pub signed : Bool → ℕ → ℤ
signed m n = if m then neg_ℤ (pos n) else pos n

-- the number that digits of this base spell after n
abbrev pub spelled : ℕ → ℕ → List ℕ → ℕ
spelled base n [] = n
spelled base n (c ∷ s) = spelled base (n * base + digit_value c) s

-- `0`, or digits that begin with 1 to 9
pub data Integer : List ℕ → Type 0 where
  lone_zero : Integer (digit_zero ∷ [])
  nonzero : {c : ℕ} {s : List ℕ} → is_in digit_one digit_nine c ≡ true → Each is_digit s → Integer (c ∷ s)

-- digits before the point, and those after it (None: no point)
pub data Mantissa : List ℕ → List ℕ → Option (List ℕ) → Type 0 where
  integer : {i : List ℕ} → Integer i → Mantissa i i None
  with_point : {i f : List ℕ} → Integer i → Each is_digit f → Mantissa (i ++ point_sign ∷ f) i (Some f)
  point_first : {c : ℕ} {f : List ℕ} → Each is_digit (c ∷ f) → Mantissa (point_sign ∷ c ∷ f) [] (Some (c ∷ f))

-- the written exponent (None: none)
pub data Exponent : List ℕ → Option ℤ → Type 0 where
  no_exponent : Exponent [] None
  exponent : {s : List ℕ} {m : Bool} {c d : ℕ} {ds : List ℕ} → ((c == letter_e) || (c == capital_e)) ≡ true → Sign s m → Each is_digit (d ∷ ds) → Exponent (c ∷ s ++ d ∷ ds) (Some (signed m (spelled 10 0 (d ∷ ds))))

-- a decimal literal without a sign: its digits before and after the point, and its exponent
pub data Literal : List ℕ → List ℕ → Option (List ℕ) → Option ℤ → Type 0 where
  literal : {m e i : List ℕ} {f : Option (List ℕ)} {w : Option ℤ} → Mantissa m i f → Exponent e w → Literal (m ++ e) i f w

-- ---- the decimal's normal form

abbrev pub without_front_zeros : List ℕ → List ℕ
without_front_zeros [] = []
without_front_zeros (c ∷ s) = if c == digit_zero then without_front_zeros s else c ∷ s

abbrev pub without_zeros : List ℕ → List ℕ
without_zeros s = reverse (without_front_zeros (reverse (without_front_zeros s)))

abbrev pub is_empty : List ℕ → Bool
is_empty [] = true
is_empty (c ∷ s) = false

-- each zero that goes at the end raises the exponent; zero has exponent 0
abbrev pub normal_exponent : List ℕ → ℤ → ℤ
normal_exponent s e = if is_empty (without_zeros s) then pos 0 else e +ℤ pos (length (without_front_zeros s) - length (without_zeros s))

abbrev pub digits_after : Option (List ℕ) → List ℕ
digits_after None = []
digits_after (Some f) = f

abbrev pub written : Option ℤ → ℤ
written None = pos 0
written (Some e) = e

abbrev pub all_digits : List ℕ → Option (List ℕ) → List ℕ
all_digits i f = i ++ digits_after f

abbrev pub exponent_of : List ℕ → Option (List ℕ) → Option ℤ → ℤ
exponent_of i f w = normal_exponent (all_digits i f) (written w -ℤ pos (length (digits_after f)))

abbrev pub InExponents : ℤ → Type 0
InExponents e = (neg_ℤ (pos 32768) ≤ℤ e) × (e ≤ℤ pos 32767)

abbrev pub InWhole : ℤ → Type 0
InWhole z = (neg_ℤ (pos (2 ^ 127)) ≤ℤ z) × (z ≤ℤ pos (2 ^ 128 - 1))

-- without a point, an exponent and within the range of whole numbers
abbrev pub IsWholeLiteral : Bool → List ℕ → Option (List ℕ) → Option ℤ → Type 0
IsWholeLiteral m i None None = InWhole (signed m (spelled 10 0 i))
IsWholeLiteral m i None (Some e) = ⊥
IsWholeLiteral m i (Some f) w = ⊥

abbrev pub hex_start : ℕ → Bool
hex_start c = (c == letter_x) || (c == capital_x)

pub data Num : List ℕ → Number → Type 0 where
  is_infinite : {s : List ℕ} {m : Bool} → Sign s m → Num (s ++ codes "Infinity") (decimal (infinite m))
  is_nan : {s : List ℕ} {m : Bool} → Sign s m → Num (s ++ codes "NaN") (decimal (nan m))
  is_hexadecimal : {s h : List ℕ} (x : ℕ) {d : ℕ} {m : Bool} → Sign s m → hex_start x ≡ true → Each is_hex_digit (d ∷ h) → InWhole (signed m (spelled 16 0 (d ∷ h))) → Num (s ++ digit_zero ∷ x ∷ d ∷ h) (whole (signed m (spelled 16 0 (d ∷ h))))
  is_integer : {s l i : List ℕ} {m : Bool} → Sign s m → Literal l i None None → InWhole (signed m (spelled 10 0 i)) → Num (s ++ l) (whole (signed m (spelled 10 0 i)))
  is_decimal : {s l i : List ℕ} {m : Bool} {f : Option (List ℕ)} {w : Option ℤ} → Sign s m → Literal l i f w → (IsWholeLiteral m i f w → ⊥) → InExponents (exponent_of i f w)
      → Num (s ++ l) (decimal (finite m (without_zeros (all_digits i f)) (exponent_of i f w)))

-- ---- where a number stops: the characters that lengthen one (ECMAScript 5.1 section 7.8.3: a literal is as long as it can be)

abbrev pub in_run : ℕ → Bool
in_run c = is_digit c || ((c == plus_sign) || ((c == minus_sign) || ((c == point_sign) || ((c == letter_e) || (c == capital_e)))))

abbrev pub after_zero : ℕ → Bool
after_zero c = is_digit c || ((c == letter_x) || ((c == capital_x) || ((c == point_sign) || ((c == letter_e) || (c == capital_e)))))

abbrev pub begins_run : ℕ → Bool
begins_run c = is_digit c || (c == point_sign)

-- of a number without its sign
abbrev pub lengthens_body : List ℕ → ℕ → Bool
lengthens_body [] c = false
lengthens_body (a ∷ []) c = if a == digit_zero then after_zero c else begins_run a && in_run c
lengthens_body (a ∷ b ∷ s) c = if (a == digit_zero) && hex_start b then is_hex_digit c else begins_run a && in_run c

-- the character lengthens the value's spelling
abbrev pub lengthens : List ℕ → ℕ → Bool
lengthens [] c = false
lengthens (a ∷ s) c = if (a == plus_sign) || (a == minus_sign) then lengthens_body s c else lengthens_body (a ∷ s) c

-- a number with the spelling s ends before r
abbrev pub EndsAt : List ℕ → List ℕ → Type 0
EndsAt s r = NotBegun (lengthens s) r
