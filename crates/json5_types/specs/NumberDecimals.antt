-- What contracts see of a decimal: its sign, its kind, its digits and its exponent; equality and hashing.
-- A promise rests on this.
use Rattle.std.specs.Prelude.{◌≡◌, ◌↔◌, ℕ, Bool, true, false, ◌&&◌, nat_eq, List, [], ◌++◌, ℤ, pos, Option, IsSome, IfSome, string_bytes}
use Rattle.std.specs.Bool.{beq}
use Rattle.std.specs.Ordering.{int_eq}
use Rattle.std.specs.Cmp.Lexicographic.{pointwise}
use Rattle.std.specs.Hash as fed
use Rattle.json5_grammar.specs.Language.Characters.{is_digit, Each}
use Rattle.json5_grammar.specs.Language.Numbers.{Decimal, infinite, nan, finite, without_front_zeros, without_zeros, normal_exponent, InExponents}
use Rattle.json5_grammar.specs.Written.NumberText.{Normal, IsNormal}
use Rattle.json5_types.specs.Exponents.{IsSmallExponent}
use Rattle.json5_types.specs.declared.decimal.Kept.{Kept}
use Rattle.json5_types.specs.declared.decimal.Kept.TheVariants as kept
use Rattle.json5_types.specs.declared.decimal.Size.{Size}
use Rattle.json5_types.specs.declared.decimal.Size.TheVariants as size

abbrev pub kept_decimal : Kept → Decimal
kept_decimal (kept.Infinite negative) = infinite negative
kept_decimal (kept.NotANumber negative) = nan negative
kept_decimal (kept.Few negative exponent digits) = finite negative digits exponent
kept_decimal (kept.Many negative exponent digits) = finite negative (string_bytes digits.value) exponent

abbrev pub has_minus : Decimal → Bool
has_minus (infinite m) = m
has_minus (nan m) = m
has_minus (finite m ds e) = m

abbrev pub is_infinity : Decimal → Bool
is_infinity (infinite m) = true
is_infinity (nan m) = false
is_infinity (finite m ds e) = false

abbrev pub is_not_a_number : Decimal → Bool
is_not_a_number (infinite m) = false
is_not_a_number (nan m) = true
is_not_a_number (finite m ds e) = false

-- the digits, empty for infinity and not-a-number
abbrev pub digits_in : Decimal → List ℕ
digits_in (infinite m) = []
digits_in (nan m) = []
digits_in (finite m ds e) = ds

-- 0 for infinity and not-a-number
abbrev pub exponent_in : Decimal → ℤ
exponent_in (infinite m) = pos 0
exponent_in (nan m) = pos 0
exponent_in (finite m ds e) = e

-- how large it is, after this sign
abbrev pub sized : Bool → Size → Decimal
sized negative size.Infinite = infinite negative
sized negative size.NotANumber = nan negative
sized negative (size.Finite digits exponent) = finite negative digits.now exponent

-- this is what the decimal shows there; each decimal is normal
pub record ShowsDecimal {A : Type 0} (view : Decimal → A) (d : Decimal) (shown : A) : Type 0 where
  pub value : shown ≡ view d
  pub normal : Normal d

-- ---- the finite number with these digits times ten to the exponent

-- the exponent is in range without the outer zeros
abbrev pub IsInRange : List ℕ → ℤ → Type 0
IsInRange digits exponent = InExponents (normal_exponent digits exponent)

-- the number, if it is in range
pub record IsFiniteIfInRange (negative : Bool) (digits : List ℕ) (exponent : ℤ) (found : Option Decimal) : Type 0 where
  pub in_range : IsSome found ↔ IsInRange digits exponent
  pub value : IfSome found (λ d. d ≡ finite negative (without_zeros digits) (normal_exponent digits exponent))

-- no zeros in front, and an exponent far within 128 bits
pub record CanNormalize (digits : List ℕ) (exponent : ℤ) : Type 0 where
  pub front : digits ≡ without_front_zeros digits
  pub small : IsSmallExponent exponent

-- the digits without the zeros around them, and the exponent that goes with them, if it is in range
pub record Normalizes (old : List ℕ) (exponent : ℤ) (new : List ℕ) (found : Option ℤ) : Type 0 where
  pub in_range : IsSome found ↔ IsInRange old exponent
  pub digits : IfSome found (λ _. new ≡ without_zeros old)
  pub value : IfSome found (λ e. e ≡ normal_exponent old exponent)
  pub normal : IfSome found (λ e. IsNormal new e)

-- the number, if it is in range and the digits are digits
pub record IsFiniteOf (negative : Bool) (digits : List ℕ) (exponent : ℤ) (found : Option Decimal) : Type 0 where
  pub some : IsSome found ↔ (Each is_digit digits × IsInRange digits exponent)
  pub value : IfSome found (λ d. d ≡ finite negative (without_zeros digits) (normal_exponent digits exponent))

-- ---- equality and hashing

-- the same number; not-a-number equals itself, and signs count
abbrev pub decimal_eq : Decimal → Decimal → Bool
decimal_eq (infinite m) (infinite n) = beq m n
decimal_eq (infinite m) (nan n) = false
decimal_eq (infinite m) (finite n fs g) = false
decimal_eq (nan m) (infinite n) = false
decimal_eq (nan m) (nan n) = beq m n
decimal_eq (nan m) (finite n fs g) = false
decimal_eq (finite m ds e) (infinite n) = false
decimal_eq (finite m ds e) (nan n) = false
decimal_eq (finite m ds e) (finite n fs g) = beq m n && (pointwise nat_eq ds fs && int_eq e g)

-- what a decimal feeds a hasher
abbrev pub decimal_hashed : Decimal → fed.HashWrites
decimal_hashed (infinite m) = fed.bool m ++ fed.u8 0
decimal_hashed (nan m) = fed.bool m ++ fed.u8 1
decimal_hashed (finite m ds e) = fed.bool m ++ fed.u8 2 ++ fed.str ds ++ fed.i16 e
