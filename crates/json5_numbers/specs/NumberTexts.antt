-- Texts that are numbers, and the decimal with the value of a number.
-- A promise rests on this.
use Rattle.std.specs.Prelude.{◌≡◌, List, ℕ, ℤ, pos, Option, Some, None}
use Rattle.std.specs.Fmt.{decimal as decimal_digits}
use Rattle.json5_grammar.specs.Language.Numbers.{Num, Number, whole, decimal, Decimal, finite, without_zeros, normal_exponent}
use Rattle.json5_types.specs.declared.error.Error.{Error}
use Rattle.json5_types.specs.declared.number.Number as declared
use Rattle.json5_types.specs.Errors.{LacksMemory}
use Rattle.json5_types.specs.NumberMeanings.{number_of}
use Rattle.json5_types.specs.NumberWholes.{is_below_zero, distance}

-- a whole number has its decimal digits
abbrev pub decimal_of_whole : ℤ → Decimal
decimal_of_whole z = finite (is_below_zero z) (without_zeros (decimal_digits (distance z))) (normal_exponent (decimal_digits (distance z)) (pos 0))

abbrev pub decimal_of : Number → Decimal
decimal_of (whole z) = decimal_of_whole z
decimal_of (decimal d) = d

-- the characters are a number
abbrev pub IsNumber : List ℕ → Type 0
IsNumber text = (n : Number) × Num text n

-- memory was refused for a number
pub record LacksMemoryFor (text : List ℕ) (e : Error) : Type 0 where
  pub lacks : LacksMemory e
  pub number : IsNumber text

-- the characters are a number with this value; or they are none
abbrev pub IsTextOf : List ℕ → Option Decimal → Type 0
IsTextOf text None = (n : Number) → Num text n → ⊥
IsTextOf text (Some d) = (n : Number) × Num text n × (d ≡ decimal_of n)

-- the same, with the number
abbrev pub IsTextOfNumber : List ℕ → Option declared.Number → Type 0
IsTextOfNumber text None = (n : Number) → Num text n → ⊥
IsTextOfNumber text (Some n) = Num text (number_of n)
