-- What private clauses say of hexadecimal digits.
-- Private.
use Rattle.std.specs.Prelude.{◌≡◌, ◌<◌, ◌^◌, ℕ, List, Some}
use Rattle.std.specs.Str.{IsUtf8, chars}
use Rattle.json5_grammar.specs.declared.error_code.ErrorCode.TheVariants.{OverflowParsingNumber}
use Rattle.json5_grammar.specs.Model.Reading.{got, bad, here}
use Rattle.json5_grammar.specs.Model.ReadNumbers.{hex_digits}

-- a first digit and those of x have this value, within 128 bits, and the rest follows them
pub record GivesHex (first : ℕ) (x : List ℕ) (value : ℕ) (rest : List ℕ) : Type 0 where
  pub read : hex_digits first x ≡ got value (chars rest)
  pub bound : value < 2 ^ 128
  pub text : IsUtf8 rest

-- the digit with which the rest begins takes the value past 128 bits
pub record Overflows (first : ℕ) (x rest : List ℕ) : Type 0 where
  pub read : hex_digits first x ≡ bad (Some OverflowParsingNumber) (here (chars rest))
  pub text : IsUtf8 rest
