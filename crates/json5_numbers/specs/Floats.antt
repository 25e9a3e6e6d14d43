-- The float nearest to a number.
-- A promise rests on this.
use Rattle.std.specs.Prelude.{length, ℤ, pos, ◌-ℤ◌}
use Rattle.std.specs.Str.Parse.{digits_value}
use Rattle.std.specs.Float.Ieee.{Float, Format, inf, nan as not_a_number, round}
use Rattle.fast_float.specs.Rounding.{nearest_to_decimal}
use Rattle.fast_float.specs.Text.{Parts}
use Rattle.json5_grammar.specs.Language.Numbers.{Number, whole, decimal, Decimal, infinite, nan, finite, signed}
use Rattle.json5_types.specs.NumberWholes.{is_below_zero, distance}

-- a finite one is rounded once
abbrev pub nearest_to : Format → Decimal → Float
nearest_to f (infinite m) = inf m
nearest_to f (nan m) = not_a_number
nearest_to f (finite m ds e) = nearest_to_decimal f m (digits_value 10 ds) e

abbrev pub nearest_to_whole : Format → ℤ → Float
nearest_to_whole f z = round f (is_below_zero z) (distance z) 1

abbrev pub nearest_to_number : Format → Number → Float
nearest_to_number f (whole z) = nearest_to_whole f z
nearest_to_number f (decimal d) = nearest_to f d

-- ---- a numeral

-- the power of ten of its last digit. Private clauses and proofs cite it.
abbrev pub last_place : Parts → ℤ
last_place p = signed p.exponent_negative (digits_value 10 p.exponent) -ℤ pos (length p.fraction)
