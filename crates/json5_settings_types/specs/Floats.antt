-- Finite floats.
-- A promise rests on this.
use Rattle.std.specs.Prelude.{◌≡◌, if◌then◌else◌, Option, Some, None}
use Rattle.std.specs.Float.{binary64, float_is_finite}
use Rattle.std.specs.Float.Ieee.{Float}
use Rattle.json5_grammar.specs.Language.Numbers.{Decimal, decimal}
use Rattle.json5_numbers.specs.Floats.{nearest_to}
use Rattle.json5_de.specs.Convert.{decimal_of}
use Rattle.json5_de.specs.Refinement.{refined}
use Rattle.json5_ser.specs.EscapeFreeMarks.{marks}
use Rattle.json5_ser.specs.WrittenTrees.{number}

-- the float, where it is neither an infinity nor not-a-number
abbrev pub if_finite : Float → Option Float
if_finite x = if float_is_finite x then Some x else None

-- the float nearest to the number, where it is finite
abbrev pub nearest_if_finite : Decimal → Option Float
nearest_if_finite d = if_finite (nearest_to binary64 d)

-- what is written of a number is read as the same float
abbrev pub FloatsReadBack : Type 0
FloatsReadBack = (d : Decimal) (x : Float) → nearest_if_finite d ≡ Some x → refined decimal_of nearest_if_finite (marks (number (decimal d))) ≡ Some x
