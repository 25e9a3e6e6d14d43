-- A number as the grammar has it.
-- A promise rests on this.
use Rattle.std.specs.Prelude.{Bool, true, false, ℤ, Option, Some, None}
use Rattle.json5_grammar.specs.Language.Numbers as numbers
use Rattle.json5_types.specs.declared.number.Number.{Number}
use Rattle.json5_types.specs.declared.number.Number.TheVariants.{Whole, Decimal}

abbrev pub number_of : Number → numbers.Number
number_of (Whole z) = numbers.whole z
number_of (Decimal d) = numbers.decimal d

-- a finite decimal, whose digits are kept in memory
abbrev pub keeps_digits : numbers.Number → Bool
keeps_digits (numbers.whole z) = false
keeps_digits (numbers.decimal (numbers.infinite m)) = false
keeps_digits (numbers.decimal (numbers.nan m)) = false
keeps_digits (numbers.decimal (numbers.finite m ds e)) = true

-- the number, if it is whole
abbrev pub whole_in : numbers.Number → Option ℤ
whole_in (numbers.whole z) = Some z
whole_in (numbers.decimal d) = None
