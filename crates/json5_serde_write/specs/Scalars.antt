-- The trees of values without brackets.
-- Private.
use Rattle.std.specs.Str.{chars}
use Rattle.json5_grammar.specs.Language.Numbers as numbers
use Rattle.json5_write.specs.WrittenTrees.{Written, null, boolean, number, text, integer, natural}
use Rattle.json5_serde_write.specs.declared.scalar.Scalar.{Scalar}
use Rattle.json5_serde_write.specs.declared.scalar.Scalar.TheVariants as scalar

abbrev pub scalar_tree : Scalar → Written
scalar_tree scalar.Null = null
scalar_tree (scalar.Bool b) = boolean b
scalar_tree (scalar.Unsigned n) = natural n
scalar_tree (scalar.Signed z) = integer z
scalar_tree (scalar.Decimal d) = number (numbers.decimal d.now)
scalar_tree (scalar.Text s) = text (chars s.now)
