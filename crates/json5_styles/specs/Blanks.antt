-- What indents a line. Private clauses alone cite it.
-- Private.
use Rattle.std.specs.Prelude.{ℕ}
use Rattle.json5_grammar.specs.Language.Characters.{space, tab}
use Rattle.json5_styles.specs.declared.lines.Blank.{Blank}
use Rattle.json5_styles.specs.declared.lines.Blank.TheVariants as blank

abbrev pub blank_of : Blank → ℕ
blank_of blank.Space = space
blank_of blank.Tab = tab
