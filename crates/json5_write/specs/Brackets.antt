-- The kinds of brackets, and what stands before an element, in the words of the grammar.
-- A promise rests on this.
use Rattle.std.specs.Prelude.{ℕ}
use Rattle.json5_grammar.specs.Language.Characters.{left_bracket, comma_sign}
use Rattle.json5_grammar.specs.Faults.Fronts.{BracketKind, of_array, of_object}
use Rattle.json5_write.specs.declared.brackets.Brackets.{Brackets}
use Rattle.json5_write.specs.declared.brackets.Brackets.TheVariants as brackets
use Rattle.json5_write.specs.declared.brackets.BeforeElement.{BeforeElement}
use Rattle.json5_write.specs.declared.brackets.BeforeElement.TheVariants as before

abbrev pub bracket_of : Brackets → BracketKind
bracket_of brackets.Square = of_array
bracket_of brackets.Curly = of_object

abbrev pub sign_of : BeforeElement → ℕ
sign_of before.Bracket = left_bracket
sign_of before.Comma = comma_sign
