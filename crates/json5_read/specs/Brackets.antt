-- The two kinds of brackets.
-- A promise rests on this.
use Rattle.std.specs.Prelude.{ℕ, List, [], ◌∷◌}
use Rattle.json5_grammar.specs.declared.error_code.ErrorCode.TheVariants as codes
use Rattle.json5_grammar.specs.Faults.Fronts.{of_array, of_object}
use Rattle.json5_grammar.specs.Faults.Fronts as fronts
use Rattle.json5_read.specs.declared.brackets.BracketPair.{BracketPair}
use Rattle.json5_read.specs.declared.brackets.OpenBracket.{OpenBracket}
use Rattle.json5_read.specs.declared.brackets.BracketKind.{BracketKind}
use Rattle.json5_read.specs.declared.brackets.BracketKind.TheVariants as kind

-- an array's
abbrev pub square : BracketPair
square = record { opening = fronts.opening of_array; closing = fronts.closing of_array; ends = codes.EofParsingArray; not_opened = codes.ExpectedOpeningBracket; not_closed = codes.ExpectedClosingBracket }

-- an object's
abbrev pub curly : BracketPair
curly = record { opening = fronts.opening of_object; closing = fronts.closing of_object; ends = codes.EofParsingObject; not_opened = codes.ExpectedOpeningBrace; not_closed = codes.ExpectedClosingBrace }

abbrev pub brackets_of : BracketKind → BracketPair
brackets_of kind.Array = square
brackets_of kind.Object = curly

-- the kind in the words of the grammar
abbrev pub bracket_of : BracketKind → fronts.BracketKind
bracket_of kind.Array = of_array
bracket_of kind.Object = of_object

-- brackets of these kinds that begin after so many bytes
abbrev pub brackets_in : List BracketKind → List ℕ → List OpenBracket
brackets_in [] starts = []
brackets_in (k ∷ ks) [] = []
brackets_in (k ∷ ks) (s ∷ ss) = record { kind = k; start = s } ∷ brackets_in ks ss
