-- The text of a value in a style. Between its tokens two styles differ in blanks alone, and in a comma after the last element or member.
-- A promise rests on this.
use Rattle.std.specs.Prelude.{ℕ, ◌+◌, Bool, true, false, if◌then◌else◌, List, [], ◌∷◌, ◌++◌}
use Rattle.json5_grammar.specs.Language.Characters.{comma_sign, colon_sign, left_bracket, right_bracket, left_brace, right_brace}
use Rattle.json5_grammar.specs.Language.Values.{null_text}
use Rattle.json5_grammar.specs.Written.NumberText.{number_text}
use Rattle.json5_types.specs.ValueMeanings.{Datum, null, boolean, number, text, array, object, Items, no_item, item, Fields, no_field, field}
use Rattle.json5_write.specs.Out.{bool_text}

-- what stands before an element, a member or a closing bracket within so many brackets; what stands after a colon; whether a comma
-- follows the last element or member; and how strings and keys are spelled
pub record Style : Type 0 where
  pub line : ℕ → List ℕ
  pub gap : List ℕ
  pub last_comma : Bool
  pub string : List ℕ → List ℕ
  pub key : List ℕ → List ℕ

abbrev pub comma_if : Bool → List ℕ
comma_if due = if due then comma_sign ∷ [] else []

-- what stands before the bracket that closes a collection within d others: nothing if nothing was written in it
abbrev pub closed : Style → ℕ → Bool → List ℕ
closed s d true = comma_if s.last_comma ++ s.line d
closed s d false = []

-- the text of a value within d brackets
abbrev mutual
  pub laid : Style → ℕ → Datum → List ℕ
  laid s d null = null_text
  laid s d (boolean b) = bool_text b
  laid s d (number n) = number_text n
  laid s d (text u) = s.string u
  laid s d (array xs) = left_bracket ∷ items_laid s d false xs
  laid s d (object fs) = left_brace ∷ fields_laid s d false fs

  -- what follows the bracket that opens an array; the Bool says that something was written in it already
  pub items_laid : Style → ℕ → Bool → Items → List ℕ
  items_laid s d started no_item = closed s d started ++ right_bracket ∷ []
  items_laid s d started (item x xs) = (comma_if started ++ s.line (d + 1)) ++ (laid s (d + 1) x ++ items_laid s d true xs)

  pub fields_laid : Style → ℕ → Bool → Fields → List ℕ
  fields_laid s d started no_field = closed s d started ++ right_brace ∷ []
  fields_laid s d started (field u x fs) = (comma_if started ++ s.line (d + 1)) ++ (s.key u ++ colon_sign ∷ (s.gap ++ (laid s (d + 1) x ++ fields_laid s d true fs)))
