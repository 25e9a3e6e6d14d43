-- What spelling a document anew keeps, and why it isn't done.
-- A promise rests on this.
use Rattle.std.specs.Prelude.{◌≡◌, ◌&&◌, not, ℕ, Bool, true, false, List, ⊤}
use Rattle.std.specs.Str.{chars}
use Rattle.json5_grammar.specs.Language.Documents.{Doc, max_depth}
use Rattle.json5_grammar.specs.Language.Trees.{Tree}
use Rattle.json5_types.specs.declared.error.Error.{Error}
use Rattle.json5_types.specs.ValueMeanings.{Datum}
use Rattle.json5_tokens.specs.Cursor.{IsOutOfMemory}
use Rattle.json5_lexemes.specs.Plain.{PlainText}
use Rattle.json5_lexemes.specs.WithoutComments.{IsJsonButForComments}
use Rattle.json5_read.specs.DocumentReads.{IsRefused}
use Rattle.json5_read.specs.TreeMeanings.{datum_of}
use Rattle.json5_styles.specs.Json.{JsonText}
use Rattle.json5_styles.specs.JsonTexts.{is_json}
use Rattle.json5_convert.specs.Comments.{HaveSameComments, HasNoComment}
use Rattle.json5_convert.specs.Spellings.{asks_json, has_comments, has_json_numbers}
use Rattle.json5_convert.specs.declared.faults.RespellError.{RespellError}
use Rattle.json5_convert.specs.declared.faults.RespellError.TheVariants as error
use Rattle.json5_convert.specs.declared.spelling.Spelling.{Spelling}

-- both are documents that mean the same: numbers by their value, strings and keys by their characters
pub record MeanTheSame (x y : List ℕ) : Type 0 where
  pub tree : Tree
  pub document : Doc max_depth x tree
  pub other : Tree
  pub respelled : Doc max_depth y other
  pub same : datum_of other ≡ datum_of tree

-- a text of RFC 8259's grammar; or one that is so without its comments, where it may have some
abbrev pub IsJson : (comments : Bool) → List ℕ → Type 0
IsJson false x = JsonText x
IsJson true x = IsJsonButForComments x

-- what was made means the same, and is JSON where that was asked: comments may be in it only if they stay
pub record IsRespelled (spelling : Spelling) (text made : List ℕ) : Type 0 where
  pub means : MeanTheSame (chars text) (chars made)
  pub json : asks_json spelling ≡ true → IsJson (has_comments spelling) (chars made)

-- the comments stay, to the letter and in their order; where they are to go there are none
abbrev pub KeepsComments : Spelling → (text made : List ℕ) → Type 0
KeepsComments spelling text made = (has_comments spelling ≡ true → HaveSameComments (chars text) (chars made)) × (has_comments spelling ≡ false → HasNoComment (chars made))

-- the text is a document whose numbers are such
abbrev pub HasNumbers : (are_json : Bool) → (text : List ℕ) → Type 0
HasNumbers are_json text = (t : Tree) × Doc max_depth (chars text) t × (is_json (datum_of t) ≡ are_json)

-- where numbers are to be JSON's, no other stands in the text
abbrev pub KeepsNumbers : Spelling → (text : List ℕ) → Type 0
KeepsNumbers spelling text = has_json_numbers spelling ≡ true → HasNumbers true text

-- why nothing is made
abbrev pub RefusesRespelling : Spelling → (text : List ℕ) → RespellError → Type 0
RefusesRespelling spelling text (error.Text e) = IsRefused (chars text) e × ((t : Tree) → Doc max_depth (chars text) t → ⊥)
RefusesRespelling spelling text (error.Number p) = (has_json_numbers spelling ≡ true) × HasNumbers false text
RefusesRespelling spelling text error.NoMemory = ⊤
RefusesRespelling spelling text error.Failed = (t : Tree) × Doc max_depth (chars text) t × (has_json_numbers spelling ≡ true → is_json (datum_of t) ≡ true)

-- ---- private clauses alone cite these

-- numbers are to be JSON's, and the value has another
abbrev pub loses_number : Spelling → Datum → Bool
loses_number s d = has_json_numbers s && not (is_json d)

-- memory ran out, or it is a number's place
abbrev pub IsLost : RespellError → Type 0
IsLost error.NoMemory = ⊤
IsLost (error.Number p) = ⊤
IsLost _ = ⊥

-- as the fault of a text
abbrev pub IsOfText : Error → RespellError → Type 0
IsOfText e error.NoMemory = ⊤
IsOfText e (error.Text f) = (f ≡ e) × (IsOutOfMemory e → ⊥)
IsOfText e _ = ⊥

-- JSON where that was asked: comments may be in it only if they stay
abbrev pub IsAsPlain : Spelling → (made : List ℕ) → Type 0
IsAsPlain spelling made = asks_json spelling ≡ true → PlainText (has_comments spelling) made

-- what was made of the text is as it should be
pub record IsMade (spelling : Spelling) (text made : List ℕ) : Type 0 where
  pub means : MeanTheSame (chars text) (chars made)
  pub numbers : KeepsNumbers spelling text
  pub comments : KeepsComments spelling text made
  pub plain : IsAsPlain spelling made
