-- What is put into a document for VALUE.
-- A promise rests on this.
use Rattle.std.specs.Prelude.{◌≡◌, ◌≢◌, ◌⊎◌, ℕ, Bool, true, false, List, [], ◌∷◌, ◌++◌}
use Rattle.std.specs.Str.{chars}
use Rattle.json5_grammar.specs.Language.Characters.{line_feed}
use Rattle.json5_grammar.specs.Language.Documents.{max_depth}
use Rattle.json5_types.specs.ValueMeanings.{text}
use Rattle.json5_styles.specs.LaidBack.{ReadsAs}
use Rattle.json5_walk.specs.Walks.{IsDocument}
use Rattle.json5_edit.specs.Places.{IsPartAt}
use Rattle.cli_edit.specs.declared.requests.Command.{Command}
use Rattle.cli_edit.specs.declared.requests.Command.TheVariants as work
use Rattle.cli_edit.specs.declared.requests.Source.{Source}
use Rattle.cli_edit.specs.declared.requests.Source.TheVariants as source
use Rattle.cli_edit.specs.declared.requests.Task.{Task}

-- the value without blanks and comments around it; or the bytes themselves, which are no document
abbrev pub Strips : (given made : List ℕ) → Type 0
Strips given made = IsPartAt given [] made ⊎ ((IsDocument given → ⊥) × (made ≡ given))

-- the bytes without the line feed at their end, if they have one
abbrev pub WithoutLineEnd : (given content : List ℕ) → Type 0
WithoutLineEnd given content = (given ≡ content ++ line_feed ∷ []) ⊎ ((content ≡ given) × ((front : List ℕ) → given ≢ front ++ line_feed ∷ []))

-- what stands in a file or in standard input is meant without the line feed at its end
abbrev pub IsContent : Source → (given content : List ℕ) → Type 0
IsContent (source.Word w) given content = content ≡ given
IsContent _ given content = WithoutLineEnd given content

-- the text is a document of the string with this content
abbrev pub IsTextOf : (content made : List ℕ) → Type 0
IsTextOf content made = ReadsAs max_depth (chars made) (text (chars content))

-- a key, where a value goes and what a comment says are the bytes themselves
abbrev pub MeansGiven : Command → (given made : List ℕ) → Type 0
MeansGiven work.Rename given made = made ≡ given
MeansGiven work.Move given made = made ≡ given
MeansGiven work.Copy given made = made ≡ given
MeansGiven work.Comment given made = made ≡ given
MeansGiven w given made = Strips given made

abbrev pub MeansBy : (is_text : Bool) → Command → Source → (given made : List ℕ) → Type 0
MeansBy true w s given made = (content : List ℕ) × IsContent s given content × IsTextOf content made
MeansBy false w s given made = MeansGiven w given made

-- what is given means this: a value, the string of a content, a key, where a value goes, or what a comment says
abbrev pub Means : Task → (given made : List ℕ) → Type 0
Means t given made = MeansBy t.given.is_text t.work t.given.source given made
