-- A document with comments.
-- A promise rests on this.
use Rattle.std.specs.Prelude.{◌≡◌, ℕ, zero, suc, List}
use Rattle.std.specs.Str.{chars}
use Rattle.json5_grammar.specs.Language.Documents.{max_depth}
use Rattle.json5_styles.specs.LaidBack.{ReadsAs}
use Rattle.json5_types.specs.ValueMeanings.{Datum}
use Rattle.json5_edit.specs.Commented.{IsCommented}
use Rattle.json5_edit.specs.declared.paths.Step.{Step}
use Rattle.json5_settings.specs.Stacks.{Means}

-- so many comments came into the text, each before an entry
abbrev pub GetsComments : ℕ → (text made : List ℕ) → Type 0
GetsComments zero text made = made ≡ text
GetsComments (suc n) text made = (before : List ℕ) × GetsComments n text before × ((path : List Step) × IsCommented before path made)

-- the text of a value got so many comments, and still means it
abbrev pub IsSample : Datum → ℕ → List ℕ → Type 0
IsSample x n made = Means (chars made) x × ((text : List ℕ) × ReadsAs max_depth (chars text) x × GetsComments n text made)
