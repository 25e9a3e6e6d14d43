-- A text with one value replaced.
-- A promise rests on this.
use Rattle.std.specs.Prelude.{◌≡◌, ℕ, List, ◌++◌, Some}
use Rattle.std.specs.Str.{chars, IsUtf8, encode_utf8_all}
use Rattle.json5_grammar.specs.Language.Documents.{Doc, max_depth}
use Rattle.json5_grammar.specs.Language.Trees.{Tree}
use Rattle.json5_grammar.specs.Language.Values.{Val}
use Rattle.json5_walk.specs.declared.place.Place.{Place}
use Rattle.json5_edit.specs.Places.{IsValue, IsPart}
use Rattle.json5_edit.specs.Parts.{part, put, positions_of}
use Rattle.json5_edit.specs.declared.paths.Step.{Step}

-- the text `made` is the text with the value that the path leads to replaced by new; both are documents, and the tree
-- is the old one with that part replaced
pub record IsSet (text : List ℕ) (path : List Step) (new made : List ℕ) : Type 0 where
  pub before : List ℕ
  pub old : List ℕ
  pub after : List ℕ
  pub was : text ≡ before ++ (old ++ after)
  pub now : made ≡ before ++ (new ++ after)
  pub tree : Tree
  pub old_tree : Tree
  pub new_tree : Tree
  pub positions : List ℕ
  pub led : positions_of path tree ≡ Some positions
  pub old_value : Val (chars old) old_tree
  pub new_value : Val (chars new) new_tree
  pub there : part positions tree ≡ Some old_tree
  pub document : Doc max_depth (chars text) tree
  pub still : Doc max_depth (chars made) (put positions tree new_tree)

-- made is the text with new, a value that fits and is UTF-8, in the place
abbrev pub Puts : List ℕ → Place → List ℕ → List ℕ → Type 0
Puts text place new made = IsUtf8 new × IsValue place.room (chars new) × ((before old after : List ℕ) → IsPart text place before old after → made ≡ encode_utf8_all before ++ (new ++ encode_utf8_all after))
