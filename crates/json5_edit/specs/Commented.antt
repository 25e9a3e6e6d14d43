-- A text with other comments before an entry.
-- A promise rests on this.
use Rattle.std.specs.Prelude.{◌≡◌, ℕ, List, [], ◌∷◌, ◌++◌}
use Rattle.std.specs.Str.{chars}
use Rattle.json5_edit.specs.Changes.{ChangesBy, IsChanged}
use Rattle.json5_edit.specs.Comparing.{HaveSameEntries}
use Rattle.json5_edit.specs.Pieces.{Recomments}
use Rattle.json5_edit.specs.Places.{IsValue}
use Rattle.json5_edit.specs.Spots.{HasEntry}
use Rattle.json5_edit.specs.declared.paths.Step.{Step}

-- the collection's text has other comments right before the entry that the step goes to
abbrev pub RecommentsAt : Step → List ℕ → List ℕ → Type 0
RecommentsAt s old new = (room : ℕ) × (at : ℕ) × HasEntry s room old at × Recomments at old new

-- the text made has all values of the text, and other comments right before the entry that the path leads to
abbrev pub IsCommented : List ℕ → List Step → List ℕ → Type 0
IsCommented text path made = (outer : List Step) × (s : Step) × (path ≡ outer ++ (s ∷ [])) × (c : IsChanged HaveSameEntries text outer made) × RecommentsAt s c.old c.new

-- the same of a collection's text, which fits
abbrev pub Comments : Step → ℕ → List ℕ → List ℕ → Type 0
Comments s room old new = ChangesBy HaveSameEntries old new × RecommentsAt s old new × IsValue room (chars new)
