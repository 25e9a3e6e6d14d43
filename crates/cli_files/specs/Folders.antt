-- The files that a name stands for.
-- A promise rests on this.
use Rattle.std.specs.declared.alloc.Global.{Global}
use Rattle.std.specs.Prelude.{◌≡◌, ◌≢◌, ◌⊎◌, ℕ, true, false, List, [], ◌∷◌, ◌++◌, None, Some, String, string_bytes, string_cmp}
use Rattle.std.specs.List.{Any}
use Rattle.std.specs.List.Sorted.{IsPermutation, IsSorted}
use lib.Chars.{codes}
use Rattle.cli_files.specs.declared.stores.Entry.TheVariants as entry
use Rattle.cli_files.specs.Ignores.{HasRules}
use Rattle.cli_files.specs.NameLists.{names_of}
use Rattle.cli_files.specs.Stores.{Known}

abbrev pub point : ℕ
point = 46

abbrev pub slash : ℕ
slash = 47

-- the last of the name are a byte other than a slash, a point and the ending
abbrev pub HasEnding : (ending name : List ℕ) → Type 0
HasEnding ending name = (front : List ℕ) × (byte : ℕ) × (byte ≢ slash) × (name ≡ front ++ byte ∷ point ∷ ending)

-- an ending, given with a point in front or without
abbrev pub IsEnding : (value : List ℕ) → List ℕ → Type 0
IsEnding value e = (e ≢ []) × ((value ≡ point ∷ e) ⊎ ((value ≡ e) × ((rest : List ℕ) → value ≢ point ∷ rest)))

-- files with this name are looked for below folders
abbrev pub IsSought : List (String Global) → List ℕ → Type 0
IsSought endings name = HasEnding (codes "json5") name ⊎ Any (λ e. HasEnding (string_bytes e) name) endings

abbrev pub EndsWith : (ending name : List ℕ) → Type 0
EndsWith ending name = (front : List ℕ) × (name ≡ front ++ ending)

-- folders with this name aren't looked into
abbrev pub IsPassedOver : List ℕ → Type 0
IsPassedOver name = EndsWith (codes "/.git") name ⊎ EndsWith (codes "/node_modules") name

module _ (known : Known) (endings excluded : List (String Global)) where
  mutual
    -- the files that entries with these names stand for, in their order
    pub data AreBelow : (names found : List (List ℕ)) → Type 0 where
      none : AreBelow [] []
      file : {names found : List (List ℕ)} (name : List ℕ) → known.has_entry name entry.File → IsSought endings name → AreBelow names found → AreBelow (name ∷ names) (name ∷ found)
      unsought : {names found : List (List ℕ)} (name : List ℕ) → known.has_entry name entry.File → ¬ (IsSought endings name) → AreBelow names found → AreBelow (name ∷ names) found
      unknown : {names found : List (List ℕ)} (name : List ℕ) → known.has_entry name entry.Unknown → AreBelow names found → AreBelow (name ∷ names) (name ∷ found)
      other : {names found : List (List ℕ)} (name : List ℕ) → known.has_entry name entry.Other → AreBelow names found → AreBelow (name ∷ names) found
      passed : {names found : List (List ℕ)} (name : List ℕ) → known.has_entry name entry.Folder → IsPassedOver name → AreBelow names found → AreBelow (name ∷ names) found
      -- a word or a file may leave alone what has a name; nothing else does
      left_alone : {names found : List (List ℕ)} (name : List ℕ) → HasRules known excluded → AreBelow names found → AreBelow (name ∷ names) found
      folder : {names inner found : List (List ℕ)} (name : List ℕ) → known.has_entry name entry.Folder → ¬ (IsPassedOver name) → IsBelow name inner → AreBelow names found → AreBelow (name ∷ names) (inner ++ found)

    -- the files below a folder, in the order of the names in it; a folder that can't be read is named itself
    pub data IsBelow : (folder : List ℕ) (found : List (List ℕ)) → Type 0 where
      unread : {folder : List ℕ} → known.lists folder None → IsBelow folder (folder ∷ [])
      read : {folder : List ℕ} {found : List (List ℕ)} (listed : List (List ℕ)) (names : List (String Global)) → known.lists folder (Some listed)
          → IsPermutation listed (names_of names) → IsSorted string_cmp names → AreBelow (names_of names) found → IsBelow folder found

-- the files that a name stands for: those below it if it is a folder, and else the name itself
pub data StandsFor (known : Known) (endings excluded : List (String Global)) (name : List ℕ) : (found : List (List ℕ)) → Type 0 where
  itself : known.is_folder name false → StandsFor known endings excluded name (name ∷ [])
  below : {found : List (List ℕ)} → known.is_folder name true → IsBelow known endings excluded name found → StandsFor known endings excluded name found
