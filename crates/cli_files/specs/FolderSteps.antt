-- How the names that are left to look at, and the files that were found, go on.
-- Private.
use Rattle.std.specs.declared.alloc.Global.{Global}
use Rattle.std.specs.Prelude.{◌≡◌, ◌⊎◌, ℕ, true, List, [], ◌∷◌, ◌++◌, reverse, String}
use Rattle.cli_files.specs.declared.ignores.Ignores.{Ignores}
use Rattle.cli_files.specs.Ignores.{Backs}
use Rattle.cli_files.specs.Folders.{AreBelow, IsBelow}
use Rattle.cli_files.specs.NameLists.{names_of}
use Rattle.cli_files.specs.Stores.{Known}

-- the names that are left, the last first
abbrev pub left_of : List (String Global) → List (List ℕ)
left_of names = names_of (reverse names)

module _ (known : Known) (endings excluded : List (String Global)) where
  -- what stands for these names goes on as what is left and was found before, and stands for what is left and was found now
  abbrev pub Leads : (names : List (List ℕ)) → (found : List (String Global)) → (new_left new_found : List (String Global)) → Type 0
  Leads names found new_left new_found = (more : List (List ℕ)) → AreBelow known endings excluded (left_of new_left) more
      → (all : List (List ℕ)) × AreBelow known endings excluded names all × (names_of found ++ all ≡ names_of new_found ++ more)

  -- a folder was opened in front of what is left
  abbrev pub Opens : (folder : List ℕ) (left found new_left new_found : List (String Global)) → Type 0
  Opens folder left found new_left new_found = (more : List (List ℕ)) → AreBelow known endings excluded (left_of new_left) more
      → (inner : List (List ℕ)) × (rest : List (List ℕ)) × IsBelow known endings excluded folder inner × AreBelow known endings excluded (left_of left) rest × (names_of found ++ (inner ++ rest) ≡ names_of new_found ++ more)

  -- the files below the folder were appended
  abbrev pub Gathers : (folder : List ℕ) (found new_found : List (String Global)) → Type 0
  Gathers folder found new_found = (inner : List (List ℕ)) × IsBelow known endings excluded folder inner × (names_of new_found ≡ names_of found ++ inner)

  -- the files below the folder are those that were found, and then those that stand for what is left
  abbrev pub Gathering : (folder : List ℕ) (first left found : List (String Global)) → Type 0
  Gathering folder first left found = (more : List (List ℕ)) → AreBelow known endings excluded (left_of left) more
      → (inner : List (List ℕ)) × IsBelow known endings excluded folder inner × (names_of first ++ inner ≡ names_of found ++ more)

-- whatever is asked for, the folder was opened in front of what is left
abbrev pub OpensFolder : Known → (folder : List ℕ) (left found new_left new_found : List (String Global)) → Type 0
OpensFolder known folder left found new_left new_found = (endings excluded : List (String Global)) → Opens known endings excluded folder left found new_left new_found

-- whatever words the rules before are backed by, those after are, and then this holds
abbrev pub IsBacked : Known → (old new : Ignores) → (List (String Global) → Type 0) → Type 0
IsBacked known old new P = (excluded : List (String Global)) → Backs known excluded old → Backs known excluded new × P excluded

-- the file was found, or there are rules
abbrev pub TakesFile : Ignores → (name : List ℕ) (found new_found : List (String Global)) → Type 0
TakesFile ignores name found new_found = (names_of new_found ≡ names_of found ++ name ∷ []) ⊎ ((ignores.has_rules ≡ true) × (new_found ≡ found))

-- the folder was opened, or there are rules
abbrev pub TakesFolder : Known → Ignores → (folder : List ℕ) (left found new_left new_found : List (String Global)) → Type 0
TakesFolder known ignores folder left found new_left new_found =
    OpensFolder known folder left found new_left new_found ⊎ ((ignores.has_rules ≡ true) × (new_left ≡ left) × (new_found ≡ found))

-- ---- the same with the rules that were read meanwhile

-- the files below the folder were appended
abbrev pub GathersBelow : Known → (endings : List (String Global)) → (folder : List ℕ) → (before after : Ignores) → (found new_found : List (String Global)) → Type 0
GathersBelow known endings folder before after found new_found = IsBacked known before after (λ excluded. Gathers known endings excluded folder found new_found)

-- the name was taken, and what stands for it goes on so
abbrev pub TakesEntry : Known → (endings : List (String Global)) → (name : List ℕ) → (before after : Ignores) → (left found new_left new_found : List (String Global)) → Type 0
TakesEntry known endings name before after left found new_left new_found =
    IsBacked known before after (λ excluded. Leads known endings excluded (name ∷ left_of left) found new_left new_found)

-- the folder was opened and its rules were read, or it is left alone
abbrev pub EntersFolder : Known → (folder : List ℕ) → (before after : Ignores) → (left found new_left new_found : List (String Global)) → Type 0
EntersFolder known folder before after left found new_left new_found = IsBacked known before after (λ _. TakesFolder known after folder left found new_left new_found)
