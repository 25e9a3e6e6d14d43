-- What leaves names alone.
-- A promise rests on this.
use Rattle.std.specs.declared.alloc.Global.{Global}
use Rattle.std.specs.Prelude.{◌≡◌, ◌≢◌, ◌⊎◌, ℕ, true, List, [], ◌++◌, Option, Some, String}
use lib.Chars.{codes}
use Rattle.cli_files.specs.declared.ignores.Ignores.{Ignores}
use Rattle.cli_files.specs.Stores.{Known}

-- files with these names say what is left alone
abbrev pub IsIgnoreName : List ℕ → Type 0
IsIgnoreName file = (file ≡ codes ".ignore") ⊎ (file ≡ codes ".gitignore")

-- a word says it, or such a file that can be opened
pub data HasRules (known : Known) (excluded : List (String Global)) : Type 0 where
  word : excluded ≢ [] → HasRules known excluded
  line : (folder file : List ℕ) (text : Option (List ℕ)) → IsIgnoreName file → known.opens (folder ++ file) (Some text) → HasRules known excluded

-- what is left alone is so by these words or such files
abbrev pub Backs : Known → (excluded : List (String Global)) → Ignores → Type 0
Backs known excluded ignores = ignores.has_rules ≡ true → HasRules known excluded

-- what more is left alone is so by such files
abbrev pub FindsRules : Known → (old new : Ignores) → Type 0
FindsRules known old new = (excluded : List (String Global)) → Backs known excluded old → Backs known excluded new
