-- What is known of the files and folders of a store.
-- A promise rests on this.
use Rattle.std.specs.Prelude.{⊤, ℕ, Bool, List, Option}
use Rattle.cli_files.specs.declared.stores.Entry.{Entry}
use Rattle.cli_files.specs.declared.unwritten.Unwritten.{Unwritten}

-- what opening a file gives: None where it is refused, else what it holds, if that is known
abbrev pub Opening : Type 1
Opening = Option (Option (List ℕ)) → Type 0

-- what comes of replacing the text of a file by another: None where the file holds the new text, else why it holds what it held; where
-- that is that it is torn, the file that is named holds it
abbrev pub Replacing : Type 1
Replacing = List ℕ → List ℕ → Option Unwritten → Type 0

-- what is known of what has a name: whether it stands for a folder; what it is itself; the names of what is in it, or None
-- where it can't be read; what opening it gives; and what comes of replacing its text
pub record Known : Type 1 where
  pub is_folder : List ℕ → Bool → Type 0
  pub has_entry : List ℕ → Entry → Type 0
  pub lists : List ℕ → Option (List (List ℕ)) → Type 0
  pub opens : List ℕ → Opening
  pub replaces : List ℕ → Replacing

abbrev pub nothing_known : Known
nothing_known = record { is_folder = λ _ _. ⊤; has_entry = λ _ _. ⊤; lists = λ _ _. ⊤; opens = λ _ _. ⊤; replaces = λ _ _ _ _. ⊤ }
