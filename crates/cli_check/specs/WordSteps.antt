-- How the words of the command line are taken, one after the other.
-- Private.
use Rattle.std.specs.declared.alloc.Global.{Global}
use Rattle.std.specs.Prelude.{◌≡◌, ◌≢◌, ◌≤◌, ℕ, List, ◌∷◌, length, Option, Some, None, Result, Ok, Err, String}
use Rattle.std.specs.Borrow.{Bor}
use Rattle.cli_check.specs.declared.options.Options.{Options}
use Rattle.cli_check.specs.declared.options.WordFault.{WordFault}
use Rattle.cli_check.specs.declared.options.WordFault.TheVariants as faults
use Rattle.cli_check.specs.declared.kinds.Setting.{Setting}
use Rattle.cli_check.specs.declared.kinds.Word.TheVariants as word
use Rattle.cli_check.specs.CommandWords.{Choices, Choose, choices_of, joined_word, kind_in, nothing_chosen}
use Rattle.cli_files.specs.NameLists.{names_of}

-- what is chosen after d of these words is chosen after c of those
abbrev pub GoesOn : Choices → (words : List (List ℕ)) → Choices → (left : List (List ℕ)) → Type 0
GoesOn c words d left = (r : Option Choices) → Choose d left r → Choose c words r

-- nothing can be chosen so, unless memory ran out
abbrev pub Refuses : (Choices → Type 0) → WordFault → Type 0
Refuses allowed fault = fault ≡ faults.Unknown → (d : Choices) → ¬ (allowed d)

-- the word was taken, and the first of the rest where that is its value, and no more is left; or nothing is chosen, unless memory ran out
abbrev pub TakesWord : Choices → Choices → (word : List ℕ) (rest : List (List ℕ)) → Result (Bor (List (String Global))) WordFault → Type 0
TakesWord c d word rest (Ok left) = GoesOn c (word ∷ rest) d (names_of left.now) × (length (names_of left.now) ≤ length rest)
TakesWord c d word rest (Err fault) = fault ≡ faults.Unknown → Choose c (word ∷ rest) None

-- the same of a word that is no name and no flag
abbrev pub TakesSetting : Choices → Choices → (word : List ℕ) (rest : List (List ℕ)) → Result (Bor (List (String Global))) WordFault → Type 0
TakesSetting c d w rest result = kind_in c w ≡ word.Other → TakesWord c d w rest result

-- the same of one without its value
abbrev pub TakesPair : Choices → Choices → (word : List ℕ) (rest : List (List ℕ)) → Result (Bor (List (String Global))) WordFault → Type 0
TakesPair c d w rest result = ((s : Setting) (value : List ℕ) → w ≢ joined_word s value) → TakesSetting c d w rest result

-- the words ask for this; or for nothing, or memory ran out
abbrev pub ReadsWords : (words : List (List ℕ)) → Result Options WordFault → Type 0
ReadsWords words (Ok o) = Choose nothing_chosen words (Some (choices_of o))
ReadsWords words (Err fault) = fault ≡ faults.Unknown → Choose nothing_chosen words None
