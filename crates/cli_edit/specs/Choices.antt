-- The options behind a value, as they are read.
-- Private.
use Rattle.std.specs.Prelude.{◌≡◌, ℕ, List, [], ◌∷◌, Option, MatchOption}
use lib.Chars.{codes}
use Rattle.cli_edit.specs.declared.requests.Choice.{Choice}
use Rattle.cli_edit.specs.declared.requests.Choice.TheVariants as choice
use Rattle.cli_edit.specs.declared.requests.Command.{Command}
use Rattle.cli_edit.specs.declared.requests.Tail.{Tail}
use Rattle.cli_edit.specs.Requests.{PutsValue, choice_words, tail_words, work_word}

abbrev pub words_of : Choice → List (List ℕ)
words_of choice.Plain = []
words_of choice.IfAbsent = codes "--if-absent" ∷ []
words_of choice.First = codes "--first" ∷ []
words_of (choice.Before k) = codes "--before" ∷ k.now ∷ []

-- the words are those of these options
abbrev pub IsTail : Tail → List (List ℕ) → Type 0
IsTail t words = words ≡ tail_words t.is_text (words_of t.choice)

-- the options that these words are; None where they are others
abbrev pub FindsTail : List (List ℕ) → Option Tail → Type 0
FindsTail words result = MatchOption result ((t : Tail) → ¬ (IsTail t words)) (λ t. IsTail t words)

-- a work of this name that puts a value, with this option
abbrev pub IsWorkOf : (word : List ℕ) → Choice → Command → Type 0
IsWorkOf word c w = (word ≡ work_word w) × PutsValue w × (choice_words w ≡ words_of c)

abbrev pub FindsWorkOf : (word : List ℕ) → Choice → Option Command → Type 0
FindsWorkOf word c result = MatchOption result ((w : Command) → ¬ (IsWorkOf word c w)) (IsWorkOf word c)
