-- How the words of the command line are taken, one after the other.
-- Private.
use Rattle.std.specs.declared.alloc.Global.{Global}
use Rattle.std.specs.Prelude.{◌≡◌, ◌↔◌, ℕ, List, ◌∷◌, ◌++◌, None, option_map, Result, Ok, Err, String, string_bytes}
use Rattle.cli_tidy.specs.declared.options.Fault.{Fault}
use Rattle.cli_tidy.specs.declared.options.Fault.TheVariants as faults
use Rattle.cli_tidy.specs.declared.options.Options.{Options}
use Rattle.cli_tidy.specs.declared.options.Setting.{Setting}
use Rattle.cli_tidy.specs.declared.requests.TidyRequest.{TidyRequest}
use Rattle.cli_tidy.specs.declared.taking.Words.{Words}
use Rattle.cli_tidy.specs.CommandWords.{Part, Sets, equals, setting_word, Starts, Choices, with_part, with_names, Choose, IsFor, Asks, AsksNothing}
use Rattle.cli_files.specs.NameLists.{names_of}

-- what was chosen so far
abbrev pub choices_of : Words → Choices
choices_of w = record { style = w.options.style; endings = names_of w.options.endings.items; excluded = names_of w.options.excluded.items; stdin_name = option_map string_bytes w.options.stdin_name; is_quiet = w.options.is_quiet; question = w.question; others = names_of w.others.items }

-- the same where no question was asked
abbrev pub unasked : Options → (others : List (String Global)) → Choices
unasked options others = record { style = options.style; endings = names_of options.endings.items; excluded = names_of options.excluded.items; stdin_name = option_map string_bytes options.stdin_name; is_quiet = options.is_quiet; question = None; others = names_of others }

-- one part more was taken, of those that are allowed
abbrev pub Gains : (Part → Type 0) → (old new : Words) → Type 0
Gains allowed old new = (p : Part) × allowed p × (choices_of new ≡ with_part p (choices_of old))

-- the word is the option and its value, with a sign of equality between them
abbrev pub IsJoined : (word : List ℕ) → Setting → (value : List ℕ) → Type 0
IsJoined word s value = word ≡ setting_word s ++ equals ∷ value

-- no part is allowed, unless memory ran out
abbrev pub Refuses : (Part → Type 0) → Fault → Type 0
Refuses allowed fault = fault ≡ faults.Unknown → (p : Part) → ¬ (allowed p)

-- the part starts these words
abbrev pub IsStart : (words : List (List ℕ)) → Part → Type 0
IsStart words p = (left : List (List ℕ)) × Starts words p left

-- the word is an option, and the first of the rest is its value
abbrev pub IsPair : (word : List ℕ) (rest : List (List ℕ)) → Part → (left : List (List ℕ)) → Type 0
IsPair word rest p left = (s : Setting) × (value : List ℕ) × (word ≡ setting_word s) × (rest ≡ value ∷ left) × Sets s value p

abbrev pub BeginsPair : (word : List ℕ) (rest : List (List ℕ)) → Part → Type 0
BeginsPair word rest p = (left : List (List ℕ)) × IsPair word rest p left

-- after c these words choose what those choose after d
abbrev pub ChooseAlike : Choices → (words : List (List ℕ)) → Choices → (left : List (List ℕ)) → Type 0
ChooseAlike c words d left = (e : Choices) → Choose c words e ↔ Choose d left e

-- all words were taken but these names behind `--`
abbrev pub TakesAll : (words : List (List ℕ)) (old new : Words) (rest : List (List ℕ)) → Type 0
TakesAll words old new rest = (e : Choices) → Choose (choices_of old) words e ↔ (e ≡ with_names rest (choices_of new))

-- the words choose nothing, unless memory ran out
abbrev pub ChooseNothing : Choices → (words : List (List ℕ)) → Fault → Type 0
ChooseNothing c words fault = fault ≡ faults.Unknown → (e : Choices) → ¬ (Choose c words e)

-- this request is for what was chosen; or none is
abbrev pub Requests : Choices → Result TidyRequest Fault → Type 0
Requests c (Ok request) = IsFor c request
Requests c (Err fault) = (fault ≡ faults.Unknown) × ((request : TidyRequest) → ¬ (IsFor c request))

-- the words ask for this request; or for none, or memory ran out
abbrev pub ReadsWords : (list : List (String Global)) → Result TidyRequest Fault → Type 0
ReadsWords list (Ok request) = Asks list request
ReadsWords list (Err fault) = fault ≡ faults.Unknown → AsksNothing list
