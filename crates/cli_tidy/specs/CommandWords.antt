-- The words after the program's name, and what they ask for.
-- A promise rests on this.
use Rattle.std.specs.declared.alloc.Global.{Global}
use Rattle.std.specs.Prelude.{◌≡◌, ◌≢◌, ◌⊎◌, ◌≤◌, ℕ, Bool, true, false, List, [], ◌∷◌, ◌++◌, Option, Some, None, option_map, String, string_bytes}
use Rattle.std.specs.Option.{option_map_or}
use Rattle.std.specs.Str.Parse.{IsNumeral, digits_value, without_leading_plus}
use lib.Chars.{codes}
use Rattle.json5_tidy.specs.declared.style.LastCommas.{LastCommas}
use Rattle.json5_tidy.specs.declared.style.LastCommas.TheVariants as commas
use Rattle.json5_tidy.specs.declared.style.Stars.TheVariants as stars
use Rattle.cli_tidy.specs.declared.styles.ChosenStyle.{ChosenStyle}
use Rattle.cli_tidy.specs.ChosenStyles.{asked, nothing_asked}
use Rattle.cli_tidy.specs.declared.options.Flag.{Flag}
use Rattle.cli_tidy.specs.declared.options.Flag.TheVariants as flags
use Rattle.cli_tidy.specs.declared.options.Options.{Options}
use Rattle.cli_tidy.specs.declared.options.Setting.{Setting}
use Rattle.cli_tidy.specs.declared.options.Setting.TheVariants as settings
use Rattle.cli_tidy.specs.declared.requests.TidyRequest.{TidyRequest}
use Rattle.cli_tidy.specs.declared.requests.TidyRequest.TheVariants as requests
use Rattle.cli_tidy.specs.declared.taking.Question.{Question}
use Rattle.cli_tidy.specs.declared.taking.Question.TheVariants as questions
use Rattle.cli_tidy.specs.declared.work.FileWork.{FileWork}
use Rattle.cli_tidy.specs.declared.work.FileWork.TheVariants as work
use Rattle.cli_files.specs.NameLists.{names_of}
use Rattle.cli_files.specs.Folders.{IsEnding}

abbrev pub minus : ℕ
minus = 45

abbrev pub equals : ℕ
equals = 61

abbrev pub work_word : FileWork → List ℕ
work_word work.Check = codes "check"
work_word work.Diff = codes "diff"
work_word work.Print = codes "print"
work_word work.Write = codes "write"
work_word work.Style = codes "style"

-- after it no word is an option
abbrev pub end_word : List ℕ
end_word = codes "--"

-- it begins with a minus, and isn't one alone
abbrev pub IsDashed : List ℕ → Type 0
IsDashed word = (rest : List ℕ) × (rest ≢ []) × (word ≡ minus ∷ rest)

-- the word is this flag
abbrev pub IsFlag : List ℕ → Flag → Type 0
IsFlag word flags.Help = (word ≡ codes "--help") ⊎ (word ≡ codes "-h")
IsFlag word flags.Version = word ≡ codes "--version"
IsFlag word flags.NoLastComma = word ≡ codes "--no-last-comma"
IsFlag word flags.KeepStars = word ≡ codes "--keep-stars"
IsFlag word flags.Quiet = word ≡ codes "--quiet"

-- the option that has a value
abbrev pub setting_word : Setting → List ℕ
setting_word settings.Indent = codes "--indent"
setting_word settings.Width = codes "--width"
setting_word settings.LastCommas = codes "--last-commas"
setting_word settings.Ext = codes "--ext"
setting_word settings.Exclude = codes "--exclude"
setting_word settings.StdinName = codes "--stdin-name"

-- ---- values

-- the value is a decimal number from 1 to `most`; a plus may stand in front
abbrev pub IsCount : (most : ℕ) (value : List ℕ) → ℕ → Type 0
IsCount most value n = IsNumeral 10 (without_leading_plus value) × (n ≡ digits_value 10 (without_leading_plus value)) × (1 ≤ n) × (n ≤ most)

-- a count of spaces, or a tab, which is 0
abbrev pub IsIndent : (value : List ℕ) → ℕ → Type 0
IsIndent value n = ((value ≡ codes "tab") × (n ≡ 0)) ⊎ IsCount 16 value n

-- where last commas come
abbrev pub commas_word : LastCommas → List ℕ
commas_word commas.Auto = codes "auto"
commas_word commas.Always = codes "always"
commas_word commas.Never = codes "never"

-- ---- parts

-- what a word, or an option with its value, says
pub data Part : Type 0 where
  -- it is no option
  name : List ℕ → Part
  flag : Flag → Part
  indent : ℕ → Part
  width : ℕ → Part
  last_commas : LastCommas → Part
  ending : List ℕ → Part
  excluded : List ℕ → Part
  stdin_name : List ℕ → Part

-- what the option says that is given this value
abbrev pub Sets : Setting → (value : List ℕ) → Part → Type 0
Sets settings.Indent value p = (n : ℕ) × IsIndent value n × (p ≡ indent n)
Sets settings.Width value p = (n : ℕ) × IsCount 9999 value n × (p ≡ width n)
Sets settings.LastCommas value p = (c : LastCommas) × (value ≡ commas_word c) × (p ≡ last_commas c)
Sets settings.Ext value p = (e : List ℕ) × IsEnding value e × (p ≡ ending e)
Sets settings.Exclude value p = (value ≢ []) × (p ≡ excluded value)
Sets settings.StdinName value p = (value ≢ []) × (p ≡ stdin_name value)

-- the words begin with this part, and these words are left
pub data Starts (words : List (List ℕ)) (p : Part) (left : List (List ℕ)) : Type 0 where
  plain : (word : List ℕ) → words ≡ word ∷ left → ¬ (IsDashed word) → p ≡ name word → Starts words p left
  alone : (word : List ℕ) (f : Flag) → words ≡ word ∷ left → IsFlag word f → p ≡ flag f → Starts words p left
  -- as `--indent=4`
  joined : (s : Setting) (value : List ℕ) → words ≡ (setting_word s ++ equals ∷ value) ∷ left → Sets s value p → Starts words p left
  -- as `--indent 4`
  apart : (s : Setting) (value : List ℕ) → words ≡ setting_word s ∷ value ∷ left → Sets s value p → Starts words p left

-- ---- choices

-- what the parts choose
pub record Choices : Type 0 where
  pub style : ChosenStyle
  pub endings : List (List ℕ)
  pub excluded : List (List ℕ)
  pub stdin_name : Option (List ℕ)
  pub is_quiet : Bool
  pub question : Option Question
  -- the words that are no options
  pub others : List (List ℕ)

abbrev pub nothing_chosen : Choices
nothing_chosen = record { style = nothing_asked; endings = []; excluded = []; stdin_name = None; is_quiet = false; question = None; others = [] }

-- after one part more; of an option that is given twice the last counts, but each ending and each glob does
abbrev pub with_part : Part → Choices → Choices
with_part (name word) c = record c { others = c.others ++ word ∷ [] }
with_part (flag flags.Help) c = record c { question = Some questions.Help }
with_part (flag flags.Version) c = record c { question = Some questions.Version }
with_part (flag flags.NoLastComma) c = record c { style = record c.style { last_commas = commas.Never } }
with_part (flag flags.KeepStars) c = record c { style = record c.style { stars = stars.Keep } }
with_part (flag flags.Quiet) c = record c { is_quiet = true }
with_part (indent n) c = record c { style = record c.style { indent = asked n } }
with_part (width n) c = record c { style = record c.style { width = asked n } }
with_part (last_commas l) c = record c { style = record c.style { last_commas = l } }
with_part (ending e) c = record c { endings = c.endings ++ e ∷ [] }
with_part (excluded glob) c = record c { excluded = c.excluded ++ glob ∷ [] }
with_part (stdin_name n) c = record c { stdin_name = Some n }

-- after words that are no options
abbrev pub with_names : List (List ℕ) → Choices → Choices
with_names more c = record c { others = c.others ++ more }

-- what the words choose, after what was chosen before
pub data Choose : Choices → (words : List (List ℕ)) → Choices → Type 0 where
  none : (c : Choices) → Choose c [] c
  ended : (c : Choices) (words rest : List (List ℕ)) → words ≡ end_word ∷ rest → Choose c words (with_names rest c)
  next : (c d : Choices) (words left : List (List ℕ)) (p : Part) → Starts words p left → Choose (with_part p c) left d → Choose c words d

-- ---- requests

abbrev pub HasOptions : Choices → Options → Type 0
HasOptions c o = (o.style ≡ c.style) × (names_of o.endings.items ≡ c.endings) × (names_of o.excluded.items ≡ c.excluded) × (option_map string_bytes o.stdin_name ≡ c.stdin_name) × (o.is_quiet ≡ c.is_quiet)

-- the name of standard input
abbrev pub input_name : Options → List ℕ
input_name o = option_map_or string_bytes o.stdin_name (codes "stdin")

-- a question counts alone; else there are a work and at least one name, or neither
abbrev pub IsFor : Choices → TidyRequest → Type 0
IsFor c requests.Help = c.question ≡ Some questions.Help
IsFor c requests.Version = c.question ≡ Some questions.Version
IsFor c (requests.Stream options) = (c.question ≡ None) × (c.others ≡ []) × HasOptions c options
IsFor c (requests.Files f) = (c.question ≡ None) × (c.others ≡ work_word f.work ∷ names_of f.names.items) × (f.names.items ≢ []) × HasOptions c f.options

-- what the words ask for
abbrev pub Asks : (list : List (String Global)) → TidyRequest → Type 0
Asks list request = (c : Choices) × Choose nothing_chosen (names_of list) c × IsFor c request

-- they ask for nothing
abbrev pub AsksNothing : (list : List (String Global)) → Type 0
AsksNothing list = (request : TidyRequest) → ¬ (Asks list request)
