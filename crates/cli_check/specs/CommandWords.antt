-- The words after the program's name, and what they ask for.
-- A promise rests on this.
use Rattle.std.specs.declared.alloc.Global.{Global}
use Rattle.std.specs.Prelude.{◌≡◌, ◌≢◌, ℕ, Bool, true, false, List, [], ◌∷◌, ◌++◌, Option, Some, None, option_map, nat_eq, if◌then◌else◌, String, string_bytes}
use Rattle.std.specs.Cmp.Lexicographic.{pointwise}
use Rattle.std.specs.List.{starts_with}
use lib.Chars.{codes}
use Rattle.cli_check.specs.declared.drafts.Draft.{Draft}
use Rattle.cli_check.specs.declared.options.Options.{Options}
use Rattle.cli_check.specs.declared.options.Asked.{Asked}
use Rattle.cli_check.specs.declared.options.Asked.TheVariants as asked
use Rattle.cli_check.specs.declared.kinds.Flag.{Flag}
use Rattle.cli_check.specs.declared.kinds.Flag.TheVariants as flags
use Rattle.cli_check.specs.declared.kinds.Setting.{Setting}
use Rattle.cli_check.specs.declared.kinds.Setting.TheVariants as settings
use Rattle.cli_check.specs.declared.kinds.Word.{Word}
use Rattle.cli_check.specs.declared.kinds.Word.TheVariants as word
use Rattle.cli_check.specs.Drafts.{draft_word}
use Rattle.cli_check.specs.Naming.{equals}
use Rattle.cli_files.specs.Folders.{IsEnding}
use Rattle.cli_files.specs.NameLists.{names_of}

-- it begins with a minus
abbrev pub is_dashed : List ℕ → Bool
is_dashed w = starts_with nat_eq w (codes "-")

-- an option that has a value
abbrev pub setting_word : Setting → List ℕ
setting_word settings.Schema = codes "--schema"
setting_word settings.Map = codes "--map"
setting_word settings.Draft = codes "--draft"
setting_word settings.Format = codes "--format"
setting_word settings.Ext = codes "--ext"
setting_word settings.Exclude = codes "--exclude"

-- with its value in the same word
abbrev pub joined_word : Setting → (value : List ℕ) → List ℕ
joined_word s value = setting_word s ++ equals ∷ value

-- what any other word is
abbrev pub other_kind : List ℕ → Word
other_kind w = if is_dashed w then word.Other else word.Name

-- what a word is; an option with a value is like one that is none
abbrev pub kind_of : List ℕ → Word
kind_of w =
    if pointwise nat_eq w (codes "-") then word.Name else
    if pointwise nat_eq w (codes "--") then word.End else
    if pointwise nat_eq w (codes "--help") then word.Flag flags.Help else
    if pointwise nat_eq w (codes "-h") then word.Flag flags.Help else
    if pointwise nat_eq w (codes "--version") then word.Flag flags.Version else
    if pointwise nat_eq w (codes "--quiet") then word.Flag flags.Quiet else
    if pointwise nat_eq w (codes "--json") then word.Flag flags.Json else
    if pointwise nat_eq w (codes "--strict") then word.Flag flags.Strict else
    other_kind w

-- what the words choose
pub record Choices : Type 0 where
  pub asked : Asked
  pub schema : Option (List ℕ)
  pub maps : List (List ℕ)
  pub draft : Option Draft
  pub asserts_formats : Bool
  pub endings : List (List ℕ)
  pub excluded : List (List ℕ)
  pub is_quiet : Bool
  pub is_json : Bool
  pub is_strict : Bool
  pub is_ended : Bool
  pub names : List (List ℕ)

abbrev pub nothing_chosen : Choices
nothing_chosen = record { asked = asked.Files; schema = None; maps = []; draft = None; asserts_formats = false; endings = []; excluded = []; is_quiet = false; is_json = false; is_strict = false; is_ended = false; names = [] }

abbrev pub choices_of : Options → Choices
choices_of o = record { asked = o.asked; schema = option_map string_bytes o.schema; maps = names_of o.maps.items; draft = o.draft; asserts_formats = o.asserts_formats; endings = names_of o.endings.items; excluded = names_of o.excluded.items; is_quiet = o.is_quiet; is_json = o.is_json; is_strict = o.is_strict; is_ended = o.is_ended; names = names_of o.names.items }

abbrev pub ChoosesNothing : Options → Type 0
ChoosesNothing o = choices_of o ≡ nothing_chosen

-- behind `--` each word is a name
abbrev pub kind_in : Choices → List ℕ → Word
kind_in c w = if c.is_ended then word.Name else kind_of w

abbrev pub with_name : List ℕ → Choices → Choices
with_name w c = record c { names = c.names ++ w ∷ [] }

abbrev pub ended : Choices → Choices
ended c = record c { is_ended = true }

abbrev pub with_flag : Flag → Choices → Choices
with_flag flags.Help c = record c { asked = asked.Help }
with_flag flags.Version c = record c { asked = asked.Version }
with_flag flags.Quiet c = record c { is_quiet = true }
with_flag flags.Json c = record c { is_json = true }
with_flag flags.Strict c = record c { is_strict = true }

-- the option with this value makes d of what was chosen; of schemas and drafts the last counts, and each map, ending and glob does
abbrev pub Sets : Setting → (value : List ℕ) → (c d : Choices) → Type 0
Sets settings.Schema value c d = d ≡ record c { schema = Some value }
Sets settings.Map value c d = d ≡ record c { maps = c.maps ++ value ∷ [] }
Sets settings.Draft value c d = (draft : Draft) × (value ≡ draft_word draft) × (d ≡ record c { draft = Some draft })
Sets settings.Format value c d = (value ≡ codes "assert") × (d ≡ record c { asserts_formats = true })
Sets settings.Ext value c d = (ending : List ℕ) × IsEnding value ending × (d ≡ record c { endings = c.endings ++ ending ∷ [] })
Sets settings.Exclude value c d = (value ≢ []) × (d ≡ record c { excluded = c.excluded ++ value ∷ [] })

-- it can't have this value
abbrev pub SetsNothing : Setting → (value : List ℕ) → Choices → Type 0
SetsNothing s value c = (d : Choices) → ¬ (Sets s value c d)

-- what the words choose after what was chosen before; nothing, where one is an option that is none, or its value is missing or can't be that
pub data Choose : Choices → (words : List (List ℕ)) → Option Choices → Type 0 where
  all : (c : Choices) → Choose c [] (Some c)
  name : (c : Choices) (w : List ℕ) (ws : List (List ℕ)) (r : Option Choices) → kind_in c w ≡ word.Name → Choose (with_name w c) ws r → Choose c (w ∷ ws) r
  behind : (c : Choices) (w : List ℕ) (ws : List (List ℕ)) (r : Option Choices) → kind_in c w ≡ word.End → Choose (ended c) ws r → Choose c (w ∷ ws) r
  flag : (c : Choices) (w : List ℕ) (ws : List (List ℕ)) (r : Option Choices) (f : Flag) → kind_in c w ≡ word.Flag f → Choose (with_flag f c) ws r → Choose c (w ∷ ws) r
  setting : (c d : Choices) (s : Setting) (value : List ℕ) (ws : List (List ℕ)) (r : Option Choices) → kind_in c (setting_word s) ≡ word.Other → Sets s value c d → Choose d ws r
      → Choose c (setting_word s ∷ value ∷ ws) r
  joined : (c d : Choices) (s : Setting) (value : List ℕ) (ws : List (List ℕ)) (r : Option Choices) → kind_in c (joined_word s value) ≡ word.Other → Sets s value c d → Choose d ws r
      → Choose c (joined_word s value ∷ ws) r
  unknown : (c : Choices) (w : List ℕ) (ws : List (List ℕ)) → kind_in c w ≡ word.Other → ((s : Setting) → w ≢ setting_word s) → ((s : Setting) (value : List ℕ) → w ≢ joined_word s value)
      → Choose c (w ∷ ws) None
  no_value : (c : Choices) (s : Setting) → kind_in c (setting_word s) ≡ word.Other → Choose c (setting_word s ∷ []) None
  wrong_value : (c : Choices) (s : Setting) (value : List ℕ) (ws : List (List ℕ)) → kind_in c (setting_word s) ≡ word.Other → SetsNothing s value c → Choose c (setting_word s ∷ value ∷ ws) None
  wrong_joined : (c : Choices) (s : Setting) (value : List ℕ) (ws : List (List ℕ)) → kind_in c (joined_word s value) ≡ word.Other → SetsNothing s value c → Choose c (joined_word s value ∷ ws) None

-- the words ask for this
abbrev pub Asks : (list : List (String Global)) → Options → Type 0
Asks list o = Choose nothing_chosen (names_of list) (Some (choices_of o))

-- they ask for nothing
abbrev pub AsksNothing : (list : List (String Global)) → Type 0
AsksNothing list = Choose nothing_chosen (names_of list) None
