-- What is written of the value that a path leads to.
-- A promise rests on this.
use Rattle.std.specs.Prelude.{⊤, ◌≡◌, ◌⊎◌, ℕ, true, false, List, [], ◌∷◌, ◌++◌, Some, None, MatchOption}
use Rattle.std.specs.Fmt.{decimal}
use lib.Chars.{codes}
use Rattle.std.specs.Str.{chars, encode_utf8_all}
use Rattle.json5_grammar.specs.Language.Characters.{line_feed}
use Rattle.json5_grammar.specs.Language.Documents.{Doc, max_depth}
use Rattle.json5_grammar.specs.Language.Trees.{Tree}
use Rattle.json5_types.specs.declared.error.Error.{Error}
use Rattle.json5_types.specs.Errors.{LacksMemory}
use Rattle.json5_types.specs.ValueKinds.{len_of}
use Rattle.json5_types.specs.ValueLookups.{fits, fields_in, text_in}
use Rattle.json5_types.specs.ValueMeanings.{Datum, Fields, no_field, field}
use Rattle.json5_types.specs.ValueMeanings as datum
use Rattle.json5_read.specs.TreeMeanings.{datum_of}
use Rattle.json5_styles.specs.declared.layout.Layout.TheVariants as layout
use Rattle.json5_styles.specs.JsonTexts.{is_json}
use Rattle.json5_styles.specs.Layouts.{json_text}
use Rattle.json5_edit.specs.Places.{IsPartAt}
use Rattle.json5_edit.specs.Refusals.{RefusesPath}
use Rattle.json5_edit.specs.declared.faults.EditError.{EditError}
use Rattle.json5_edit.specs.declared.faults.EditError.TheVariants as error
use Rattle.json5_edit.specs.declared.paths.Step.{Step}
use Rattle.cli_edit.specs.declared.requests.View.{View}
use Rattle.cli_edit.specs.declared.requests.View.TheVariants as view
use Rattle.cli_edit.specs.declared.trouble.TextTrouble.{TextTrouble}
use Rattle.cli_edit.specs.declared.trouble.TextTrouble.TheVariants as trouble

-- the value as JSON over lines that are indented by two spaces a level, and a line feed
abbrev pub json_line : Datum → List ℕ
json_line x = encode_utf8_all (json_text (layout.Spaces 2) x) ++ line_feed ∷ []

-- it holds a number that JSON hasn't, or isn't written since it has too many brackets
abbrev pub HasNoJson : Datum → Type 0
HasNoJson x = (is_json x ≡ false) ⊎ (fits x ≡ false)

-- each key and a line feed
abbrev pub KeyLines : Fields → List ℕ → Type 0
KeyLines no_field made = made ≡ []
KeyLines (field u x fs) made = (key : List ℕ) × (rest : List ℕ) × (chars key ≡ u) × (made ≡ (key ++ line_feed ∷ []) ++ rest) × KeyLines fs rest

-- the name of its kind
abbrev pub kind_word : Datum → List ℕ
kind_word datum.null = codes "null"
kind_word (datum.boolean b) = codes "boolean"
kind_word (datum.number n) = codes "number"
kind_word (datum.text u) = codes "string"
kind_word (datum.array xs) = codes "array"
kind_word (datum.object fs) = codes "object"

-- what is written of a value that is spelled so
abbrev pub Shows : View → (spelled : List ℕ) → Datum → (made : List ℕ) → Type 0
Shows view.Spelled spelled x made = made ≡ spelled ++ line_feed ∷ []
Shows view.Json spelled x made = (is_json x ≡ true) × (made ≡ json_line x)
Shows view.Content spelled x made = MatchOption (text_in x) (made ≡ spelled ++ line_feed ∷ []) (λ u. (content : List ℕ) × (chars content ≡ u) × (made ≡ content ++ line_feed ∷ []))
Shows view.Nothing spelled x made = made ≡ []
Shows view.Keys spelled x made = (fs : Fields) × (fields_in x ≡ Some fs) × KeyLines fs made
Shows view.Count spelled x made = (n : ℕ) × (len_of x ≡ Some n) × (made ≡ decimal n ++ line_feed ∷ [])
Shows view.Kind spelled x made = made ≡ kind_word x ++ line_feed ∷ []

-- why it isn't
abbrev pub ShowsNone : View → Datum → TextTrouble → Type 0
ShowsNone view.Json x (trouble.NoJson e) = HasNoJson x
ShowsNone view.Keys x (trouble.Edit error.NotObject) = fields_in x ≡ None
ShowsNone view.Count x (trouble.Edit error.NotArray) = len_of x ≡ None
ShowsNone v x (trouble.Edit error.NoMemory) = ⊤
ShowsNone v x _ = ⊥

-- the same of the value there
abbrev pub IsShownAt : View → List ℕ → List Step → List ℕ → Type 0
IsShownAt v bytes steps made = (spelled : List ℕ) × (p : IsPartAt bytes steps spelled) × Shows v spelled (datum_of p.there.tree) made

abbrev pub RefusesShowing : View → List ℕ → List Step → TextTrouble → Type 0
RefusesShowing v bytes steps x = ((e : EditError) × (x ≡ trouble.Edit e) × RefusesPath bytes steps e) ⊎ ((spelled : List ℕ) × (p : IsPartAt bytes steps spelled) × ShowsNone v (datum_of p.there.tree) x)

-- ---- of a value alone. Private clauses cite these.

abbrev pub IsShownOf : View → List ℕ → List ℕ → Type 0
IsShownOf v spelled made = (t : Tree) × Doc max_depth (chars spelled) t × Shows v spelled (datum_of t) made

abbrev pub RefusesShownOf : View → List ℕ → TextTrouble → Type 0
RefusesShownOf v spelled x = (t : Tree) × Doc max_depth (chars spelled) t × ShowsNone v (datum_of t) x

-- memory ran out, or the value isn't to be had as JSON
abbrev pub IsNoJson : Error → TextTrouble → Type 0
IsNoJson e (trouble.Edit x) = x ≡ error.NoMemory
IsNoJson e (trouble.NoJson f) = LacksMemory e → ⊥
IsNoJson e _ = ⊥
