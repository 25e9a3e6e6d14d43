-- The member that a path or a variable sets, and its value.
-- A promise rests on this.
use Rattle.std.specs.Prelude.{◌≡◌, ◌≢◌, ◌⊎◌, ◌++◌, ◌∷◌, [], ℕ, Bool, true, false, List, Some, Result, Ok, Err}
use Rattle.std.specs.Str.{chars}
use Rattle.json5_grammar.specs.Language.Documents.{Doc, max_depth}
use Rattle.json5_grammar.specs.Language.Trees.{Tree}
use Rattle.json5_read.specs.DocumentReads.{IsRefused}
use Rattle.json5_tokens.specs.Cursor.{IsOutOfMemory}
use Rattle.json5_types.specs.declared.error.Error.{Error}
use Rattle.json5_types.specs.ValueMeanings.{Datum, text, object, no_field, field}
use Rattle.json5_settings.specs.Stacks.{Layer, Means, MeansWithin, Stacks}
use Rattle.json5_settings.specs.Words.{has_empty_word, keys_meant, words_in}
use Rattle.json5_settings.specs.declared.faults.SettingError.{SettingError}
use Rattle.json5_settings.specs.declared.faults.SettingError.TheVariants as error

-- objects within one another that have one member each, and innermost this
abbrev pub one_member : List (List ℕ) → Datum → Datum
one_member [] x = x
one_member (key ∷ keys) x = object (field key (one_member keys x) no_field)

-- what the text means as JSON5, or else its content as a string
abbrev pub IsGiven : List ℕ → Datum → Type 0
IsGiven given x = Means given x ⊎ (((t : Tree) → Doc max_depth given t → ⊥) × (x ≡ text given))

-- one layer came, with this name: a document that has this value alone, at these keys
abbrev pub AddsMember : (name : List ℕ) → (keys : List (List ℕ)) → (value : List ℕ) → (old new : List Layer) → Type 0
AddsMember name keys value old new = (made : List ℕ) × (x : Datum) × (new ≡ old ++ ((name, made) ∷ [])) × Means (chars made) (one_member keys x) × IsGiven (chars value) x

-- memory ran out, or the value would be too deep: that document is refused, but would be one within another limit
abbrev pub RefusesMember : (value : List ℕ) → Error → Type 0
RefusesMember value e = IsOutOfMemory e ⊎ ((made : List ℕ) × (keys : List (List ℕ)) × (x : Datum) × (limit : ℕ) × MeansWithin limit made (one_member keys x) × IsGiven (chars value) x × IsRefused made e)

-- a member was set at some keys, or nothing changed
abbrev pub Sets : (name value : List ℕ) → (old new : List Layer) → Result (Unit {0}) SettingError → Type 0
Sets name value old new (Ok r) = (keys : List (List ℕ)) × (keys ≢ []) × AddsMember name keys value old new
Sets name value old new (Err (error.Text e)) = (new ≡ old) × RefusesMember value e
Sets name value old new (Err _) = new ≡ old

-- the words mean no keys, or the member is refused
abbrev pub RefusesVariable : (words value : List ℕ) → SettingError → Type 0
RefusesVariable words value (error.Path e) = ⊥
RefusesVariable words value error.NoMember = has_empty_word words ≡ true
RefusesVariable words value (error.Text e) = RefusesMember value e

-- the member was set that the words mean in what all layers make together; or it was refused, and nothing changed
abbrev pub SetsWords : (name words value : List ℕ) → (old new : List Layer) → Result Bool SettingError → Type 0
SetsWords name words value old new (Ok true) = (has_empty_word words ≡ false) × ((x : Datum) × Stacks old x × AddsMember name (keys_meant (Some x) (words_in words)) value old new)
SetsWords name words value old new (Ok false) = ⊥
SetsWords name words value old new (Err e) = (new ≡ old) × RefusesVariable words value e

-- the same of the words after the prefix; or the name hasn't that, and nothing changed
abbrev pub SetsVariable : (prefix name value : List ℕ) → (old new : List Layer) → Result Bool SettingError → Type 0
SetsVariable prefix name value old new (Ok true) = (words : List ℕ) × (name ≡ prefix ++ words) × SetsWords name words value old new (Ok true)
SetsVariable prefix name value old new (Ok false) = (new ≡ old) × ((words : List ℕ) → name ≢ prefix ++ words)
SetsVariable prefix name value old new (Err e) = (words : List ℕ) × (name ≡ prefix ++ words) × SetsWords name words value old new (Err e)
