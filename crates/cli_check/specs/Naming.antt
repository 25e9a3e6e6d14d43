-- The schema that a document names, and the file that this name stands for.
-- A promise rests on this.
use Rattle.std.specs.declared.alloc.Global.{Global}
use Rattle.std.specs.Prelude.{◌≡◌, ◌==◌, ℕ, List, ◌∷◌, ◌++◌, Option, None, Some, String, string_bytes}
use Rattle.std.specs.List.{Any}
use Rattle.std.specs.Str.{chars, NoCharPasses}
use lib.Chars.{codes}
use Rattle.json5_types.specs.ValueMeanings.{Datum}
use Rattle.json5_types.specs.ValueLookups.{named_of, text_in}

abbrev pub slash : ℕ
slash = 47

abbrev pub equals : ℕ
equals = 61

abbrev pub text_of : Option Datum → Option (List ℕ)
text_of None = None
text_of (Some x) = text_in x

abbrev pub schema_name : List ℕ
schema_name = chars (codes "$schema")

-- what the document's key `$schema` says
abbrev pub schema_key : Datum → Option (List ℕ)
schema_key x = text_of (named_of schema_name x)

-- `NAME=FILE` has this name and this file
abbrev pub MapsTo : (schema file : List ℕ) → String Global → Type 0
MapsTo schema file map = string_bytes map ≡ schema ++ equals ∷ file

-- it begins at the root
abbrev pub IsAbsolute : List ℕ → Type 0
IsAbsolute path = (rest : List ℕ) × (path ≡ slash ∷ rest)

abbrev pub HasNoSlash : List ℕ → Type 0
HasNoSlash name = NoCharPasses (λ c. c == slash) name

-- the folder stands before the last slash of the name
abbrev pub IsFolderOf : (name folder : List ℕ) → Type 0
IsFolderOf name folder = (base : List ℕ) × (name ≡ folder ++ slash ∷ base) × HasNoSlash base

-- the file that is called so from the folder of the document with this name on
pub data IsBeside (name path : List ℕ) : (file : List ℕ) → Type 0 where
  alone : HasNoSlash name → IsBeside name path path
  absolute : IsAbsolute path → IsBeside name path path
  within : (folder : List ℕ) → ¬ (IsAbsolute path) → IsFolderOf name folder → IsBeside name path (folder ++ slash ∷ path)

-- the file that a schema's name stands for in the document with this name: one that a map has, or else one beside it
pub data Leads (maps : List (String Global)) (name schema : List ℕ) : (file : List ℕ) → Type 0 where
  mapped : {file : List ℕ} → Any (MapsTo schema file) maps → Leads maps name schema file
  beside : {file : List ℕ} → ((other : List ℕ) → ¬ (Any (MapsTo schema other) maps)) → IsBeside name schema file → Leads maps name schema file

-- it stands for no file: it is a URL, and no map has it
abbrev pub IsElsewhere : (maps : List (String Global)) → (schema : List ℕ) → Type 0
IsElsewhere maps schema = ((file : List ℕ) → ¬ (Any (MapsTo schema file) maps)) × ((front rest : List ℕ) × (schema ≡ front ++ (codes "://" ++ rest)))

-- the file, or that there is none
abbrev pub LeadsTo : (maps : List (String Global)) → (name schema : List ℕ) → Option (String Global) → Type 0
LeadsTo maps name schema None = IsElsewhere maps schema
LeadsTo maps name schema (Some file) = Leads maps name schema (string_bytes file)
