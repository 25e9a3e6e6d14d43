-- What the file of a schema means, and why no schema is taken.
-- A promise rests on this.
use Rattle.std.specs.Prelude.{◌≡◌, ⊤, ℕ, true, if◌then◌else◌, List, Option, None, Some, IfSome, Result, Ok, Err}
use Rattle.std.specs.Str.{chars, IsUtf8}
use Rattle.json5_grammar.specs.Language.Documents.{Doc, max_depth}
use Rattle.json5_grammar.specs.Language.Trees.{Tree}
use Rattle.json5_read.specs.TreeMeanings.{datum_of}
use Rattle.json5_types.specs.ValueMeanings.{Datum}
use Rattle.json5_schema.specs.Conformance.{with_formats}
use Rattle.json5_schema.specs.Subschemas.{HasOnlyKeywords}
use Rattle.json5_schema.specs.Views.{schema_of}
use Rattle.json5_schema.specs.declared.schemas.Schema.{Schema}
use Rattle.cli_files.specs.Stores.{Known}
use Rattle.cli_check.specs.declared.options.Options.{Options}
use Rattle.cli_check.specs.declared.trouble.SchemaTrouble.{SchemaTrouble}
use Rattle.cli_check.specs.declared.trouble.SchemaTrouble.TheVariants as trouble
use Rattle.cli_check.specs.declared.trouble.SchemaCause.TheVariants as cause
use Rattle.cli_check.specs.Drafts.{drafted}
use Rattle.cli_check.specs.Naming.{IsElsewhere, Leads, schema_key}

-- the bytes are a document that means this
abbrev pub Means : List ℕ → Datum → Type 0
Means bytes x = IsUtf8 bytes × ((t : Tree) × Doc max_depth (chars bytes) t × (x ≡ datum_of t))

-- they are no document
abbrev pub HoldsNone : List ℕ → Type 0
HoldsNone bytes = (x : Datum) → ¬ (Means bytes x)

-- with `--strict` the keywords of the schema are known
abbrev pub IsAllowed : Options → Datum → Type 0
IsAllowed o s = o.is_strict ≡ true → HasOnlyKeywords s

-- with `--format assert` the schema asserts formats
abbrev pub asserting : Options → Datum → Datum
asserting o x = if o.asserts_formats then with_formats x else x

-- the bytes are a document, and it means this schema, of the draft that words name where it names none itself
abbrev pub MeansSchema : Options → List ℕ → Datum → Type 0
MeansSchema o bytes s = (x : Datum) × Means bytes x × (s ≡ asserting o (drafted o.draft x))

-- what was read means this schema, which is allowed
abbrev pub HoldsSchema : Options → (held : Option (List ℕ)) → Datum → Type 0
HoldsSchema o held s = IfSome held (λ bytes. MeansSchema o bytes s) × IsAllowed o s

-- the file was opened, and what it held means this schema
abbrev pub FileMeans : Known → Options → (file : List ℕ) → Datum → Type 0
FileMeans known o file s = (held : Option (List ℕ)) × known.opens file (Some held) × HoldsSchema o held s

-- why what was read of a file isn't taken as a schema: memory ran out, or a read failed, or it is no document, or it is one that is no schema
abbrev pub IsFlawIn : (held : Option (List ℕ)) → SchemaTrouble → Type 0
IsFlawIn held trouble.NoMemory = ⊤
IsFlawIn held trouble.Read = ⊤
IsFlawIn held (trouble.Shown cause.NoDocument line) = IfSome held HoldsNone
IsFlawIn held (trouble.Shown cause.Faulty line) = IfSome held (λ bytes. (x : Datum) × Means bytes x)
IsFlawIn held (trouble.Shown c line) = ⊥

-- why no schema is taken of this file: memory ran out, or it can't be opened, or what was read of it isn't taken
abbrev pub IsFlawOf : Known → (file : List ℕ) → SchemaTrouble → Type 0
IsFlawOf known file trouble.NoMemory = ⊤
IsFlawOf known file (trouble.Shown cause.Unopened line) = known.opens file None
IsFlawOf known file t = (held : Option (List ℕ)) × known.opens file (Some held) × IsFlawIn held t

-- the schema is what was read means; or it isn't taken
abbrev pub TakesHeld : Options → (held : Option (List ℕ)) → Result Schema SchemaTrouble → Type 0
TakesHeld o held (Ok s) = HoldsSchema o held (schema_of s)
TakesHeld o held (Err t) = IsFlawIn held t

-- the schema is what the file means; or none is taken of it
abbrev pub TakesFile : Known → Options → (file : List ℕ) → Result Schema SchemaTrouble → Type 0
TakesFile known o file (Ok s) = FileMeans known o file (schema_of s)
TakesFile known o file (Err t) = IsFlawOf known file t

-- ---- the schema that a document names

-- the document with this name calls its schema so, and it is what the file means that this stands for
abbrev pub IsNamed : Known → Options → (name schema : List ℕ) → Datum → Type 0
IsNamed known o name schema s = (file : List ℕ) × Leads o.maps.items name schema file × FileMeans known o file s

-- why none is taken that is called so
abbrev pub IsNamedFlaw : Known → Options → (name schema : List ℕ) → SchemaTrouble → Type 0
IsNamedFlaw known o name schema trouble.NoMemory = ⊤
IsNamedFlaw known o name schema (trouble.Shown cause.Elsewhere line) = IsElsewhere o.maps.items schema
IsNamedFlaw known o name schema t = (file : List ℕ) × Leads o.maps.items name schema file × IsFlawOf known file t

-- the schema that is called so; or none is taken
abbrev pub TakesNamed : Known → Options → (name schema : List ℕ) → Result Schema SchemaTrouble → Type 0
TakesNamed known o name schema (Ok s) = IsNamed known o name schema (schema_of s)
TakesNamed known o name schema (Err t) = IsNamedFlaw known o name schema t

-- why none is taken for the document with this name and this value: it names none, or none is taken that is called so
abbrev pub IsOwnFlaw : Known → Options → (name : List ℕ) → Datum → SchemaTrouble → Type 0
IsOwnFlaw known o name x trouble.NoMemory = ⊤
IsOwnFlaw known o name x (trouble.Shown cause.Unnamed line) = schema_key x ≡ None
IsOwnFlaw known o name x t = (schema : List ℕ) × (schema_key x ≡ Some (chars schema)) × IsNamedFlaw known o name schema t

-- the schema that a document is held against: the one that is given, or else that in the file which the document names
abbrev pub SchemaFor : Known → (given : Option Datum) → (o : Options) (name : List ℕ) → Datum → Datum → Type 0
SchemaFor known (Some g) o name x s = s ≡ g
SchemaFor known None o name x s = (schema : List ℕ) × (schema_key x ≡ Some (chars schema)) × IsNamed known o name schema s

-- the schema that the document names; or none is taken for it
abbrev pub TakesOwn : Known → Options → (name : List ℕ) → Datum → Result Schema SchemaTrouble → Type 0
TakesOwn known o name x (Ok s) = SchemaFor known None o name x (schema_of s)
TakesOwn known o name x (Err t) = IsOwnFlaw known o name x t
