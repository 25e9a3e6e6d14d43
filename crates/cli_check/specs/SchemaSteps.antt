-- How a schema is taken, step by step.
-- Private.
use Rattle.std.specs.Prelude.{◌≡◌, ⊤, Result, Ok, Err}
use Rattle.json5_types.specs.ValueMeanings.{Datum}
use Rattle.json5_types.specs.declared.error.Error.{Error}
use Rattle.json5_tokens.specs.Cursor.{IsOutOfMemory}
use Rattle.json5_schema.specs.Views.{schema_of}
use Rattle.json5_schema.specs.declared.schemas.Schema.{Schema}
use Rattle.cli_check.specs.declared.options.Options.{Options}
use Rattle.cli_check.specs.declared.trouble.SchemaTrouble.{SchemaTrouble}
use Rattle.cli_check.specs.declared.trouble.SchemaTrouble.TheVariants as trouble
use Rattle.cli_check.specs.declared.trouble.SchemaCause.{SchemaCause}
use Rattle.cli_check.specs.declared.trouble.SchemaCause.TheVariants as cause
use Rattle.cli_check.specs.Drafts.{drafted}
use Rattle.cli_check.specs.Schemas.{IsAllowed, asserting}

-- this is the cause, or memory ran out
abbrev pub IsOfCause : SchemaCause → SchemaTrouble → Type 0
IsOfCause c trouble.NoMemory = ⊤
IsOfCause c trouble.Read = ⊥
IsOfCause c (trouble.Shown d line) = d ≡ c

-- a text that is refused so is no document, unless memory ran out
abbrev pub IsOfRefusal : Error → SchemaTrouble → Type 0
IsOfRefusal e trouble.NoMemory = ⊤
IsOfRefusal e trouble.Read = ⊥
IsOfRefusal e (trouble.Shown d line) = (d ≡ cause.NoDocument) × ¬ (IsOutOfMemory e)

-- the schema is this value, asserting formats if it is asked to, and allowed
abbrev pub IsOfValue : Options → Datum → Schema → Type 0
IsOfValue o x s = (schema_of s ≡ asserting o x) × IsAllowed o (schema_of s)

-- the schema is; or a document with this value is none
abbrev pub TakesDrafted : Options → Datum → Result Schema SchemaTrouble → Type 0
TakesDrafted o x (Ok s) = IsOfValue o x s
TakesDrafted o x (Err t) = IsOfCause cause.Faulty t

-- the same of a value that gets the draft that words name
abbrev pub TakesValue : Options → Datum → Result Schema SchemaTrouble → Type 0
TakesValue o x = TakesDrafted o (drafted o.draft x)
