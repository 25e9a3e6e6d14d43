-- The schema that is taken, from the value to the file, and why none is.
use Rattle.std.proofs.Common.{◌≡◌, false, true≢false, ℕ, List, Option, Some, None, Result, Ok, Err, sym, ◌∙◌, subst}
use Rattle.std.specs.Prelude.{IfOk, IfSome}
use Rattle.std.specs.Str.{chars, IsUtf8}
use Rattle.json5_grammar.specs.Language.Documents.{Doc, max_depth}
use Rattle.json5_grammar.specs.Language.Trees.{Tree}
use Rattle.json5_read.specs.TreeMeanings.{datum_of}
use Rattle.json5_types.specs.ValueMeanings.{Datum}
use Rattle.json5_types.specs.declared.error.Error.{Error}
use Rattle.json5_tokens.specs.Cursor.{IsOutOfMemory}
use Rattle.json5_schema.specs.Subschemas.{HasOnlyKeywords}
use Rattle.json5_schema.specs.Views.{schema_of}
use Rattle.json5_schema.specs.declared.faults.SchemaFault.{SchemaFault}
use Rattle.json5_schema.specs.declared.schemas.Schema.{Schema}
use Rattle.cli_files.specs.Stores.{Known}
use Rattle.cli_check.specs.declared.options.Options.{Options}
use Rattle.cli_check.specs.declared.trouble.SchemaTrouble.{SchemaTrouble}
use Rattle.cli_check.specs.declared.trouble.SchemaTrouble.TheVariants as trouble
use Rattle.cli_check.specs.declared.trouble.SchemaCause.TheVariants as cause
use Rattle.cli_check.specs.Naming.{IsElsewhere, Leads, schema_key}
use Rattle.cli_check.specs.Schemas.{asserting, IsFlawIn, IsFlawOf, TakesFile, TakesHeld, TakesNamed, TakesOwn}
use Rattle.cli_check.specs.SchemaSteps.{IsOfCause, IsOfRefusal, IsOfValue, TakesValue}

-- ---- a value

pub strictly : (o : Options) (x y : Datum) (r : Result Schema SchemaFault) → y ≡ asserting o x → IfOk r (λ s. (schema_of s ≡ y) × HasOnlyKeywords (schema_of s)) → IfOk r (IsOfValue o x)
strictly o x y (Ok s) is k = (k.0 ∙ is, λ _. k.1)
strictly o x y (Err fault) is k = tt

pub loosely : (o : Options) (x y : Datum) (r : Result Schema SchemaFault) → y ≡ asserting o x → o.is_strict ≡ false → IfOk r (λ s. schema_of s ≡ y) → IfOk r (IsOfValue o x)
loosely o x y (Ok s) is off k = (k ∙ is, λ on. absurd (true≢false (sym on ∙ off)))
loosely o x y (Err fault) is off k = tt

-- ---- what a file holds

pub no_text : (bytes : List ℕ) (t : SchemaTrouble) → ¬ (IsUtf8 bytes) → IsOfCause cause.NoDocument t → IsFlawIn (Some bytes) t
no_text bytes trouble.NoMemory none k = tt
no_text bytes trouble.Read none k = tt
no_text bytes (trouble.Shown c line) none k = subst (λ d. IsFlawIn (Some bytes) (trouble.Shown d line)) (sym k) (λ x m. none m.0)

pub refused : (e : Error) (t : SchemaTrouble) → ¬ (IsOutOfMemory e) → IsOfCause cause.NoDocument t → IsOfRefusal e t
refused e trouble.NoMemory other k = tt
refused e trouble.Read other k = k
refused e (trouble.Shown c line) other k = (k, other)

pub no_document : (text : List ℕ) (e : Error) (t : SchemaTrouble) → ((u : Tree) → Doc max_depth (chars text) u → IsOutOfMemory e) → IsOfRefusal e t → IsFlawIn (Some text) t
no_document text e trouble.NoMemory complete k = tt
no_document text e trouble.Read complete k = tt
no_document text e (trouble.Shown c line) complete k =
    subst (λ d. IsFlawIn (Some text) (trouble.Shown d line)) (sym k.0) (λ x (utf8, (u, doc, is)). k.1 (complete u doc))

pub text_taken : (o : Options) (text : List ℕ) (x : Datum) (u : Tree) (r : Result Schema SchemaTrouble) → IsUtf8 text → Doc max_depth (chars text) u → x ≡ datum_of u
    → TakesValue o x r → TakesHeld o (Some text) r
text_taken o text x u (Ok s) utf8 doc is k = ((x, (utf8, (u, doc, is)), k.0), k.1)
text_taken o text x u (Err trouble.NoMemory) utf8 doc is k = tt
text_taken o text x u (Err trouble.Read) utf8 doc is k = tt
text_taken o text x u (Err (trouble.Shown c line)) utf8 doc is k =
    subst (λ d. IsFlawIn (Some text) (trouble.Shown d line)) (sym k) (x, (utf8, (u, doc, is)))

pub held_taken : (o : Options) (held : Option (List ℕ)) (bytes : List ℕ) (r : Result Schema SchemaTrouble) → IfSome held (λ known. bytes ≡ known) → TakesHeld o (Some bytes) r → TakesHeld o held r
held_taken o (Some known) bytes r all k = subst (λ l. TakesHeld o (Some l) r) all k
held_taken o None bytes (Ok s) all k = (tt, k.1)
held_taken o None bytes (Err trouble.NoMemory) all k = tt
held_taken o None bytes (Err trouble.Read) all k = tt
held_taken o None bytes (Err (trouble.Shown cause.NoDocument line)) all k = tt
held_taken o None bytes (Err (trouble.Shown cause.Faulty line)) all k = tt
held_taken o None bytes (Err (trouble.Shown cause.Unopened line)) all k = k
held_taken o None bytes (Err (trouble.Shown cause.Unnamed line)) all k = k
held_taken o None bytes (Err (trouble.Shown cause.Elsewhere line)) all k = k

-- ---- the file

pub file_taken : (known : Known) (o : Options) (file : List ℕ) (held : Option (List ℕ)) (r : Result Schema SchemaTrouble) → known.opens file (Some held) → TakesHeld o held r → TakesFile known o file r
file_taken known o file held (Ok s) is k = (held, is, k)
file_taken known o file held (Err trouble.NoMemory) is k = tt
file_taken known o file held (Err trouble.Read) is k = (held, is, k)
file_taken known o file held (Err (trouble.Shown cause.NoDocument line)) is k = (held, is, k)
file_taken known o file held (Err (trouble.Shown cause.Faulty line)) is k = (held, is, k)
file_taken known o file held (Err (trouble.Shown cause.Unopened line)) is k = absurd k
file_taken known o file held (Err (trouble.Shown cause.Unnamed line)) is k = (held, is, k)
file_taken known o file held (Err (trouble.Shown cause.Elsewhere line)) is k = (held, is, k)

pub unopened : (known : Known) (file : List ℕ) (t : SchemaTrouble) → known.opens file None → IsOfCause cause.Unopened t → IsFlawOf known file t
unopened known file trouble.NoMemory is k = tt
unopened known file trouble.Read is k = absurd k
unopened known file (trouble.Shown c line) is k = subst (λ d. IsFlawOf known file (trouble.Shown d line)) (sym k) is

-- ---- the schema that a document names

pub named_taken : (known : Known) (o : Options) (name schema file : List ℕ) (r : Result Schema SchemaTrouble) → Leads o.maps.items name schema file
    → TakesFile known o file r → TakesNamed known o name schema r
named_taken known o name schema file (Ok s) leads k = (file, leads, k)
named_taken known o name schema file (Err trouble.NoMemory) leads k = tt
named_taken known o name schema file (Err trouble.Read) leads k = (file, leads, k)
named_taken known o name schema file (Err (trouble.Shown cause.Unopened line)) leads k = (file, leads, k)
named_taken known o name schema file (Err (trouble.Shown cause.NoDocument line)) leads k = (file, leads, k)
named_taken known o name schema file (Err (trouble.Shown cause.Faulty line)) leads k = (file, leads, k)
named_taken known o name schema file (Err (trouble.Shown cause.Unnamed line)) leads k = (file, leads, k)
named_taken known o name schema file (Err (trouble.Shown cause.Elsewhere line)) leads (held, is, k) = absurd k

pub elsewhere : (known : Known) (o : Options) (name schema : List ℕ) (t : SchemaTrouble) → IsElsewhere o.maps.items schema → IsOfCause cause.Elsewhere t
    → TakesNamed known o name schema (Err t)
elsewhere known o name schema trouble.NoMemory is k = tt
elsewhere known o name schema trouble.Read is k = absurd k
elsewhere known o name schema (trouble.Shown c line) is k = subst (λ d. TakesNamed known o name schema (Err (trouble.Shown d line))) (sym k) is

pub own_taken : (known : Known) (o : Options) (name schema : List ℕ) (x : Datum) (r : Result Schema SchemaTrouble) → schema_key x ≡ Some (chars schema)
    → TakesNamed known o name schema r → TakesOwn known o name x r
own_taken known o name schema x (Ok s) key k = (schema, key, k)
own_taken known o name schema x (Err trouble.NoMemory) key k = tt
own_taken known o name schema x (Err trouble.Read) key k = (schema, key, k)
own_taken known o name schema x (Err (trouble.Shown cause.Unopened line)) key k = (schema, key, k)
own_taken known o name schema x (Err (trouble.Shown cause.NoDocument line)) key k = (schema, key, k)
own_taken known o name schema x (Err (trouble.Shown cause.Faulty line)) key k = (schema, key, k)
own_taken known o name schema x (Err (trouble.Shown cause.Elsewhere line)) key k = (schema, key, k)
own_taken known o name schema x (Err (trouble.Shown cause.Unnamed line)) key (file, leads, (held, is, k)) = absurd k

pub unnamed : (known : Known) (o : Options) (name : List ℕ) (x : Datum) (t : SchemaTrouble) → schema_key x ≡ None → IsOfCause cause.Unnamed t
    → TakesOwn known o name x (Err t)
unnamed known o name x trouble.NoMemory is k = tt
unnamed known o name x trouble.Read is k = absurd k
unnamed known o name x (trouble.Shown c line) is k = subst (λ d. TakesOwn known o name x (Err (trouble.Shown d line))) (sym k) is
