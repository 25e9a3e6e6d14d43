-- What the program says of the files that it is given.
-- A promise rests on this.
use Rattle.std.specs.declared.alloc.Global.{Global}
use Rattle.std.specs.Borrow.{Bor}
use Rattle.std.specs.Prelude.{◌≡◌, ◌≢◌, ⊤, ℕ, Bool, true, false, List, [], ◌∷◌, ◌++◌, max, Option, None, Some, IfSome, option_map, Result, Ok, Err, String, string_bytes}
use lib.Chars.{codes}
use Rattle.json5_types.specs.ValueMeanings.{Datum}
use Rattle.json5_schema.specs.Conformance.{Conforms}
use Rattle.json5_schema.specs.Views.{IsRefusal, schema_of}
use Rattle.json5_schema.specs.declared.schemas.Schema.{Schema}
use Rattle.cli_files.specs.Stores.{Known}
use Rattle.cli_files.specs.declared.reason.Reason.{Reason}
use Rattle.cli_check.specs.declared.options.Options.{Options}
use Rattle.cli_check.specs.declared.verdict.Verdict.{Verdict}
use Rattle.cli_check.specs.declared.verdict.Verdict.TheVariants as verdict
use Rattle.cli_check.specs.declared.trouble.Trouble.{Trouble}
use Rattle.cli_check.specs.declared.trouble.Trouble.TheVariants as trouble
use Rattle.cli_check.specs.Schemas.{IsOwnFlaw, Means, SchemaFor}
use Rattle.cli_check.specs.Troubles.{IsUnshownTrouble}

module _ (For : Datum → Datum → Type 0) where
  -- the bytes are a document that conforms to its schema
  abbrev pub HoldsConforming : List ℕ → Type 0
  HoldsConforming bytes = (x s : Datum) × Means bytes x × For x s × Conforms s x true

  -- they are none that does: where they are a document, it has a schema to which it doesn't conform
  abbrev pub HoldsNoConforming : List ℕ → Type 0
  HoldsNoConforming bytes = (x : Datum) → Means bytes x → (s : Datum) × For x s × Conforms s x false

  abbrev pub Judges : Verdict → List ℕ → Type 0
  Judges verdict.Conforms bytes = HoldsConforming bytes
  Judges verdict.Differs bytes = HoldsNoConforming bytes

-- ---- one file

abbrev pub given_schema : Option (Bor Schema) → Option Datum
given_schema given = option_map (λ s. schema_of s.now) given

abbrev pub conforms : Verdict → Bool
conforms verdict.Conforms = true
conforms verdict.Differs = false

-- the verdict on a value by this schema; or more schemas are applied within one another than can be, or the faults can't be shown
abbrev pub JudgesBy : (schema : Datum) → Datum → Result Verdict Trouble → Type 0
JudgesBy s x (Ok v) = Conforms s x (conforms v)
JudgesBy s x (Err (trouble.Undecided e)) = IsRefusal e
JudgesBy s x (Err t) = IsUnshownTrouble t

module _ (known : Known) (given : Option Datum) (o : Options) (name : List ℕ) where
  -- the value has a schema
  abbrev pub HasSchema : Datum → Type 0
  HasSchema x = (s : Datum) × SchemaFor known given o name x s

  -- why there is no verdict on a value: memory ran out, or a write failed; its schema can't be applied; or none is taken, where none is given
  abbrev pub IsHindrance : Datum → Trouble → Type 0
  IsHindrance x (trouble.Undecided e) = HasSchema x × IsRefusal e
  IsHindrance x (trouble.Schema t) = (given ≡ None) × IsOwnFlaw known o name x t
  IsHindrance x t = IsUnshownTrouble t

  -- the verdict on the value of a document
  abbrev pub JudgesValue : Datum → Result Verdict Trouble → Type 0
  JudgesValue x (Ok v) = (s : Datum) × SchemaFor known given o name x s × Conforms s x (conforms v)
  JudgesValue x (Err t) = IsHindrance x t

  -- why there is none on a text: memory ran out, or a write failed; or there is none on its value
  abbrev pub IsTextHindrance : (text : List ℕ) → Trouble → Type 0
  IsTextHindrance text trouble.NoMemory = ⊤
  IsTextHindrance text trouble.Write = ⊤
  IsTextHindrance text t = (x : Datum) × Means text x × IsHindrance x t

  -- the verdict on a text
  abbrev pub JudgesText : (text : List ℕ) → Result Verdict Trouble → Type 0
  JudgesText text (Ok v) = Judges (SchemaFor known given o name) v text
  JudgesText text (Err t) = IsTextHindrance text t

  -- the verdict on what a reader holds; or a read failed
  abbrev pub JudgesInput : Option (List ℕ) → Result Verdict Trouble → Type 0
  JudgesInput input (Ok v) = IfSome input (Judges (SchemaFor known given o name) v)
  JudgesInput input (Err trouble.Read) = ⊤
  JudgesInput input (Err (trouble.Unopened why)) = ⊥
  JudgesInput input (Err t) = IfSome input (λ text. IsTextHindrance text t)

-- what was held against the schema: the file with this name, or what standard input had left, which has this left then
pub data Holds (known : Known) (name : List ℕ) (input : Option (List ℕ)) : (left held : Option (List ℕ)) → Type 0 where
  file : {held : Option (List ℕ)} → name ≢ codes "-" → known.opens name (Some held) → Holds known name input input held
  stream : {left : Option (List ℕ)} → name ≡ codes "-" → Holds known name input left input

-- this is what is said of what was held against the schema; or the file can't be opened
pub data JudgesFile (known : Known) (given : Option Datum) (o : Options) (input : Option (List ℕ)) (name : List ℕ) (left : Option (List ℕ)) : Result Verdict Trouble → Type 0 where
  judged : {held : Option (List ℕ)} (r : Result Verdict Trouble) → Holds known name input left held → JudgesInput known given o name held r → JudgesFile known given o input name left r
  unopened : (why : Reason) → name ≢ codes "-" → known.opens name None → left ≡ input → JudgesFile known given o input name left (Err (trouble.Unopened why))

abbrev pub status_of : Result Verdict Trouble → ℕ
status_of (Ok verdict.Conforms) = 0
status_of (Ok verdict.Differs) = 1
status_of (Err t) = 2

-- ---- one file after another

-- what standard input had left after these files, and the greatest status that was met; no write failed
pub data ChecksFiles (known : Known) (given : Option Datum) (o : Options) (input : Option (List ℕ)) : List (String Global) → Option (List ℕ) → ℕ → Type 0 where
  none : ChecksFiles known given o input [] input 0
  next : {files : List (String Global)} {left more : Option (List ℕ)} {status : ℕ} (name : String Global) (r : Result Verdict Trouble) → ChecksFiles known given o input files left status
      → JudgesFile known given o left (string_bytes name) more r → r ≢ Err trouble.Write → ChecksFiles known given o input (files ++ name ∷ []) more (max status (status_of r))

-- all of these files were checked; or those up to one where a write failed, which ends the work
pub data ChecksThrough (known : Known) (given : Option Datum) (o : Options) (input : Option (List ℕ)) (files : List (String Global)) : Option (List ℕ) → ℕ → (goes_on : Bool) → Type 0 where
  through : {left : Option (List ℕ)} {status : ℕ} → ChecksFiles known given o input files left status → ChecksThrough known given o input files left status true
  stopped : {checked : List (String Global)} {left more : Option (List ℕ)} {status : ℕ} (name : String Global) (rest : List (String Global)) → files ≡ checked ++ name ∷ rest
      → ChecksFiles known given o input checked left status → JudgesFile known given o left (string_bytes name) more (Err trouble.Write) → ChecksThrough known given o input files more (max status 2) false
