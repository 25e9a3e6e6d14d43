-- What a call returns that writes a whole value in a layout.
-- A promise rests on this.
use Rattle.std.specs.Prelude.{◌≡◌, ◌⊎◌, ℕ, Bool, true, false, if◌then◌else◌, List, Option, None, Result, Ok, Err, ⊤, String, string_bytes}
use Rattle.std.specs.Io.KnownBytes.{Appends, Keeps}
use Rattle.std.specs.Str.{all_scalars, chars, encode_utf8_all}
use Rattle.std.specs.declared.alloc.Global.{Global}
use Rattle.json5_grammar.specs.Language.Documents.{max_depth}
use Rattle.json5_grammar.specs.declared.error_code.ErrorCode.TheVariants as codes
use Rattle.json5_types.specs.declared.error.Error.{Error}
use Rattle.json5_types.specs.Errors.{code, failed_write, SaysAt, IsCustomAt, LacksMemory}
use Rattle.json5_types.specs.ValueLookups.{fits}
use Rattle.json5_types.specs.ValueMeanings.{Datum}
use Rattle.json5_write.specs.Out.{piece}
use Rattle.json5_write.specs.Pieces.{AppendsFront}
use Rattle.json5_write.specs.WholeOutputs.{IsText}
use Rattle.json5_styles.specs.Json.{JsonText}
use Rattle.json5_styles.specs.JsonTexts.{is_json}
use Rattle.json5_styles.specs.LaidBack.{ReadsAs}

-- these bytes are the text of a value that fits; another is TooDeep, and one that fits is refused only for want of memory
abbrev pub LaysOutAs : {A : Type 0} → (A → List ℕ) → List ℕ → Datum → Result A Error → Type 0
LaysOutAs bytes t x (Ok s) = (fits x ≡ true) × IsText (piece t) (bytes s)
LaysOutAs bytes t x (Err e) = SaysAt (code (if fits x then codes.OutOfMemory else codes.TooDeep)) None e

abbrev pub LaysOut : List ℕ → Datum → Result (String Global) Error → Type 0
LaysOut = LaysOutAs string_bytes

-- a value with a number that JSON hasn't is refused by a custom fault, unless there is no memory for that
abbrev pub RefusesJson : Bool → Error → Type 0
RefusesJson true e = LacksMemory e
RefusesJson false e = IsCustomAt None e ⊎ LacksMemory e

abbrev pub RefusesText : Bool → Bool → Error → Type 0
RefusesText true json e = RefusesJson json e
RefusesText false json e = SaysAt (code codes.TooDeep) None e

-- the text is in JSON's grammar, and reads back as the value
pub record IsJsonOf (text : List ℕ) (x : Datum) : Type 0 where
  pub is_json : JsonText text
  pub reads_back : ReadsAs max_depth text x

abbrev pub WritesJson : List ℕ → Datum → Result (String Global) Error → Type 0
WritesJson t x (Ok s) = (fits x ≡ true) × (is_json x ≡ true) × IsText (piece t) (string_bytes s) × IsJsonOf (chars (string_bytes s)) x
WritesJson t x (Err e) = RefusesText (fits x) (is_json x) e

-- ---- writers, of which these bytes are known before and after

-- this text was written
abbrev pub WroteText : List ℕ → Option (List ℕ) → Option (List ℕ) → Type 0
WroteText t old new = (all_scalars t ≡ true) × Appends old new (encode_utf8_all t)

-- the writer failed, or took no bytes, and has a prefix of the text
abbrev pub BreaksText : List ℕ → Option (List ℕ) → Error → Option (List ℕ) → Type 0
BreaksText t old e new = SaysAt failed_write None e × AppendsFront old new (encode_utf8_all t)

-- a value that doesn't fit is TooDeep, and nothing of it was written
abbrev pub StopsText : Bool → List ℕ → Option (List ℕ) → Error → Option (List ℕ) → Type 0
StopsText true t old e new = BreaksText t old e new
StopsText false t old e new = SaysAt (code codes.TooDeep) None e × Keeps old new

abbrev pub WritesText : List ℕ → Datum → Option (List ℕ) → Result ⊤ Error → Option (List ℕ) → Type 0
WritesText t x old (Ok y) new = (fits x ≡ true) × WroteText t old new
WritesText t x old (Err e) new = StopsText (fits x) t old e new

-- nothing was written of a value that JSON hasn't
abbrev pub StopsJson : Bool → Bool → List ℕ → Option (List ℕ) → Error → Option (List ℕ) → Type 0
StopsJson true true t old e new = BreaksText t old e new
StopsJson deep json t old e new = RefusesText deep json e × Keeps old new

abbrev pub WritesJsonText : List ℕ → Datum → Option (List ℕ) → Result ⊤ Error → Option (List ℕ) → Type 0
WritesJsonText t x old (Ok y) new = (fits x ≡ true) × (is_json x ≡ true) × WroteText t old new
WritesJsonText t x old (Err e) new = StopsJson (fits x) (is_json x) t old e new
