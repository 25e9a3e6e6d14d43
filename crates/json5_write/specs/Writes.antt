-- What contracts see of a serializer, and what a call does to it.
-- A promise rests on this.
use Rattle.std.specs.Prelude.{◌≡◌, ℕ, ◌-◌, List, ◌++◌, Bool, true, false, Option, None, Result, Ok, Err}
use Rattle.std.specs.Str.{encode_utf8_all, all_scalars}
use Rattle.std.specs.Io.KnownBytes.{Appends, Keeps}
use Rattle.json5_grammar.specs.declared.error_code.ErrorCode.TheVariants as codes
use Rattle.json5_types.specs.declared.error.Error.{Error}
use Rattle.json5_types.specs.Errors.{FaultKind, code, custom, failed_write, kind_of, error_position}
use Rattle.json5_grammar.specs.Language.Documents.{max_depth}
use Rattle.json5_write.specs.WrittenTrees.{Written}
use Rattle.json5_write.specs.Out.{Out, Stop, whole, invalid_key, too_deep, out}

-- the bytes that the writer holds, if they are known; how many brackets are open; how many may be; whether a call was refused
pub record SerializerState : Type 0 where
  pub known : Option (List ℕ)
  pub depth : ℕ
  pub limit : ℕ
  pub failed : Bool

-- the whole output was written, in UTF-8
pub record Wrote (o : Out) (old new : SerializerState) : Type 0 where
  pub was : old.failed ≡ false
  pub stop : o.stop ≡ whole
  pub chars : all_scalars o.text ≡ true
  pub bytes : Appends old.known new.known (encode_utf8_all o.text)
  pub depth : new.depth ≡ old.depth
  pub limit : new.limit ≡ old.limit
  pub failed : new.failed ≡ false

-- the output stops here, and was written up to there
pub record Stopped (s : Stop) (o : Out) (old new : SerializerState) : Type 0 where
  pub was : old.failed ≡ false
  pub stop : o.stop ≡ s
  pub bytes : Appends old.known new.known (encode_utf8_all o.text)
  pub failed : new.failed ≡ true

-- the writer failed, and got a prefix of the output
pub record Broke (o : Out) (old new : SerializerState) : Type 0 where
  pub was : old.failed ≡ false
  pub front : List ℕ
  pub rest : List ℕ
  pub cut : encode_utf8_all o.text ≡ front ++ rest
  pub bytes : Appends old.known new.known front
  pub failed : new.failed ≡ true

-- an earlier call was refused, and nothing is written
pub record Idled (old new : SerializerState) : Type 0 where
  pub was : old.failed ≡ true
  pub bytes : Keeps old.known new.known
  pub failed : new.failed ≡ true

-- the refusals of writing
pub data Refusal : Type 0 where
  by_key : Refusal
  by_depth : Refusal
  by_writer : Refusal
  by_refusal : Refusal
  by_none : Refusal

-- a refusal of this kind leaves the serializer so; no other kind is a refusal of writing
abbrev pub refusal_of : FaultKind → Refusal
refusal_of (code codes.InvalidKey) = by_key
refusal_of (code codes.TooDeep) = by_depth
refusal_of (code codes.Failed) = by_refusal
refusal_of (code _) = by_none
refusal_of failed_write = by_writer
refusal_of (custom _) = by_none

abbrev pub RefusesBy : Out → SerializerState → Refusal → SerializerState → Type 0
RefusesBy o old by_key new = Stopped invalid_key o old new
RefusesBy o old by_depth new = Stopped too_deep o old new
RefusesBy o old by_writer new = Broke o old new
RefusesBy o old by_refusal new = Idled old new
RefusesBy o old by_none new = ⊥

-- a refusal has no position
pub record RefusesWrite (o : Out) (old : SerializerState) (e : Error) (new : SerializerState) : Type 0 where
  pub leaves : RefusesBy o old (refusal_of (kind_of e)) new
  pub no_place : error_position e ≡ None

-- what a call did that has this output to write
abbrev pub Writes : {A : Type 0} → Out → SerializerState → Result A Error → SerializerState → Type 0
Writes o old (Ok x) new = Wrote o old new
Writes o old (Err e) new = RefusesWrite o old e new

-- what a call did that writes this tree within the brackets that are open, and within the limit of the serializer
abbrev pub WritesTree : {A : Type 0} → Written → SerializerState → Result A Error → SerializerState → Type 0
WritesTree t old result new = Writes (out old.limit t old.depth) old result new

-- nothing is written yet, within a limit and at the full one
abbrev pub fresh_within : ℕ → Option (List ℕ) → SerializerState
fresh_within limit known = record { known = known; depth = 0; limit = limit; failed = false }

abbrev pub fresh : Option (List ℕ) → SerializerState
fresh = fresh_within max_depth

-- a whole output was written, or refused
abbrev pub ended_within : {A : Type 0} → ℕ → Option (List ℕ) → Result A Error → SerializerState
ended_within limit known (Ok x) = record { known = known; depth = 0; limit = limit; failed = false }
ended_within limit known (Err e) = record { known = known; depth = 0; limit = limit; failed = true }

abbrev pub ended : {A : Type 0} → Option (List ℕ) → Result A Error → SerializerState
ended = ended_within max_depth

-- the same with so many brackets open
abbrev pub at_depth : ℕ → SerializerState → SerializerState
at_depth d s = record s { depth = d }

-- the same with one bracket less open
abbrev pub after_closing : SerializerState → SerializerState
after_closing s = at_depth (s.depth - 1) s

-- writing the rest completes the whole
pub record Reaches (all : Out) (o m : SerializerState) (rest : Out) : Type 0 where
  pub wrote : (n : SerializerState) → Wrote rest m n → Wrote all o n
  pub refuses : (n : SerializerState) (r : Refusal) → RefusesBy rest m r n → RefusesBy all o r n
