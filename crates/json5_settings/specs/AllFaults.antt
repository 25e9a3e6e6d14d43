-- All faults of a text: each comes to light where the entries at those before it are blank.
-- A promise rests on this.
use Rattle.std.specs.Prelude.{◌≡◌, ◌≢◌, ◌≤◌, ◌<◌, ◌⊎◌, ◌++◌, ◌∷◌, [], ℕ, Bool, true, if◌then◌else◌, List, map, take, drop, slice_range, All, Some, Result, Ok, Err, string_bytes}
use Rattle.std.specs.Str.{chars, encode_utf8_all}
use Rattle.json5_grammar.specs.Language.Characters.{is_terminator}
use Rattle.json5_grammar.specs.declared.position.Position.{Position}
use Rattle.json5_tokens.specs.Places.{IsOffsetIn}
use Rattle.json5_types.specs.declared.error.Error.{Error}
use Rattle.json5_types.specs.Errors.{error_position}
use Rattle.json5_types.specs.ValueMeanings.{Datum}
use Rattle.json5_edit.specs.Changes.{IsRemoved}
use Rattle.json5_edit.specs.declared.paths.Step.{Step}
use Rattle.json5_settings.specs.Stacks.{Means}
use Rattle.json5_settings.specs.declared.remains.Remains.{Remains}

-- ---- a text in which an entry is blank

-- a space for a character; a line end stays
abbrev pub blank : ℕ → ℕ
blank c = if is_terminator c then c else 0x20

-- the text in which the characters between these bytes are blank, so that each other stands at its line and column
abbrev pub IsBlanked : (text : List ℕ) → (from till : ℕ) → (made : List ℕ) → Type 0
IsBlanked text from till made = made ≡ take from text ++ (encode_utf8_all (map blank (chars (slice_range text from till))) ++ drop till text)

-- the fault's place is between these bytes
abbrev pub StandsWithin : Error → (text : List ℕ) → (from till : ℕ) → Type 0
StandsWithin e text from till = (place : Position) × (offset : ℕ) × (error_position e ≡ Some place) × IsOffsetIn text place offset × (from ≤ offset) × (offset < till)

-- both are documents, and mean this
abbrev pub MeanTheSame : (text other : List ℕ) → Type 0
MeanTheSame text other = (x : Datum) × Means text x × Means other x

-- a part with the fault's place is blank, and what is left means the same as the text without some entry
pub record TakesOut (e : Error) (text made : List ℕ) : Type 0 where
  pub from : ℕ
  pub till : ℕ
  pub within : StandsWithin e text from till
  pub blanked : IsBlanked text from till made
  pub path : List Step
  pub left : List ℕ
  pub removed : IsRemoved text path left
  pub same : MeanTheSame (chars left) (chars made)

-- ---- all faults; R says what reading gives for a text

module _ {T : Type 0} (R : List ℕ → Result T Error → Type 0) where
  -- the entries at some faults are taken out of the text, one after another
  pub data TakenOut (text : List ℕ) : List ℕ → Type 0 where
    whole : TakenOut text text
    less : (before made : List ℕ) (e : Error) → TakenOut text before → R before (Err e) → TakesOut e before made → TakenOut text made

  -- reading refuses so what is left of the text without the entries at some other faults
  abbrev pub IsFault : List ℕ → Error → Type 0
  IsFault text e = (left : List ℕ) × TakenOut text left × R left (Err e)

  -- There is none exactly where the text is read, the first is that of reading the text, and each is a fault of it.
  abbrev pub AreFaults : List ℕ → List Error → Type 0
  AreFaults text [] = (t : T) × R text (Ok t)
  AreFaults text (e ∷ es) = R text (Err e) × All (IsFault text) es

-- ---- private clauses cite these

-- the fault was told behind the others; or it was not, and is not the first
abbrev pub TellsIfNew : Error → (told now : List Error) → Type 0
TellsIfNew e told now = (now ≡ told ++ e ∷ []) ⊎ ((now ≡ told) × (told ≢ []))

-- so the fault was told; where there is more to read, its entry was taken out
abbrev pub Passes : Error → (goes_on : Bool) → (old new : Remains) → Type 0
Passes e goes_on old new = TellsIfNew e old.told.items new.told.items × (goes_on ≡ true → TakesOut e (string_bytes old.text) (string_bytes new.text))
