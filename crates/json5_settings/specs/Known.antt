-- Texts that are read without their unknown fields.
-- A promise rests on this.
use Rattle.std.specs.Prelude.{◌≡◌, ◌⊎◌, codes, true, List, [], ℕ, Bool, nat_eq, All, Result, Ok, Err}
use Rattle.std.specs.List.{starts_with}
use Rattle.json5_types.specs.declared.error.Error.{Error}
use Rattle.json5_types.specs.Errors.{LacksMemory, SaysAt, error_position, kind_of, kind_text}
use Rattle.json5_settings.specs.AllFaults.{IsFault, TakenOut}

-- by its message
abbrev pub is_unknown_field : Error → Bool
is_unknown_field e = starts_with nat_eq (kind_text (kind_of e)) (codes "unknown field `")

-- R says what reading gives for a text
module _ {T : Type 0} (R : List ℕ → Result T Error → Type 0) where
  -- reading refuses the text at an unknown field
  abbrev pub RefusesField : List ℕ → Result T Error → Type 0
  RefusesField text (Ok t) = ⊥
  RefusesField text (Err e) = R text (Err e) × (is_unknown_field e ≡ true)

  -- what is left without some unknown fields is read; each warning is of one, and none comes only where nothing went
  pub record ReadsKnown (text : List ℕ) (value : T) (warnings : List Error) : Type 0 where
    pub left : List ℕ
    pub without : TakenOut RefusesField text left
    pub reads : R left (Ok value)
    pub unknown : All (IsFault RefusesField text) warnings
    pub whole : warnings ≡ [] → left ≡ text

  -- memory ran out, or reading says so of what is left without some unknown fields
  abbrev pub RefusesKnown : List ℕ → Error → Type 0
  RefusesKnown text e = LacksMemory e ⊎ ((left : List ℕ) × (f : Error) × TakenOut RefusesField text left × R left (Err f) × SaysAt (kind_of f) (error_position f) e)
