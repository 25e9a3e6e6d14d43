-- What `serde` reads of the types.
-- A promise rests on this.
use Rattle.std.specs.Prelude.{◌≡◌, ℕ, ℤ, List, Option, Some}
use Rattle.serde.specs.Event.{Event, signed, text}
use Rattle.serde.specs.Steps.{Gives}
use Rattle.serde.specs.declared.deserializer.Deserializer.{Deserializer}
use Rattle.json5_settings_types.specs.Bounds.{if_within}

-- the format gave this between two states
abbrev pub given : {F E M : Type 0} → (F → List ℕ → Event → F → Type 0) → (old new : Deserializer F E M) → Event → Type 0
given gives old new event = Gives gives old event new

-- it gave a text, which means this
abbrev pub MeansText : {C : Type 0} → (Event → Type 0) → (List ℕ → Option C) → C → Type 0
MeansText gave means c = (bytes : List ℕ) × gave (text bytes) × (means bytes ≡ Some c)

-- it gave this number, which is within the bounds
abbrev pub IsNumberWithin : (Event → Type 0) → (low high z : ℤ) → Type 0
IsNumberWithin gave low high z = gave (signed z) × (if_within low high z ≡ Some z)
