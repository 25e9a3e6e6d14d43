-- What is read by the spelling of a type.
-- A promise rests on this.
use Rattle.std.specs.Prelude.{ℕ, List, Result, Ok}
use Rattle.serde.specs.Event.{Event, text}
use Rattle.serde.specs.Steps.{Gives}
use Rattle.serde.specs.declared.deserializer.Deserializer.{Deserializer}

-- a text was read, and the type's parser, which answers as `parses` says, gave this for it
abbrev pub ReadsSpelled : {F E M T X : Type 0} → (F → List ℕ → Event → F → Type 0) → (List ℕ → Result T X → Type 0) → Deserializer F E M → T → Deserializer F E M → Type 0
ReadsSpelled gives parses old x new = (spelling : List ℕ) × Gives gives old (text spelling) new × parses spelling (Ok x)
