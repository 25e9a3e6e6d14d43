-- The bytes of a writer that a reference leads to.
-- A promise rests on this.
use Rattle.std.specs.Prelude.{ℕ, List, ◌∷◌, Option}
use Rattle.std.specs.Option.{option_map}
use Rattle.std.specs.Borrow.{GName}

-- the bytes, and in front of them the name of the reference that leads to their writer
abbrev pub named : GName → Option (List ℕ) → Option (List ℕ)
named name known = option_map (λ bytes. name ∷ bytes) known
