-- What a literal adds to an object.
-- A promise rests on this.
use Rattle.std.specs.Prelude.{ℕ, List}
use Rattle.json5_types.specs.ValueMeanings.{Datum, Fields, no_field, field}

-- the members, and this one after them
abbrev pub fields_then : Fields → List ℕ → Datum → Fields
fields_then no_field u y = field u y no_field
fields_then (field v x fs) u y = field v x (fields_then fs u y)
