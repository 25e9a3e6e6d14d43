-- Where a name leads, as a relation.
-- A promise rests on this.
use Rattle.std.specs.Prelude.{◌≡◌, ℕ, true, List}
use Rattle.json5_types.specs.ValueMeanings.{Datum, object}
use Rattle.json5_schema.specs.Subschemas.{Subschema}
use Rattle.json5_schema.specs.Conformance.{has_anchor}

-- by the bytes of the name
abbrev pub IsNamed : List ℕ → Datum → Type 0
IsNamed name (object fs) = has_anchor name fs ≡ true
IsNamed name _ = ⊥

-- a schema with this name stands in the whole
abbrev pub StandsNamed : Datum → List ℕ → Datum → Type 0
StandsNamed root name s = Subschema root s × IsNamed name s
