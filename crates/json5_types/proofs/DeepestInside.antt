-- How deep a list of values is nested.
use Rattle.std.proofs.Common.{◌≡◌, ℕ, max, nat_le, ◌&&◌, List, ◌∷◌, arith, String}
use Rattle.std.specs.declared.alloc.Global.{Global}
use Rattle.json5_types.specs.declared.value.Value.{Value}
use Rattle.json5_types.specs.ValueMeanings.{value_of, items_view, fields_view}
use Rattle.json5_types.specs.ValueLookups.{datum_depth, items_depth, fields_depth}

-- the deeper of two is within, where both are
pub max_within : (a b n : ℕ) → nat_le (max a b) n ≡ (nat_le a n && nat_le b n)
max_within a b n = grind arith

pub items_within : (v : Value) (vs : List Value) (n : ℕ) → nat_le (items_depth (items_view (v ∷ vs))) n ≡ (nat_le (datum_depth (value_of v)) n && nat_le (items_depth (items_view vs)) n)
items_within v vs n = max_within (datum_depth (value_of v)) (items_depth (items_view vs)) n

pub fields_within : (f : String Global × Value) (fs : List (String Global × Value)) (n : ℕ) → nat_le (fields_depth (fields_view (f ∷ fs))) n ≡ (nat_le (datum_depth (value_of f.1)) n && nat_le (fields_depth (fields_view fs)) n)
fields_within f fs n = max_within (datum_depth (value_of f.1)) (fields_depth (fields_view fs)) n

pub ruleset nested = (items_within, fields_within)
