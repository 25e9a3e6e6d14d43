-- How many elements and members the view of a list has.
use Rattle.std.proofs.Common.{◌≡◌, suc, List, [], ◌∷◌, length, refl, ap, String}
use Rattle.std.specs.declared.alloc.Global.{Global}
use Rattle.json5_types.specs.declared.value.Value.{Value}
use Rattle.json5_types.specs.ValueMeanings.{items_view, fields_view}
use Rattle.json5_types.specs.ValueKinds.{items_len, fields_len}

pub items_counted : (vs : List Value) → items_len (items_view vs) ≡ length vs
items_counted [] = refl
items_counted (v ∷ vs) = ap suc (items_counted vs)

pub fields_counted : (fs : List (String Global × Value)) → fields_len (fields_view fs) ≡ length fs
fields_counted [] = refl
fields_counted (f ∷ fs) = ap suc (fields_counted fs)
