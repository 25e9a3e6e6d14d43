-- Copies of lists of values, one after another.
use Rattle.std.proofs.Common.{◌≡◌, ◌∙◌, ℕ, List, [], ◌∷◌, ◌++◌, refl, sym, ap, String, string_bytes}
use Rattle.std.specs.declared.alloc.Global.{Global}
use Rattle.std.specs.Str.{chars}
use Rattle.json5_types.specs.declared.value.Value.{Value}
use Rattle.json5_types.specs.ValueMeanings.{Datum, value_of, Fields, no_field, field, fields_view}

abbrev snoc_field : Fields → List ℕ → Datum → Fields
snoc_field no_field u x = field u x no_field
snoc_field (field v y fs) u x = field v y (snoc_field fs u x)

fields_last : (fs : List (String Global × Value)) (f : String Global × Value) → fields_view (fs ++ f ∷ []) ≡ snoc_field (fields_view fs) (chars (string_bytes f.0)) (value_of f.1)
fields_last [] f = refl
fields_last (g ∷ fs) f = ap (field (chars (string_bytes g.0)) (value_of g.1)) (fields_last fs f)

-- one member more on both sides
pub one_more_field : (fs gs : List (String Global × Value)) (k : String Global) (v : Value) (g : String Global × Value) → fields_view fs ≡ fields_view gs → string_bytes k ≡ string_bytes g.0 → value_of v ≡ value_of g.1
    → fields_view (fs ++ (k, v) ∷ []) ≡ fields_view (gs ++ g ∷ [])
one_more_field fs gs k v g h named is = fields_last fs (k, v) ∙ (rw (h, named, is) (sym (fields_last gs g)))
