-- What a value means, apart from how it is stored.
-- A promise rests on this.
use Rattle.std.specs.Prelude.{ℕ, Bool, List, [], ◌∷◌, map, String, string_bytes}
use Rattle.std.specs.declared.alloc.Global.{Global}
use Rattle.std.specs.Str.{chars}
use Rattle.json5_grammar.specs.Language.Numbers.{Number, whole, decimal}
use Rattle.json5_types.specs.declared.value.Value.{Value, fold-Value}
use Rattle.json5_types.specs.declared.value.Value.TheOpen.{Value-F}

-- a string is the codes of its characters; an object keeps all its members in their order, those with equal keys too
mutual
  pub data Datum : Type 0 where
    null : Datum
    boolean : Bool → Datum
    number : Number → Datum
    text : List ℕ → Datum
    array : Items → Datum
    object : Fields → Datum

  pub data Items : Type 0 where
    no_item : Items
    item : Datum → Items → Items

  pub data Fields : Type 0 where
    no_field : Fields
    field : List ℕ → Datum → Fields → Fields

abbrev pub items_of : List Datum → Items
items_of [] = no_item
items_of (x ∷ xs) = item x (items_of xs)

abbrev pub datum_fields : List (String Global × Datum) → Fields
datum_fields [] = no_field
datum_fields (f ∷ fs) = field (chars (string_bytes f.0)) f.1 (datum_fields fs)

-- one level, with each value inside already seen as what it means
abbrev pub view_step : Value-F Datum → Datum
view_step Value-F.Null = null
view_step (Value-F.Bool b) = boolean b
view_step (Value-F.Whole z) = number (whole z)
view_step (Value-F.Decimal d) = number (decimal d)
view_step (Value-F.String s) = text (chars (string_bytes s))
view_step (Value-F.Array v) = array (items_of v.items)
view_step (Value-F.Object v) = object (datum_fields v.items)

abbrev pub value_of : Value → Datum
value_of = fold-Value Datum view_step

abbrev pub items_view : List Value → Items
items_view vs = items_of (map value_of vs)

abbrev pub fields_view : List (String Global × Value) → Fields
fields_view fs = datum_fields (map (λ f. (f.0, value_of f.1)) fs)
