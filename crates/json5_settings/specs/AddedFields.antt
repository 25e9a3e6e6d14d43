-- What a description adds to the schemas of fields.
-- A promise rests on this.
use Rattle.std.specs.Prelude.{◌≡◌, ℕ, Bool, String, List, [], ◌∷◌, Result, IfOk, IfErr, Vec}
use Rattle.std.specs.declared.alloc.Global.{Global}
use Rattle.json5_types.specs.declared.error.Error.{Error}
use Rattle.json5_types.specs.Errors.{LacksMemory}
use Rattle.json5_types.specs.declared.value.Value.{Value}
use Rattle.json5_types.specs.ValueMeanings.{Items, no_item, item, Fields, no_field, field, fields_view, items_view}
use Rattle.json5_settings.specs.declared.described_fields.FieldSchemas.{FieldSchemas}
use Rattle.json5_settings.specs.DescribedSchemas.{FieldKind, named, properties_of, required_of}

-- where keywords were given, others are made of them by this rule; where memory ran out for those, it does for these
abbrev pub MakesBy : (Fields → Fields) → Result (Vec (String Global × Value) Global) Error → Result (Vec (String Global × Value) Global) Error → Type 0
MakesBy rule given result =
    ((kw : Fields) → IfOk given (λ made. fields_view made.items ≡ kw) → IfOk result (λ made. fields_view made.items ≡ rule kw)) × (IfErr given LacksMemory → IfErr result LacksMemory)

-- the members, and others after them
abbrev pub members_then : Fields → Fields → Fields
members_then no_field gs = gs
members_then (field u x fs) gs = field u x (members_then fs gs)

abbrev pub elements_then : Items → Items → Items
elements_then no_item ys = ys
elements_then (item x xs) ys = item x (elements_then xs ys)

-- the schema of each of these fields was added, and the name of each that has to be there
pub record AddsFields (names : List (List ℕ)) (kinds : List FieldKind) (old new : FieldSchemas) : Type 0 where
  pub properties : fields_view new.properties.items ≡ members_then (fields_view old.properties.items) (properties_of names kinds)
  pub required : items_view new.required.items ≡ elements_then (items_view old.required.items) (required_of names kinds)

-- one field was
abbrev pub AddsField : List ℕ → Fields → Bool → FieldSchemas → FieldSchemas → Type 0
AddsField name keywords is_required = AddsFields (name ∷ []) (record { keywords = keywords; is_required = is_required } ∷ [])

-- the name was added to those that have to be there
pub record AddsName (name : List ℕ) (old new : FieldSchemas) : Type 0 where
  pub properties : new.properties ≡ old.properties
  pub required : items_view new.required.items ≡ elements_then (items_view old.required.items) (item (named name) no_item)
