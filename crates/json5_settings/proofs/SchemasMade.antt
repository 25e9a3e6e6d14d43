-- What a schema says of a value, as it is put together.
use Rattle.std.proofs.Common.{◌≡◌, ◌⊎◌, inl, inr, rules, Bool, ℤ, ℕ, List, [], ◌∷◌, ◌++◌, ap, refl, ◌∙◌, sym, String, string_bytes}
use Rattle.std.specs.Prelude.{codes}
use Rattle.std.specs.declared.alloc.Global.{Global}
use Rattle.std.specs.Str.{chars, encode_utf8_all}
use Rattle.std.proofs.lemmas.Str.{encodes-chars, IsUtf8-string_bytes}
use Rattle.json5_grammar.specs.Language.Numbers.{Decimal, whole, decimal}
use Rattle.json5_types.specs.declared.value.Value.{Value, the_lemmas}
use Rattle.json5_types.specs.declared.value.Value as value
use Rattle.json5_types.proofs.ValuesCompared.{view-Null, view-String}
use Rattle.json5_types.specs.ValueMeanings.{Datum, boolean, number, object, Fields, field, no_field, value_of, fields_view}
use Rattle.json5_settings.specs.Schemas.{Comments, default_part, member_path, member_schemas, part_inside, schema_parts}

pub default_chars : chars (codes "default") ≡ codes "default"
unfolding chars
default_chars = refl

pub items_chars : chars (codes "items") ≡ codes "items"
unfolding chars
items_chars = refl

pub properties_chars : chars (codes "properties") ≡ codes "properties"
unfolding chars
properties_chars = refl

pub type_chars : chars (codes "type") ≡ codes "type"
unfolding chars
type_chars = refl

pub description_chars : chars (codes "description") ≡ codes "description"
unfolding chars
description_chars = refl

pub schema_chars : chars (codes "$schema") ≡ codes "$schema"
unfolding chars
schema_chars = refl

-- one member more
abbrev then_field : Fields → List ℕ → Datum → Fields
then_field no_field u x = field u x no_field
then_field (field v y fs) u x = field v y (then_field fs u x)

fields_last : (fs : List (String Global × Value)) (f : String Global × Value) → fields_view (fs ++ f ∷ []) ≡ then_field (fields_view fs) (chars (string_bytes f.0)) (value_of f.1)
fields_last [] f = refl
fields_last (g ∷ fs) f = ap (field (chars (string_bytes g.0)) (value_of g.1)) (fields_last fs f)

abbrev schema_under : Comments → (at key : List ℕ) → Datum → Datum
schema_under cs at key x = object (schema_parts cs (member_path at key) x)

schemas_last : (cs : Comments) (at : List ℕ) (fs : List (String Global × Value)) (f : String Global × Value)
    → member_schemas cs at (fields_view (fs ++ f ∷ [])) ≡ then_field (member_schemas cs at (fields_view fs)) (chars (string_bytes f.0)) (schema_under cs at (string_bytes f.0) (value_of f.1))
schemas_last cs at [] f = ap (λ key. field (chars (string_bytes f.0)) (schema_under cs at key (value_of f.1)) no_field) (encodes-chars (string_bytes f.0) (IsUtf8-string_bytes f.0))
schemas_last cs at (g ∷ fs) f = ap (field (chars (string_bytes g.0)) (schema_under cs at (encode_utf8_all (chars (string_bytes g.0))) (value_of g.1))) (schemas_last cs at fs f)

-- a member more has its schema
pub one_schema_more : (cs : Comments) (at : List ℕ) (fs made : List (String Global × Value)) (f g : String Global × Value)
    → fields_view made ≡ member_schemas cs at (fields_view fs) → string_bytes g.0 ≡ string_bytes f.0 → value_of g.1 ≡ schema_under cs at (string_bytes f.0) (value_of f.1)
    → fields_view (made ++ g ∷ []) ≡ member_schemas cs at (fields_view (fs ++ f ∷ []))
one_schema_more cs at fs made f g so_far named is = fields_last made g ∙ rw (so_far, named, is) (sym (schemas_last cs at fs f))

view_Bool : (b : Bool) → value_of (value.Bool b) ≡ boolean b
view_Bool b = search (rules, the_lemmas)

view_Whole : (z : ℤ) → value_of (value.Whole z) ≡ number (whole z)
view_Whole z = search (rules, the_lemmas)

view_Decimal : (d : Decimal) → value_of (value.Decimal d) ≡ number (decimal d)
view_Decimal d = search (rules, the_lemmas)

abbrev IsScalar : Value → Type 0
IsScalar v = (v ≡ value.Null) ⊎ (((b : Bool) × (v ≡ value.Bool b)) ⊎ (((z : ℤ) × (v ≡ value.Whole z)) ⊎ (((d : Decimal) × (v ≡ value.Decimal d)) ⊎ ((s : String Global) × (v ≡ value.String s)))))

-- inside what is no array and no object stands its default
pub default_inside : (cs : Comments) (at : List ℕ) (v : Value) → IsScalar v → default_part (value_of v) ≡ part_inside cs at (value_of v)
default_inside cs at v (inl e) = rw (e, view-Null) refl
default_inside cs at v (inr (inl (b, e))) = rw (e, view_Bool b) refl
default_inside cs at v (inr (inr (inl (z, e)))) = rw (e, view_Whole z) refl
default_inside cs at v (inr (inr (inr (inl (d, e))))) = rw (e, view_Decimal d) refl
default_inside cs at v (inr (inr (inr (inr (s, e))))) = rw (e, view-String s) refl
