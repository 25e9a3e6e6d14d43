-- Copies of values, one after another, and the view of each kind of a borrowed value.
use Rattle.std.proofs.Common.{◌≡◌, ◌∙◌, ℕ, List, [], ◌∷◌, ◌++◌, refl, sym, ap, rules, Vec, String, string_bytes}
use Rattle.std.specs.declared.alloc.Global.{Global}
use Rattle.std.specs.Str.{chars}
use Rattle.json5_types.specs.declared.cow_str.CowStr.{CowStr}
use Rattle.json5_types.specs.declared.value.Value.{Value}
use Rattle.json5_types.specs.Cows.{cow_bytes}
use Rattle.json5_types.specs.ValueChanges.{items_then}
use Rattle.json5_types.specs.ValueMeanings.{Datum, item, Fields, no_field, field, text, array, object, value_of, items_view, fields_view}
use Rattle.json5.specs.declared.value_ref.ValueRef.{ValueRef, the_lemmas}
use Rattle.json5.specs.declared.value_ref.ValueRef as ref
use Rattle.json5.specs.ValueRefs.{ref_of, refs_view, members_view}

-- ---- the view of each kind of value

pub view-String : (s : CowStr) → ref_of (ref.String s) ≡ text (chars (cow_bytes s))
view-String s = search (rules, the_lemmas)

pub view-Array : (v : Vec ValueRef Global) → ref_of (ref.Array v) ≡ array (refs_view v.items)
view-Array v = search (rules, the_lemmas)

pub view-Object : (v : Vec (CowStr × ValueRef) Global) → ref_of (ref.Object v) ≡ object (members_view v.items)
view-Object v = search (rules, the_lemmas)

-- ---- one more

abbrev pub fields_then : Fields → List ℕ → Datum → Fields
fields_then no_field u x = field u x no_field
fields_then (field v y fs) u x = field v y (fields_then fs u x)

pub refs_last : (vs : List ValueRef) (v : ValueRef) → refs_view (vs ++ v ∷ []) ≡ items_then (refs_view vs) (ref_of v)
refs_last [] v = refl
refs_last (w ∷ ws) v = ap (item (ref_of w)) (refs_last ws v)

pub members_last : (fs : List (CowStr × ValueRef)) (f : CowStr × ValueRef) → members_view (fs ++ f ∷ []) ≡ fields_then (members_view fs) (chars (cow_bytes f.0)) (ref_of f.1)
members_last [] f = refl
members_last (g ∷ fs) f = ap (field (chars (cow_bytes g.0)) (ref_of g.1)) (members_last fs f)

items_last : (vs : List Value) (v : Value) → items_view (vs ++ v ∷ []) ≡ items_then (items_view vs) (value_of v)
items_last [] v = refl
items_last (w ∷ ws) v = ap (item (value_of w)) (items_last ws v)

fields_last : (fs : List (String Global × Value)) (f : String Global × Value) → fields_view (fs ++ f ∷ []) ≡ fields_then (fields_view fs) (chars (string_bytes f.0)) (value_of f.1)
fields_last [] f = refl
fields_last (g ∷ fs) f = ap (field (chars (string_bytes g.0)) (value_of g.1)) (fields_last fs f)

-- ---- one more on both sides

pub one_more_owned : (vs : List Value) (ws : List ValueRef) (v : Value) (w : ValueRef) → items_view vs ≡ refs_view ws → value_of v ≡ ref_of w → items_view (vs ++ v ∷ []) ≡ refs_view (ws ++ w ∷ [])
one_more_owned vs ws v w h is = items_last vs v ∙ (rw (h, is) (sym (refs_last ws w)))

pub one_more_owned_member : (fs : List (String Global × Value)) (gs : List (CowStr × ValueRef)) (k : String Global) (v : Value) (g : CowStr × ValueRef) → fields_view fs ≡ members_view gs → string_bytes k ≡ cow_bytes g.0 → value_of v ≡ ref_of g.1
    → fields_view (fs ++ (k, v) ∷ []) ≡ members_view (gs ++ g ∷ [])
one_more_owned_member fs gs k v g h named is = fields_last fs (k, v) ∙ (rw (h, named, is) (sym (members_last gs g)))

pub one_more_unborrowed : (ws : List ValueRef) (vs : List Value) (w : ValueRef) (v : Value) → refs_view ws ≡ items_view vs → ref_of w ≡ value_of v → refs_view (ws ++ w ∷ []) ≡ items_view (vs ++ v ∷ [])
one_more_unborrowed ws vs w v h is = refs_last ws w ∙ (rw (h, is) (sym (items_last vs v)))

pub one_more_unborrowed_member : (gs : List (CowStr × ValueRef)) (fs : List (String Global × Value)) (k : CowStr) (w : ValueRef) (f : String Global × Value) → members_view gs ≡ fields_view fs → cow_bytes k ≡ string_bytes f.0 → ref_of w ≡ value_of f.1
    → members_view (gs ++ (k, w) ∷ []) ≡ fields_view (fs ++ f ∷ [])
one_more_unborrowed_member gs fs k w f h named is = members_last gs (k, w) ∙ (rw (h, named, is) (sym (fields_last fs f)))
