-- Fields are added to schemas, one description after another.
use Rattle.std.proofs.Common.{◌≡◌, ◌∙◌, ℕ, Bool, true, false, List, [], ◌∷◌, ◌++◌, length, refl, ap, subst, sym, arith, String, Vec, string_bytes}
use Rattle.std.specs.Prelude.{if◌then◌else◌, OnOk, Result, Ok, Err}
use Rattle.std.specs.declared.alloc.Global.{Global}
use Rattle.std.specs.Borrow.{Bor}
use Rattle.std.specs.Str.{chars}
use Rattle.json5_types.specs.declared.value.Value.{Value}
use Rattle.json5_types.specs.declared.value.Value as value
use Rattle.json5_types.proofs.ValuesCompared.{view-Object, view-String}
use Rattle.json5_de.specs.Convert.{names_bytes}
use Rattle.json5_types.specs.ValueMeanings.{object, Items, no_item, item, Fields, no_field, field, value_of, fields_view, items_view}
use Rattle.json5_settings.specs.declared.described_fields.FieldSchemas.{FieldSchemas}
use Rattle.json5_settings.specs.AddedFields.{AddsField, AddsFields, AddsName, members_then, elements_then}
use Rattle.json5_settings.specs.DescribedSchemas.{FieldKind, properties_of, required_of, named, texts_of}

-- ---- one more at the end

pub member_last : (fs : List (String Global × Value)) (f : String Global × Value) → fields_view (fs ++ f ∷ []) ≡ members_then (fields_view fs) (field (chars (string_bytes f.0)) (value_of f.1) no_field)
member_last [] f = refl
member_last (g ∷ fs) f = ap (field (chars (string_bytes g.0)) (value_of g.1)) (member_last fs f)

pub element_last : (xs : List Value) (x : Value) → items_view (xs ++ x ∷ []) ≡ elements_then (items_view xs) (item (value_of x) no_item)
element_last [] x = refl
element_last (y ∷ xs) x = ap (item (value_of y)) (element_last xs x)

pub no_elements : (xs : Items) → xs ≡ elements_then xs no_item
no_elements no_item = refl
no_elements (item x xs) = ap (item x) (no_elements xs)

-- ---- one description after another

members_then_then : (fs gs hs : Fields) → members_then (members_then fs gs) hs ≡ members_then fs (members_then gs hs)
members_then_then no_field gs hs = refl
members_then_then (field u x fs) gs hs = ap (field u x) (members_then_then fs gs hs)

elements_then_then : (xs ys zs : Items) → elements_then (elements_then xs ys) zs ≡ elements_then xs (elements_then ys zs)
elements_then_then no_item ys zs = refl
elements_then_then (item x xs) ys zs = ap (item x) (elements_then_then xs ys zs)

properties_both : (ns ms : List (List ℕ)) (ks ls : List FieldKind) → length ks ≡ length ns → members_then (properties_of ns ks) (properties_of ms ls) ≡ properties_of (ns ++ ms) (ks ++ ls)
properties_both [] ms [] ls h = refl
properties_both [] ms (k ∷ ks) ls h = absurd (omega (arith, h))
properties_both (n ∷ ns) ms [] ls h = absurd (omega (arith, h))
properties_both (n ∷ ns) ms (k ∷ ks) ls h = ap (field (chars n) (object k.keywords)) (properties_both ns ms ks ls (omega (arith, h)))

required_both : (ns ms : List (List ℕ)) (ks ls : List FieldKind) → length ks ≡ length ns → elements_then (required_of ns ks) (required_of ms ls) ≡ required_of (ns ++ ms) (ks ++ ls)
required_both [] ms [] ls h = refl
required_both [] ms (k ∷ ks) ls h = absurd (omega (arith, h))
required_both (n ∷ ns) ms [] ls h = absurd (omega (arith, h))
required_both (n ∷ ns) ms (k ∷ ks) ls h = by k.is_required (required_both ns ms ks ls (omega (arith, h)))
  where
    by : (b : Bool) → elements_then (required_of ns ks) (required_of ms ls) ≡ required_of (ns ++ ms) (ks ++ ls)
        → elements_then (if b then item (named n) (required_of ns ks) else required_of ns ks) (required_of ms ls) ≡ (if b then item (named n) (required_of (ns ++ ms) (ks ++ ls)) else required_of (ns ++ ms) (ks ++ ls))
    by true rest = ap (item (named n)) rest
    by false rest = rest

pub both_added : (ns ms : List (List ℕ)) (ks ls : List FieldKind) (old now new : FieldSchemas) → length ks ≡ length ns → AddsFields ns ks old now → AddsFields ms ls now new → AddsFields (ns ++ ms) (ks ++ ls) old new
both_added ns ms ks ls old now new h a b = record {
  properties = b.properties ∙ (ap (λ fs. members_then fs (properties_of ms ls)) a.properties ∙ (members_then_then (fields_view old.properties.items) (properties_of ns ks) (properties_of ms ls) ∙ ap (members_then (fields_view old.properties.items)) (properties_both ns ms ks ls h)));
  required = b.required ∙ (ap (λ xs. elements_then xs (required_of ms ls)) a.required ∙ (elements_then_then (items_view old.required.items) (required_of ns ks) (required_of ms ls) ∙ ap (elements_then (items_view old.required.items)) (required_both ns ms ks ls h)));
}

pub on_ok_then : {E : Type 0} {A B : Type 0} (r : Result (Unit {0}) E) → OnOk r A → (A → B) → OnOk r B
on_ok_then (Ok t) a next = next a
on_ok_then (Err e) a next = tt

names_last : (ns : List (Bor (List ℕ))) (n : Bor (List ℕ)) → texts_of (names_bytes (ns ++ n ∷ [])) ≡ elements_then (texts_of (names_bytes ns)) (item (named n.now) no_item)
names_last [] n = refl
names_last (m ∷ ns) n = ap (item (named m.now)) (names_last ns n)

pub one_name_more : (ns : List (Bor (List ℕ))) (xs : List Value) (n : Bor (List ℕ)) (s : String Global) → items_view xs ≡ texts_of (names_bytes ns) → string_bytes s ≡ n.now → items_view (xs ++ value.String s ∷ []) ≡ texts_of (names_bytes (ns ++ n ∷ []))
one_name_more ns xs n s so_far is = element_last xs (value.String s) ∙ rw (so_far, view-String s, is) (sym (names_last ns n))

pub when_ok : {E : Type 0} {A : Type 0} (r : Result (Unit {0}) E) (t : Unit {0}) → r ≡ Ok t → OnOk r A → A
when_ok {A = A} r t is holds = subst (λ q. OnOk q A) is holds

-- ---- one field

pub property_added : (old new : List (String Global × Value)) (key : String Global) (keywords : Vec (String Global × Value) Global) (u : List ℕ) (kw : Fields) → new ≡ old ++ (key, value.Object keywords) ∷ [] → string_bytes key ≡ u → fields_view keywords.items ≡ kw
    → fields_view new ≡ members_then (fields_view old) (field (chars u) (object kw) no_field)
property_added old new key keywords u kw e named is = ap fields_view e ∙ (member_last old (key, value.Object keywords) ∙ rw (view-Object keywords, named, is) refl)

pub required_added : (u : List ℕ) (kw : Fields) (r : Bool) (old now new : FieldSchemas) → r ≡ true → fields_view now.properties.items ≡ members_then (fields_view old.properties.items) (field (chars u) (object kw) no_field) → now.required ≡ old.required
    → AddsName u now new → AddsField u kw r old new
required_added u kw r old now new on property same name = record { properties = ap (λ (v : Vec (String Global × Value) Global). fields_view v.items) name.properties ∙ property; required = name.required ∙ rw (on, same) refl }

pub other_added : (u : List ℕ) (kw : Fields) (r : Bool) (old now : FieldSchemas) → r ≡ false → fields_view now.properties.items ≡ members_then (fields_view old.properties.items) (field (chars u) (object kw) no_field) → now.required ≡ old.required
    → AddsField u kw r old now
other_added u kw r old now off property same = record { properties = property; required = rw (off, same) (no_elements (items_view old.required.items)) }
