-- Members that are merged one after another, the last of those with equal keys.
use Rattle.std.proofs.Common.{◌≡◌, ◌∙◌, ◌≤◌, ℕ, zero, suc, List, [], ◌∷◌, ◌++◌, set, None, refl, sym, ap, arith, String, string_bytes}
use Rattle.std.specs.Prelude.{reverse, slice_index_or}
use Rattle.std.specs.declared.alloc.Global.{Global}
use Rattle.std.specs.Str.{chars}
use Rattle.std.specs.Cmp.Lexicographic.{bytes_decides}
use Rattle.std.proofs.lemmas.List.{reverse-append}
use Rattle.json5_types.specs.declared.value.Value.{Value}
use Rattle.json5_types.specs.ValueMeanings.{Datum, null, boolean, number, text, array, object, field, value_of, fields_view}
use Rattle.json5_types.specs.ValueLookups.{last_named, fields_depth}
use Rattle.json5_types.specs.ValueChanges.{merged, put_named, or_null}
use Rattle.json5_types.specs.MemberPlaces.{IsLastNamed}
use Rattle.json5_types.proofs.MembersPlaced.{found_there, put_there, put_last}

abbrev Member : Type 0
Member = String Global × Value

-- the first of the reversed rest is its last
reverse_last : (fs : List Member) (f : Member) → reverse (fs ++ f ∷ []) ≡ f ∷ reverse fs
reverse_last fs f = reverse-append fs (f ∷ [])

-- ---- one member merged

merged_null : (y : Datum) → merged null y ≡ y
merged_null null = refl
merged_null (boolean b) = refl
merged_null (number n) = refl
merged_null (text u) = refl
merged_null (array xs) = refl
merged_null (object fs) = refl

set_twice : (fs : List Member) (i : ℕ) (f g : Member) → set (set fs i f) i g ≡ set fs i g
set_twice [] i f g = refl
set_twice (x ∷ xs) zero f g = refl
set_twice (x ∷ xs) (suc i) f g = ap (λ ys. x ∷ ys) (set_twice xs i f g)

pub merged_at : (key : List ℕ) (fs : List Member) (i : ℕ) (between f : Member) (v : Value) (y : Datum) → IsLastNamed key fs i → f ≡ slice_index_or fs i f → value_of v ≡ merged (value_of f.1) y
    → fields_view (set (set fs i between) i (f.0, v)) ≡ put_named key (merged (or_null (last_named key (fields_view fs))) y) (fields_view fs)
merged_at key fs i between f v y last is e =
    let k : chars (string_bytes f.0) ≡ key = (bytes_decides (chars (string_bytes f.0)) key).0 (last.named f is) in
    ap fields_view (set_twice fs i between (f.0, v)) ∙ put_there key f.0 v fs i last k
    ∙ ap (λ z. put_named key z (fields_view fs)) (e ∙ ap (λ o. merged (or_null o) y) (sym (found_there key fs i f last is)))

pub merged_last : (key : List ℕ) (k : String Global) (v : Value) (fs : List Member) → last_named key (fields_view fs) ≡ None → chars (string_bytes k) ≡ key
    → fields_view (fs ++ (k, v) ∷ []) ≡ put_named key (merged (or_null (last_named key (fields_view fs))) (value_of v)) (fields_view fs)
merged_last key k v fs none e = put_last key k v fs none e ∙ ap (λ z. put_named key z (fields_view fs)) (sym (ap (λ o. merged (or_null o) (value_of v)) none ∙ merged_null (value_of v)))

-- ---- a turn: the last of the rest is the next

pub next_member : (rest new : List Member) (f : Member) → rest ≡ new ++ f ∷ [] → fields_view (reverse rest) ≡ field (chars (string_bytes f.0)) (value_of f.1) (fields_view (reverse new))
next_member rest new f e = ap (λ fs. fields_view (reverse fs)) e ∙ ap fields_view (reverse_last new f)

pub shallower : (rest new : List Member) (f : Member) (n : ℕ) → rest ≡ new ++ f ∷ [] → fields_depth (fields_view (reverse rest)) ≤ n → fields_depth (fields_view (reverse new)) ≤ n
shallower rest new f n e h = let k = ap fields_depth (next_member rest new f e) in grind arith
