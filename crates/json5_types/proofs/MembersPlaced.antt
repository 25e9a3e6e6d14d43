-- The last member with a key, and what a list becomes that is changed there.
use Rattle.std.proofs.Common.{◌≡◌, ◌∙◌, ◌<◌, ℕ, zero, suc, ◌+◌, Bool, true, false, nat_eq, if◌then◌else◌, List, [], ◌∷◌, ◌++◌, length, drop, set, Option, Some, None, is_some, refl, sym, ap, subst, arith, String, string_bytes}
use Rattle.std.specs.declared.alloc.Global.{Global}
use Rattle.std.specs.Prelude.{remove, slice_index_or, option_map, IfNone}
use Rattle.std.specs.Str.{chars}
use Rattle.std.specs.Cmp.Lexicographic.{pointwise, bytes_decides}
use Rattle.json5_types.specs.declared.value.Value.{Value}
use Rattle.json5_types.specs.ValueMeanings.{Datum, Items, Fields, no_field, field, value_of, items_view, fields_view}
use Rattle.json5_types.specs.ValueLookups.{or_else, last_named}
use Rattle.json5_types.specs.ValueChanges.{items_then, put_named, without_named}
use Rattle.json5_types.specs.MemberPlaces.{IsLastNamed}
use Rattle.json5_types.proofs.LookedUp.{from_here}

abbrev Member : Type 0
Member = String Global × Value

-- ---- what is found

or_else_some : (a b : Option Datum) → is_some a ≡ true → is_some (or_else a b) ≡ true
or_else_some None b h = absurd (cc)
or_else_some (Some x) b h = refl

-- neither is found
neither : (a : Option Datum) (here : Bool) (x : Datum) → or_else a (if here then Some x else None) ≡ None → (a ≡ None) × (here ≡ false)
neither None true x h = absurd (cc)
neither None false x h = (refl, refl)
neither (Some y) here x h = absurd (cc)

pub found_there : (key : List ℕ) (fs : List Member) (i : ℕ) (f : Member) → IsLastNamed key fs i → f ≡ slice_index_or fs i f → last_named key (fields_view fs) ≡ Some (value_of f.1)
found_there key [] i f last e = absurd (omega (arith, last.within))
found_there key (g ∷ gs) zero f last e = rw (last.last, last.named g refl) (ap (λ m. Some (value_of m.1)) (sym e))
found_there key (g ∷ gs) (suc i) f last e =
    let later : IsLastNamed key gs i = record { within = omega (arith, last.within); named = last.named; last = last.last } in
    rw (found_there key gs i f later e) refl

pub is_found : (key : List ℕ) (fs : List Member) (i : ℕ) → IsLastNamed key fs i → is_some (last_named key (fields_view fs)) ≡ true
is_found key [] i last = absurd (omega (arith, last.within))
is_found key (g ∷ gs) zero last = rw (last.last, last.named g refl) refl
is_found key (g ∷ gs) (suc i) last =
    let later : IsLastNamed key gs i = record { within = omega (arith, last.within); named = last.named; last = last.last } in
    or_else_some (last_named key (fields_view gs)) _ (is_found key gs i later)

-- ---- what is put

pub put_there : (key : List ℕ) (k : String Global) (v : Value) (fs : List Member) (i : ℕ) → IsLastNamed key fs i → chars (string_bytes k) ≡ key
    → fields_view (set fs i (k, v)) ≡ put_named key (value_of v) (fields_view fs)
put_there key k v [] i last e = absurd (omega (arith, last.within))
put_there key k v (g ∷ gs) zero last e = rw (last.last, last.named g refl) (ap (λ u. field u (value_of v) (fields_view gs)) e)
put_there key k v (g ∷ gs) (suc i) last e =
    let later : IsLastNamed key gs i = record { within = omega (arith, last.within); named = last.named; last = last.last } in
    rw (is_found key gs i later) (ap (field (chars (string_bytes g.0)) (value_of g.1)) (put_there key k v gs i later e))

pub put_last : (key : List ℕ) (k : String Global) (v : Value) (fs : List Member) → last_named key (fields_view fs) ≡ None → chars (string_bytes k) ≡ key
    → fields_view (fs ++ (k, v) ∷ []) ≡ put_named key (value_of v) (fields_view fs)
put_last key k v [] h e = ap (λ u. field u (value_of v) no_field) e
put_last key k v (g ∷ gs) h e =
    let none = neither (last_named key (fields_view gs)) (pointwise nat_eq (chars (string_bytes g.0)) key) (value_of g.1) h in
    rw (none.0, none.1) (ap (field (chars (string_bytes g.0)) (value_of g.1)) (put_last key k v gs none.0 e))

pub pushed_last : (vs : List Value) (v : Value) → items_view (vs ++ v ∷ []) ≡ items_then (items_view vs) (value_of v)
pushed_last [] v = refl
pushed_last (w ∷ ws) v = ap (Items.item (value_of w)) (pushed_last ws v)

-- ---- what is left

pub without_there : (key : List ℕ) (fs : List Member) (i : ℕ) → IsLastNamed key fs i → without_named key (fields_view (remove fs i)) ≡ without_named key (fields_view fs)
without_there key [] i last = absurd (omega (arith, last.within))
without_there key (g ∷ gs) zero last = rw (last.named g refl) refl
without_there key (g ∷ gs) (suc i) last =
    let later : IsLastNamed key gs i = record { within = omega (arith, last.within); named = last.named; last = last.last } in
    ap (λ fs. if pointwise nat_eq (chars (string_bytes g.0)) key then fs else field (chars (string_bytes g.0)) (value_of g.1) fs) (without_there key gs i later)

pub without_none : (key : List ℕ) (fs : Fields) → last_named key fs ≡ None → without_named key fs ≡ fs
without_none key no_field h = refl
without_none key (field u x fs) h =
    let none = neither (last_named key fs) (pointwise nat_eq u key) x h in
    rw (none.1) (ap (field u x) (without_none key fs none.0))

-- ---- how it is found, from the last member on

pub same_element : (fs : List Member) (i : ℕ) (f g : Member) → i < length fs → slice_index_or fs i f ≡ slice_index_or fs i g
same_element [] i f g h = absurd (omega (arith, h))
same_element (x ∷ xs) zero f g h = refl
same_element (x ∷ xs) (suc i) f g h = same_element xs i f g (omega (arith, h))

pub placed : (key : List ℕ) (fs : List Member) (i n : ℕ) (f : Member) → suc i ≡ n → i < length fs → f ≡ slice_index_or fs i f → last_named key (fields_view (drop n fs)) ≡ None → pointwise nat_eq (chars (string_bytes f.0)) key ≡ true → IsLastNamed key fs i
placed key fs i n f e h is none here =
    record {
      within = h;
      named = λ g same. let one : f ≡ g = is ∙ same_element fs i f g h ∙ sym same in subst (λ m. pointwise nat_eq (chars (string_bytes m.0)) key ≡ true) one here;
      last = subst (λ k. last_named key (fields_view (drop k fs)) ≡ None) (sym e) none;
    }

pub passed : (key : List ℕ) (fs : List Member) (i n : ℕ) (f : Member) → i + 1 ≡ n → i < length fs → f ≡ slice_index_or fs i f → last_named key (fields_view (drop n fs)) ≡ None → pointwise nat_eq (chars (string_bytes f.0)) key ≡ false
    → last_named key (fields_view (drop i fs)) ≡ None
passed key fs i n f e h is none other =
    let rest = subst (λ k. last_named key (fields_view (drop k fs)) ≡ None) (sym e) none in
    rw (from_here fs i f h is, rest, other) refl

-- none is left to remove
pub removed_all : (key : List ℕ) (old new start : List Member) (r : Option Value) (b : Bool) → b ≡ is_some r → b ≡ false → option_map value_of r ≡ last_named key (fields_view old) → IfNone r (new ≡ old)
    → without_named key (fields_view old) ≡ without_named key (fields_view start) → fields_view new ≡ without_named key (fields_view start)
removed_all key old new start (Some v) b e f found same kept = absurd (cc)
removed_all key old new start None b e f found same kept = ap fields_view same ∙ sym (without_none key (fields_view old) (sym found)) ∙ kept

-- the same key with another value
pub kept_there : (key : List ℕ) (f : Member) (v : Value) (fs : List Member) (i : ℕ) → IsLastNamed key fs i → f ≡ slice_index_or fs i f → fields_view (set fs i (f.0, v)) ≡ put_named key (value_of v) (fields_view fs)
kept_there key f v fs i last is = put_there key f.0 v fs i last ((bytes_decides (chars (string_bytes f.0)) key).0 (last.named f is))
