-- What is found in a borrowed value.
use Rattle.std.proofs.Common.{◌≡◌, ◌∙◌, ◌<◌, ◌≤◌, ◌+◌, ℕ, get_or, nat_lt, zero, suc, Bool, nat_eq, true, false, List, [], ◌∷◌, drop, length, Option, Some, None, option_map, is_some, refl, sym, ap, arith}
use Rattle.std.proofs.lemmas.List.{drop_more}
use Rattle.std.specs.Borrow.{Bor}
use Rattle.std.specs.Option.{IfSome}
use Rattle.std.specs.Str.{chars, IsUtf8}
use Rattle.std.specs.Cmp.Lexicographic.{pointwise}
use Rattle.json5_types.specs.declared.cow_str.CowStr.{CowStr}
use Rattle.json5_types.specs.Cows.{cow_bytes}
use Rattle.json5_types.specs.ValueKinds.{items_len, fields_len}
use Rattle.json5_types.specs.ValueLookups.{or_else, last_named, item_at}
use Rattle.json5_types.specs.ValueMeanings.{Datum}
use Rattle.json5_types.proofs.LookedUp.{found_here, found_before}
use Rattle.json5_types.proofs.ValuesCompared.{bytes_or_characters}
use Rattle.json5.specs.declared.value_ref.ValueRef.{ValueRef}
use Rattle.json5.specs.ValueRefs.{ref_of, refs_view, members_view}

abbrev pub Member : Type 0
Member = CowStr × ValueRef

pub at_name : (key : List ℕ) (f : Member) (fs xs : List Member) (found : Option Datum) → xs ≡ f ∷ fs → pointwise nat_eq (chars (cow_bytes f.0)) key ≡ true
    → or_else (last_named key (members_view xs)) found ≡ or_else (last_named key (members_view fs)) (Some (ref_of f.1))
at_name key f fs xs found x here = rw (x, here) (found_here (last_named key (members_view fs)) found (ref_of f.1))

pub past_name : (key : List ℕ) (f : Member) (fs xs : List Member) (found : Option Datum) → xs ≡ f ∷ fs → pointwise nat_eq (chars (cow_bytes f.0)) key ≡ false
    → or_else (last_named key (members_view xs)) found ≡ or_else (last_named key (members_view fs)) found
past_name key f fs xs found x other = rw (x, other) (found_before (last_named key (members_view fs)) found)

-- the members from the i-th on
pub from_here : (fs : List Member) (i : ℕ) (f : Member) → i < length fs → f ≡ get_or fs i f → drop i fs ≡ f ∷ drop (i + 1) fs
from_here fs i f h is = drop_more fs i f h ∙ ap (λ g. g ∷ drop (i + 1) fs) (sym is)

-- keys are compared by their bytes
pub same_key : (a b : List ℕ) (f : Member) (p q : Bool) → IsUtf8 a → IsUtf8 b → a ≡ cow_bytes f.0 → p ≡ pointwise nat_eq a b → p ≡ q → pointwise nat_eq (chars (cow_bytes f.0)) (chars b) ≡ q
same_key a b f p q h k named is e = rw (sym named) (sym (bytes_or_characters a b h k) ∙ sym is ∙ e)

-- the view of the elements has the view of the n-th one at the index n
item_here : (vs : List ValueRef) (n : ℕ) (d : ValueRef) → n < length vs → item_at n (refs_view vs) ≡ Some (ref_of (get_or vs n d))
item_here [] n d h = absurd (omega (arith, h))
item_here (v ∷ vs) zero d h = refl
item_here (v ∷ vs) (suc n) d h = item_here vs n d (omega (arith, h))

no_item_here : (vs : List ValueRef) (n : ℕ) → length vs ≤ n → item_at n (refs_view vs) ≡ None
no_item_here [] n h = refl
no_item_here (v ∷ vs) zero h = absurd (omega (arith, h))
no_item_here (v ∷ vs) (suc n) h = no_item_here vs n (omega (arith, h))

pub element_found : (vs : List ValueRef) (n : ℕ) (found : Option (Bor ValueRef)) → is_some found ≡ nat_lt n (length vs) → IfSome found (λ x. x.now ≡ get_or vs n x.now) → option_map (λ x. ref_of x.now) found ≡ item_at n (refs_view vs)
element_found vs n None h is = sym (no_item_here vs n (grind (arith, h)))
element_found vs n (Some x) h is = ap (λ v. Some (ref_of v)) is ∙ sym (item_here vs n x.now (grind (arith, h)))

pub items_counted : (vs : List ValueRef) → items_len (refs_view vs) ≡ length vs
items_counted [] = refl
items_counted (v ∷ vs) = ap suc (items_counted vs)

pub members_counted : (fs : List Member) → fields_len (members_view fs) ≡ length fs
members_counted [] = refl
members_counted (f ∷ fs) = ap suc (members_counted fs)
