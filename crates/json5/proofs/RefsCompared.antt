-- A borrowed value is equal to a value when their views are.
use Rattle.std.proofs.Common.{◌≡◌, ◌∙◌, ℕ, suc, Bool, true, false, not, ◌&&◌, List, [], ◌∷◌, length, nat_eq, ap, sym, refl, String, string_bytes}
use Rattle.std.specs.declared.alloc.Global.{Global}
use Rattle.std.specs.Str.{chars, IsUtf8}
use Rattle.std.specs.Cmp.Lexicographic.{pointwise}
use Rattle.json5_types.specs.declared.cow_str.CowStr.{CowStr}
use Rattle.json5_types.specs.declared.value.Value.{Value}
use Rattle.json5_types.specs.Cows.{cow_bytes}
use Rattle.json5_types.specs.ValueEquality.{datum_eq, items_eq, fields_eq, datum_Decides}
use Rattle.json5_types.specs.ValueMeanings.{value_of, items_view, fields_view}
use Rattle.json5_types.proofs.ValuesCompared.{bytes_or_characters}
use Rattle.json5.specs.declared.value_ref.ValueRef.{ValueRef}
use Rattle.json5.specs.ValueRefs.{ref_of, refs_view, members_view}

pub ruleset refs_compared = (datum_Decides, bytes_or_characters)

and_false : (a : Bool) → (a && false) ≡ false
and_false true = refl
and_false false = refl

-- lists of other lengths aren't equal
pub other_length : (xs : List ValueRef) (ys : List Value) → (length xs ≡ length ys → ⊥) → items_eq (refs_view xs) (items_view ys) ≡ false
other_length [] [] h = absurd (h refl)
other_length [] (y ∷ ys) h = refl
other_length (x ∷ xs) [] h = refl
other_length (x ∷ xs) (y ∷ ys) h = rw (other_length xs ys (λ e. h (ap suc e))) (and_false (datum_eq (ref_of x) (value_of y)))

pub other_count : (fs : List (CowStr × ValueRef)) (gs : List (String Global × Value)) → (length fs ≡ length gs → ⊥) → fields_eq (members_view fs) (fields_view gs) ≡ false
other_count [] [] h = absurd (h refl)
other_count [] (g ∷ gs) h = refl
other_count (f ∷ fs) [] h = refl
other_count (f ∷ fs) (g ∷ gs) h = rw (other_count fs gs (λ e. h (ap suc e))) (and_both_false (pointwise nat_eq (chars (cow_bytes f.0)) (chars (string_bytes g.0))) (datum_eq (ref_of f.1) (value_of g.1)))
  where
    and_both_false : (a b : Bool) → (a && (b && false)) ≡ false
    and_both_false a b = rw (and_false b) (and_false a)

-- the first members have different keys
pub other_name : (fs : List (CowStr × ValueRef)) (gs : List (String Global × Value)) (f : CowStr × ValueRef) (g : String Global × Value) (xs : List (CowStr × ValueRef)) (ys : List (String Global × Value)) (a b : List ℕ) → xs ≡ f ∷ fs → ys ≡ g ∷ gs
    → IsUtf8 a → IsUtf8 b → a ≡ cow_bytes f.0 → b ≡ string_bytes g.0 → not (pointwise nat_eq a b) ≡ true → fields_eq (members_view xs) (fields_view ys) ≡ false
other_name fs gs f g xs ys a b x y h k i j differ =
    let named : pointwise nat_eq (chars (cow_bytes f.0)) (chars (string_bytes g.0)) ≡ false = rw (sym i, sym j) (sym (bytes_or_characters a b h k) ∙ not_true (pointwise nat_eq a b) differ) in
    rw (x, y, named) refl
  where
    not_true : (p : Bool) → not p ≡ true → p ≡ false
    not_true false e = refl
    not_true true e = sym e
