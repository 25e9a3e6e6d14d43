-- Lists of other lengths aren't equal.
use Rattle.std.proofs.Common.{◌≡◌, suc, Bool, true, false, ◌&&◌, List, [], ◌∷◌, length, ap, refl}
use Rattle.json5_types.specs.declared.value.Value.{Value}
use Rattle.json5_types.specs.ValueMeanings.{value_of, items_view}
use Rattle.json5_numbers.specs.Sameness.{same_datum, same_items}

and_false : (a : Bool) → (a && false) ≡ false
and_false true = refl
and_false false = refl

pub other_length : (xs ys : List Value) → (length xs ≡ length ys → ⊥) → same_items (items_view xs) (items_view ys) ≡ false
other_length [] [] h = absurd (h refl)
other_length [] (y ∷ ys) h = refl
other_length (x ∷ xs) [] h = refl
other_length (x ∷ xs) (y ∷ ys) h = rw (other_length xs ys (λ e. h (ap suc e))) (and_false (same_datum (value_of x) (value_of y)))
