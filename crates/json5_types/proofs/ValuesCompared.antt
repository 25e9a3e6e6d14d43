-- Values are equal when their views are.
use Rattle.std.proofs.Common.{◌≡◌, ◌∙◌, ℕ, suc, Bool, true, false, not, ◌&&◌, List, [], ◌∷◌, length, nat_eq, ap, sym, refl, rules, Vec, String, string_bytes}
use Rattle.std.specs.declared.alloc.Global.{Global}
use Rattle.std.specs.Str.{chars, IsUtf8, encode_utf8_all}
use Rattle.std.specs.Cmp.Lexicographic.{pointwise, bytes_decides}
use Rattle.std.proofs.lemmas.Str.{encodes-chars}
use Rattle.std.proofs.lemmas.Bool.Decides.{Decides-like, same_from_decides}
use Rattle.json5_types.specs.ValueMeanings.{value_of, items_view, fields_view, null, text, array, object}
use Rattle.json5_types.specs.ValueEquality.{datum_eq, items_eq, fields_eq, datum_Decides}
use Rattle.json5_types.specs.declared.value.Value.{Value, Null, Array, Object, the_lemmas}
use Rattle.json5_types.specs.declared.value.Value as value

-- two strings have equal bytes exactly when they have equal characters
pub bytes_or_characters : (a b : List ℕ) → IsUtf8 a → IsUtf8 b → pointwise nat_eq a b ≡ pointwise nat_eq (chars a) (chars b)
bytes_or_characters a b h k =
    let back : chars a ≡ chars b → a ≡ b = λ e. sym (encodes-chars a h) ∙ ap encode_utf8_all e ∙ encodes-chars b k in
    same_from_decides (pointwise nat_eq a b) (pointwise nat_eq (chars a) (chars b)) (bytes_decides a b) (Decides-like (pointwise nat_eq (chars a) (chars b)) back (λ e. ap chars e) (bytes_decides (chars a) (chars b)))

pub ruleset values_compared = (datum_Decides, bytes_or_characters)

and_false : (a : Bool) → (a && false) ≡ false
and_false true = refl
and_false false = refl

-- lists of other lengths aren't equal
pub other_length : (xs ys : List Value) → (length xs ≡ length ys → ⊥) → items_eq (items_view xs) (items_view ys) ≡ false
other_length [] [] h = absurd (h refl)
other_length [] (y ∷ ys) h = refl
other_length (x ∷ xs) [] h = refl
other_length (x ∷ xs) (y ∷ ys) h = rw (other_length xs ys (λ e. h (ap suc e))) (and_false (datum_eq (value_of x) (value_of y)))

pub other_count : (fs gs : List (String Global × Value)) → (length fs ≡ length gs → ⊥) → fields_eq (fields_view fs) (fields_view gs) ≡ false
other_count [] [] h = absurd (h refl)
other_count [] (g ∷ gs) h = refl
other_count (f ∷ fs) [] h = refl
other_count (f ∷ fs) (g ∷ gs) h = rw (other_count fs gs (λ e. h (ap suc e))) (and_both_false (pointwise nat_eq (chars (string_bytes f.0)) (chars (string_bytes g.0))) (datum_eq (value_of f.1) (value_of g.1)))
  where
    and_both_false : (a b : Bool) → (a && (b && false)) ≡ false
    and_both_false a b = rw (and_false b) (and_false a)

-- ---- the view of each kind of value

pub view-Array : (v : Vec Value Global) → value_of (Array v) ≡ array (items_view v.items)
view-Array v = search (rules, the_lemmas)

pub view-Object : (v : Vec (String Global × Value) Global) → value_of (Object v) ≡ object (fields_view v.items)
view-Object v = search (rules, the_lemmas)

-- the first members have different keys
pub other_name : (fs gs : List (String Global × Value)) (f g : String Global × Value) (xs ys : List (String Global × Value)) (a b : List ℕ) → xs ≡ f ∷ fs → ys ≡ g ∷ gs → IsUtf8 a → IsUtf8 b
    → a ≡ string_bytes f.0 → b ≡ string_bytes g.0 → not (pointwise nat_eq a b) ≡ true → fields_eq (fields_view xs) (fields_view ys) ≡ false
other_name fs gs f g xs ys a b x y h k i j differ =
    let named : pointwise nat_eq (chars (string_bytes f.0)) (chars (string_bytes g.0)) ≡ false = rw (sym i, sym j) (sym (bytes_or_characters a b h k) ∙ not_true (pointwise nat_eq a b) differ) in
    rw (x, y, named) refl
  where
    not_true : (p : Bool) → not p ≡ true → p ≡ false
    not_true false e = refl
    not_true true e = sym e

pub view-Null : value_of Null ≡ null
view-Null = search (rules, the_lemmas)

pub view-String : (s : String Global) → value_of (value.String s) ≡ text (chars (string_bytes s))
view-String s = search (rules, the_lemmas)
