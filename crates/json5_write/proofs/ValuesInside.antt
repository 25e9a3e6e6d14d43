-- The trees of the values inside a value, and the next value of a list.
use Rattle.std.proofs.Common.{◌≡◌, ◌<◌, ◌∙◌, ℕ, suc, ◌+◌, length, get_or, drop, drop-cons, add-one, List, [], ◌∷◌, refl, sym, ap, Vec, Global, String, string_bytes}
use Rattle.std.specs.Str.{chars}
use Rattle.json5_types.specs.declared.value.Value.{Value, Array, Object}
use Rattle.json5_types.specs.declared.value.Value as value
use Rattle.json5_types.specs.ValueMeanings.{items_view, fields_view}
use Rattle.json5_types.proofs.ValuesCompared.{view-String, view-Array, view-Object}
use Rattle.json5_write.specs.WrittenTrees.{text, array, object, element, field, elements_of, fields_of}
use Rattle.json5_write.specs.ValueTrees.{value_tree, datum_tree, items_tree, fields_tree, key_of_string}

items_inside : (vs : List Value) → items_tree (items_view vs) ≡ elements_of value_tree vs
items_inside [] = refl
items_inside (v ∷ vs) = ap (element (value_tree v)) (items_inside vs)

fields_inside : (fs : List (String Global × Value)) → fields_tree (fields_view fs) ≡ fields_of key_of_string value_tree fs
fields_inside [] = refl
fields_inside (f ∷ fs) = ap (field (key_of_string f.0) (value_tree f.1)) (fields_inside fs)

pub tree-Array : (v : Vec Value Global) → value_tree (Array v) ≡ array (elements_of value_tree v.items)
tree-Array v = ap datum_tree (view-Array v) ∙ ap array (items_inside v.items)

pub tree-Object : (v : Vec (String Global × Value) Global) → value_tree (Object v) ≡ object (fields_of key_of_string value_tree v.items)
tree-Object v = ap datum_tree (view-Object v) ∙ ap object (fields_inside v.items)

pub tree-String : (s : String Global) → value_tree (value.String s) ≡ text (chars (string_bytes s))
tree-String s = ap datum_tree (view-String s)

-- the next value of a list
pub item_first : {A : Type 0} (xs : List A) (i : ℕ) (x : A) → i < length xs → x ≡ get_or xs i x → drop i xs ≡ x ∷ drop (i + 1) xs
item_first xs i x h e = rw add-one (drop-cons xs i x h ∙ ap (λ y. y ∷ drop (suc i) xs) (sym e))
