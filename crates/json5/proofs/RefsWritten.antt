-- The trees of the values inside a borrowed value, and the next value of a list.
use Rattle.std.proofs.Common.{◌≡◌, ◌<◌, ◌∙◌, ℕ, suc, ◌+◌, length, get_or, drop, drop-cons, add-one, List, [], ◌∷◌, refl, sym, ap, rules, Vec, Global}
use Rattle.std.specs.Str.{chars}
use Rattle.json5_types.specs.declared.cow_str.CowStr.{CowStr}
use Rattle.json5_types.specs.Cows.{cow_bytes}
use Rattle.json5_types.specs.ValueMeanings as datum
use Rattle.json5_write.specs.WrittenTrees.{text, array, object, element, field, elements_of, fields_of}
use Rattle.json5_write.specs.ValueTrees.{datum_tree, items_tree, fields_tree}
use Rattle.json5.specs.declared.value_ref.ValueRef.{ValueRef, the_lemmas}
use Rattle.json5.specs.declared.value_ref.ValueRef as ref
use Rattle.json5.specs.ValueRefs.{ref_of, refs_view, members_view}
use Rattle.json5.specs.ValueRefTrees.{ref_tree, key_of_cow}
use Rattle.json5.proofs.RefsCopied.{view-String, view-Array, view-Object}

items_inside : (vs : List ValueRef) → items_tree (refs_view vs) ≡ elements_of ref_tree vs
items_inside [] = refl
items_inside (v ∷ vs) = ap (element (ref_tree v)) (items_inside vs)

members_inside : (fs : List (CowStr × ValueRef)) → fields_tree (members_view fs) ≡ fields_of key_of_cow ref_tree fs
members_inside [] = refl
members_inside (f ∷ fs) = ap (field (key_of_cow f.0) (ref_tree f.1)) (members_inside fs)

pub view-Null : ref_of ref.Null ≡ datum.null
view-Null = search (rules, the_lemmas)

pub tree-Array : (v : Vec ValueRef Global) → ref_tree (ref.Array v) ≡ array (elements_of ref_tree v.items)
tree-Array v = ap datum_tree (view-Array v) ∙ ap array (items_inside v.items)

pub tree-Object : (v : Vec (CowStr × ValueRef) Global) → ref_tree (ref.Object v) ≡ object (fields_of key_of_cow ref_tree v.items)
tree-Object v = ap datum_tree (view-Object v) ∙ ap object (members_inside v.items)

pub tree-String : (s : CowStr) → ref_tree (ref.String s) ≡ text (chars (cow_bytes s))
tree-String s = ap datum_tree (view-String s)

-- the next value of a list
pub item_first : {A : Type 0} (xs : List A) (i : ℕ) (x : A) → i < length xs → x ≡ get_or xs i x → drop i xs ≡ x ∷ drop (i + 1) xs
item_first xs i x h e = rw add-one (drop-cons xs i x h ∙ ap (λ y. y ∷ drop (suc i) xs) (sym e))
