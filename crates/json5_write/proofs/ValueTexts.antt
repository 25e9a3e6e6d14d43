-- Equal outputs are written of equal values, and each key of a value can be written.
use Rattle.std.proofs.Common.{◌≡◌, ◌≢◌, ◌↔◌, ℕ, ◌+◌, Bool, true, false, cond, nat_lt, List, [], ◌∷◌, refl, ap, sym, ◌∙◌}
use Rattle.json5_types.specs.declared.value.Value.{Value}
use Rattle.json5_types.specs.ValueMeanings as datum
use Rattle.json5_types.specs.ValueMeanings.{Datum, Items, no_item, item, value_of}
use Rattle.json5_write.specs.WrittenTrees.{Written, null, boolean, number, text, array, object, Elements, no_element, element, Fields, no_field, field, named, bad}
use Rattle.json5_write.specs.Out.{Out, Stop, whole, invalid_key, too_deep, no_number, piece, stopped, followed_by, ◌then◌, out, elements_out, fields_out, opened_by, closed_by, element_out, value_part, text_within}
use Rattle.json5_write.specs.WritableNumbers.{is_writable}
use Rattle.json5_grammar.specs.Written.NumberText.{number_text}
use Rattle.json5_write.specs.ValueTrees.{datum_tree, items_tree, fields_tree, value_tree}
use Rattle.json5_write.proofs.ReadBack.{one_tree_written}
use Rattle.json5_write.proofs.WrittenDepths.{piece_whole}

-- what a tree without bad keys means
abbrev mutual
  tree_datum : Written → Datum
  tree_datum null = datum.null
  tree_datum (boolean b) = datum.boolean b
  tree_datum (number n) = datum.number n
  tree_datum (text u) = datum.text u
  tree_datum (array ts) = datum.array (elements_items ts)
  tree_datum (object fs) = datum.object (fields_data fs)

  elements_items : Elements → Items
  elements_items no_element = no_item
  elements_items (element t ts) = item (tree_datum t) (elements_items ts)

  fields_data : Fields → datum.Fields
  fields_data no_field = datum.no_field
  fields_data (field (named u) t fs) = datum.field u (tree_datum t) (fields_data fs)
  fields_data (field bad t fs) = datum.no_field

mutual
  datum_again : (x : Datum) → tree_datum (datum_tree x) ≡ x
  datum_again datum.null = refl
  datum_again (datum.boolean b) = refl
  datum_again (datum.number n) = refl
  datum_again (datum.text u) = refl
  datum_again (datum.array xs) = ap datum.array (items_again xs)
  datum_again (datum.object fs) = ap datum.object (fields_again fs)

  items_again : (xs : Items) → elements_items (items_tree xs) ≡ xs
  items_again no_item = refl
  items_again (item x xs) = rw (datum_again x, items_again xs) refl

  fields_again : (fs : datum.Fields) → fields_data (fields_tree fs) ≡ fs
  fields_again datum.no_field = refl
  fields_again (datum.field u x fs) = rw (datum_again x, fields_again fs) refl

pub one_datum : (x y : Datum) → datum_tree x ≡ datum_tree y → x ≡ y
one_datum x y e = sym (datum_again x) ∙ (ap tree_datum e ∙ datum_again y)

pub one_value : (limit : ℕ) (v w : Value) → (text_within limit (value_tree v)).stop ≡ whole → text_within limit (value_tree v) ≡ text_within limit (value_tree w) ↔ value_of v ≡ value_of w
one_value limit v w h = (
  λ e. let p = piece_whole (text_within limit (value_tree v)) h in one_datum (value_of v) (value_of w) (one_tree_written limit limit 0 0 _ _ _ p (sym e ∙ p)),
  λ e. ap (λ d. text_within limit (datum_tree d)) e,
)

-- ---- each key of a value can be written

named_at : (s : List ℕ) (e : Stop) (b : Out) → e ≢ invalid_key → b.stop ≢ invalid_key → (followed_by s e b).stop ≢ invalid_key
named_at s whole b n k h = k h
named_at s invalid_key b n k h = n refl
named_at s too_deep b n k h = cc
named_at s no_number b n k h = cc

both_named : (a b : Out) → a.stop ≢ invalid_key → b.stop ≢ invalid_key → (a then b).stop ≢ invalid_key
both_named a b n k = named_at a.text a.stop b n k

cond_named : (b : Bool) (o : Out) (s : Stop) → o.stop ≢ invalid_key → s ≢ invalid_key → (cond b o (stopped s)).stop ≢ invalid_key
cond_named true o s n k h = n h
cond_named false o s n k h = k h

closing_named : (b : Bool) (d bracket : ℕ) → (closed_by d b bracket).stop ≢ invalid_key
closing_named true d bracket h = cc
closing_named false d bracket h = cc

opening_named : (limit d bracket : ℕ) → (opened_by limit d bracket).stop ≢ invalid_key
opening_named limit d bracket = cond_named (nat_lt d limit) (piece (bracket ∷ [])) too_deep (λ h. cc) (λ h. cc)

mutual
  pub datum_named : (limit : ℕ) (x : Datum) (d : ℕ) → (out limit (datum_tree x) d).stop ≢ invalid_key
  datum_named limit datum.null d h = cc
  datum_named limit (datum.boolean b) d h = cc
  datum_named limit (datum.number n) d h = cond_named (is_writable n) (piece (number_text n)) no_number (λ h. cc) (λ h. cc) h
  datum_named limit (datum.text u) d h = cc
  datum_named limit (datum.array xs) d h = both_named (opened_by limit d 91) (elements_out limit (items_tree xs) d false) (opening_named limit d 91) (items_named limit xs d false) h
  datum_named limit (datum.object fs) d h = both_named (opened_by limit d 123) (fields_out limit (fields_tree fs) d false) (opening_named limit d 123) (fields_named limit fs d false) h

  items_named : (limit : ℕ) (xs : Items) (d : ℕ) (started : Bool) → (elements_out limit (items_tree xs) d started).stop ≢ invalid_key
  items_named limit no_item d started h = closing_named started d 93 h
  items_named limit (item x xs) d started h =
      both_named (element_out (d + 1) (out limit (datum_tree x) (d + 1))) (elements_out limit (items_tree xs) d true) (both_named (out limit (datum_tree x) (d + 1)) (piece (44 ∷ [])) (datum_named limit x (d + 1)) (λ h. cc)) (items_named limit xs d true) h

  fields_named : (limit : ℕ) (fs : datum.Fields) (d : ℕ) (started : Bool) → (fields_out limit (fields_tree fs) d started).stop ≢ invalid_key
  fields_named limit datum.no_field d started h = closing_named started d 125 h
  fields_named limit (datum.field u x fs) d started h =
      both_named (value_part (out limit (datum_tree x) (d + 1))) (fields_out limit (fields_tree fs) d true) (both_named (out limit (datum_tree x) (d + 1)) (piece (44 ∷ [])) (datum_named limit x (d + 1)) (λ h. cc)) (fields_named limit fs d true) h
