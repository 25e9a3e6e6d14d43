-- A tree whose output is whole is itself again without its marks.
use Rattle.std.proofs.Common.{◌≡◌, ℕ, ◌+◌, List, [], ◌∷◌, ◌++◌, Bool, true, false, refl, ap, ◌∙◌}
use Rattle.json5_grammar.specs.Language.Characters.{left_bracket, left_brace}
use Rattle.json5_write.specs.WrittenTrees.{Written, null, boolean, number, text, array, object, Elements, no_element, element, Fields, no_field, field, named, bad}
use Rattle.json5_write.specs.Out.{Out, Stop, whole, invalid_key, too_deep, no_number, piece, followed_by, ◌then◌, out, elements_out, fields_out, opened_by, element_out, key_part, value_part}
use Rattle.json5_write.specs.EscapeFreeMarks.{marks, element_marks, field_marks, unmarked, unmarked_elements, unmarked_fields}

-- both parts of a whole output are whole
pub record Parts (a b : Out) : Type 0 where
  pub first : a.stop ≡ whole
  pub second : b.stop ≡ whole
  pub text : (a then b).text ≡ a.text ++ b.text

parts_at : (s : List ℕ) (e : Stop) (b : Out) → (followed_by s e b).stop ≡ whole → Parts (record { text = s; stop = e }) b
parts_at s whole b h = record { first = refl; second = h; text = refl }
parts_at s invalid_key b h = absurd (cc)
parts_at s too_deep b h = absurd (cc)
parts_at s no_number b h = absurd (cc)

pub parts : (a b : Out) → (a then b).stop ≡ whole → Parts a b
parts a b h = parts_at a.text a.stop b h

mutual
  pub tree_again : (limit : ℕ) (t : Written) (d : ℕ) → (out limit t d).stop ≡ whole → unmarked (marks t) ≡ t
  tree_again limit null d h = refl
  tree_again limit (boolean b) d h = refl
  tree_again limit (number n) d h = refl
  tree_again limit (text u) d h = refl
  tree_again limit (array ts) d h = ap array (elements_again limit ts d false (parts (opened_by limit d left_bracket) (elements_out limit ts d false) h).second)
  tree_again limit (object fs) d h = ap object (fields_again limit fs d false (parts (opened_by limit d left_brace) (fields_out limit fs d false) h).second)

  pub elements_again : (limit : ℕ) (ts : Elements) (d : ℕ) (started : Bool) → (elements_out limit ts d started).stop ≡ whole → unmarked_elements (element_marks ts) ≡ ts
  elements_again limit no_element d started h = refl
  elements_again limit (element t ts) d started h =
      let p = parts (element_out (d + 1) (out limit t (d + 1))) (elements_out limit ts d true) h in
      let q = parts (out limit t (d + 1)) (piece (44 ∷ [])) p.first in
      ap (λ x. element x (unmarked_elements (element_marks ts))) (tree_again limit t (d + 1) q.first) ∙ ap (element t) (elements_again limit ts d true p.second)

  pub fields_again : (limit : ℕ) (fs : Fields) (d : ℕ) (started : Bool) → (fields_out limit fs d started).stop ≡ whole → unmarked_fields (field_marks fs) ≡ fs
  fields_again limit no_field d started h = refl
  fields_again limit (field (named u) t fs) d started h =
      let p = parts (key_part d (named u)) (value_part (out limit t (d + 1)) then fields_out limit fs d true) h in
      let q = parts (value_part (out limit t (d + 1))) (fields_out limit fs d true) p.second in
      let r = parts (out limit t (d + 1)) (piece (44 ∷ [])) q.first in
      ap (λ x. field (named u) x (unmarked_fields (field_marks fs))) (tree_again limit t (d + 1) r.first) ∙ ap (field (named u) t) (fields_again limit fs d true q.second)
  fields_again limit (field bad t fs) d started h =
      let p = parts (key_part d bad) (value_part (out limit t (d + 1)) then fields_out limit fs d true) h in
      absurd (let e : invalid_key ≡ whole = p.first in cc)
