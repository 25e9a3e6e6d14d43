-- What is written whole is a value of the grammar, whose tree is the marked one.
use Rattle.std.proofs.Common.{◌≡◌, ℕ, ◌+◌, ◌*◌, zero, suc, List, [], ◌∷◌, ◌++◌, Bool, true, false, cond, ◌||◌, replicate, nat_lt, refl, sym, ap, ◌∙◌, subst, append_assoc, append-nil}
use Rattle.json5_grammar.specs.Language.Blanks.{Blanks, empty, blank}
use Rattle.json5_grammar.specs.Written.Quoting.{quoted_text, is_name, key_text}
use Rattle.json5_grammar.specs.Language.Trees as marked
use Rattle.json5_grammar.specs.Language.Trees.{Tree, Trees, Members, no_more, more, no_member, member}
use Rattle.json5_grammar.specs.Language.Values.{Val, is_null, is_true, is_false, is_empty_array, is_array, is_empty_object, is_object, ElementList, last, next, MemberList, last_member, next_member, Member, entry, KeyText, string_key, name_key, last_comma}
use Rattle.json5_grammar.proofs.ScalarsWritten.{number_value, text_value}
use Rattle.json5_grammar.proofs.TextsWritten.{quoted_is, name_is}
use Rattle.json5_write.specs.WrittenTrees.{Written, null, boolean, number, text, array, object, Elements, no_element, element, Fields, no_field, field, named, bad}
use Rattle.json5_write.specs.Out.{Out, whole, invalid_key, piece, stopped, too_deep, ◌then◌, line, out, elements_out, fields_out, opened_by, element_out, key_part, value_part}
use Rattle.json5_write.specs.EscapeFreeMarks.{marks, element_marks, field_marks, unmarked, is_escape_free_text, is_escape_free_key}
use Rattle.json5_write.proofs.WritableNumbers.{number_piece, number_whole}
use Rattle.json5_write.proofs.Unmarked.{parts, tree_again}
use Rattle.json5_grammar.proofs.OneTree.{one_front}

-- a collection that is whole begins with its bracket
opened_at : (b : Bool) (bracket : ℕ) → (cond b (piece (bracket ∷ [])) (stopped too_deep)).stop ≡ whole → (cond b (piece (bracket ∷ [])) (stopped too_deep)).text ≡ bracket ∷ []
opened_at true bracket h = refl
opened_at false bracket h = absurd (cc)

opened : (limit d bracket : ℕ) (rest : Out) → (opened_by limit d bracket then rest).stop ≡ whole → (opened_by limit d bracket then rest).text ≡ bracket ∷ rest.text
opened limit d bracket rest h =
    let p = parts (opened_by limit d bracket) rest h in
    p.text ∙ ap (λ l. l ++ rest.text) (opened_at (nat_lt d limit) bracket p.first)

spaces : (n : ℕ) → Blanks (replicate n 32)
spaces zero = empty
spaces (suc n) = blank refl (spaces n)

line_blanks : (d : ℕ) → Blanks (line d)
line_blanks d = blank refl (spaces (2 * d))

-- members and the closing bracket
record HasElements (x : List ℕ) (ts : Trees) : Type 0 where
  inside : List ℕ
  split : x ≡ inside ++ 93 ∷ []
  members : ElementList inside ts

record HasMembers (x : List ℕ) (ps : Members) : Type 0 where
  inside : List ℕ
  split : x ≡ inside ++ 125 ∷ []
  entries : MemberList inside ps

list_value : (x : List ℕ) (ts : Trees) → HasElements x ts → Val (91 ∷ x) (marked.array ts)
list_value x ts h = subst (λ l. Val (91 ∷ l) (marked.array ts)) (sym h.split) (is_array h.members)

object_value : (x : List ℕ) (ps : Members) → HasMembers x ps → Val (123 ∷ x) (marked.object ps)
object_value x ps h = subst (λ l. Val (123 ∷ l) (marked.object ps)) (sym h.split) (is_object h.entries)

-- the comma after a member goes to what follows
shift : (a r rest : List ℕ) (b : ℕ) → r ≡ rest ++ b ∷ [] → (a ++ 44 ∷ []) ++ r ≡ (a ++ 44 ∷ rest) ++ b ∷ []
shift a r rest b e = append_assoc a (44 ∷ []) r ∙ (ap (λ z. a ++ 44 ∷ z) e ∙ sym (append_assoc a (44 ∷ rest) (b ∷ [])))

before_comma : (l o : List ℕ) → l ++ (o ++ 44 ∷ []) ≡ (l ++ o) ++ 44 ∷ []
before_comma l o = sym (append_assoc l o (44 ∷ []))

last_element : (l o w : List ℕ) (t : Tree) → Blanks l → Val o t → Blanks w → HasElements ((l ++ (o ++ 44 ∷ [])) ++ (w ++ 93 ∷ [])) (more t no_more)
last_element l o w t b v c = record {
  inside = l ++ (o ++ 44 ∷ w);
  split = ap (λ z. z ++ (w ++ 93 ∷ [])) (before_comma l o) ∙ shift (l ++ o) _ w 93 refl ∙ ap (λ z. z ++ 93 ∷ []) (append_assoc l o (44 ∷ w));
  members = last b v empty (last_comma c);
}

next_element : (l o r : List ℕ) (t : Tree) (ts : Trees) → Blanks l → Val o t → HasElements r ts → HasElements ((l ++ (o ++ 44 ∷ [])) ++ r) (more t ts)
next_element l o r t ts b v h = record {
  inside = l ++ (o ++ 44 ∷ h.inside);
  split = ap (λ z. z ++ r) (before_comma l o) ∙ shift (l ++ o) r h.inside 93 h.split ∙ ap (λ z. z ++ 93 ∷ []) (append_assoc l o (44 ∷ h.inside));
  members = next b v empty h.members;
}

last_entry : (p w u : List ℕ) (escape_free : Bool) (t : Tree) → Member p u escape_free t → Blanks w → HasMembers ((p ++ 44 ∷ []) ++ (w ++ 125 ∷ [])) (member u escape_free t no_member)
last_entry p w u escape_free t e c = record { inside = p ++ 44 ∷ w; split = shift p _ w 125 refl; entries = last_member e (last_comma c) }

next_entry : (p r u : List ℕ) (escape_free : Bool) (t : Tree) (ps : Members) → Member p u escape_free t → HasMembers r ps → HasMembers ((p ++ 44 ∷ []) ++ r) (member u escape_free t ps)
next_entry p r u escape_free t ps e h = record { inside = p ++ 44 ∷ h.inside; split = shift p r h.inside 125 h.split; entries = next_member e h.entries }

-- a key as it is written
key_by : (u : List ℕ) (b : Bool) → is_name u ≡ b → KeyText (cond b u (quoted_text u)) u (b || is_escape_free_text u)
key_by u true h = name_key (name_is u h)
key_by u false h = string_key (quoted_is u)

pub written_key : (u : List ℕ) → KeyText (key_text u) u (is_escape_free_key u)
written_key u = key_by u (is_name u) refl

-- a field without its comma
abbrev entry_text : ℕ → List ℕ → List ℕ → List ℕ
entry_text d u o = line d ++ (key_text u ++ 58 ∷ 32 ∷ (o ++ []))

written_entry : (d : ℕ) (u o : List ℕ) (t : Tree) → Val o t → Member (entry_text d u o) u (is_escape_free_key u) t
written_entry d u o t v = entry (line_blanks d) (written_key u) empty (blank refl empty) v empty

-- a field with its comma
with_comma : (l k o r : List ℕ) → (l ++ k) ++ ((58 ∷ 32 ∷ (o ++ 44 ∷ [])) ++ r) ≡ ((l ++ (k ++ 58 ∷ 32 ∷ (o ++ []))) ++ 44 ∷ []) ++ r
with_comma l k o r = simp (append_assoc, append-nil) refl

-- a whole list begins with its first element, o, and continues with r
record Element (d : ℕ) (o r : Out) : Type 0 where
  first : o.stop ≡ whole
  others : r.stop ≡ whole
  text : (element_out d o then r).text ≡ (line d ++ (o.text ++ 44 ∷ [])) ++ r.text

first_element : (d : ℕ) (o r : Out) → (element_out d o then r).stop ≡ whole → Element d o r
first_element d o r h =
    let p = parts (element_out d o) r h in
    let q = parts o (piece (44 ∷ [])) p.first in
    record { first = q.first; others = p.second; text = p.text ∙ ap (λ l. (line d ++ l) ++ r.text) q.text }

-- a whole object begins with the field of the key u and the value o, and continues with r
record Field (d : ℕ) (u : List ℕ) (o r : Out) : Type 0 where
  value : o.stop ≡ whole
  others : r.stop ≡ whole
  text : (key_part d (named u) then (value_part o then r)).text ≡ (entry_text d u o.text ++ 44 ∷ []) ++ r.text

first_field : (d : ℕ) (u : List ℕ) (o r : Out) → (key_part d (named u) then (value_part o then r)).stop ≡ whole → Field d u o r
first_field d u o r h =
    let p = parts (value_part o) r h in
    let q = parts o (piece (44 ∷ [])) p.first in
    record { value = q.first; others = p.second; text = ap (λ l. (line d ++ key_text u) ++ l) (p.text ∙ ap (λ l. (58 ∷ 32 ∷ l) ++ r.text) q.text) ∙ with_comma (line d) (key_text u) o.text r.text }

mutual
  pub read_back : (limit : ℕ) (t : Written) (d : ℕ) → (out limit t d).stop ≡ whole → Val (out limit t d).text (marks t)
  read_back limit null d h = is_null
  read_back limit (boolean true) d h = is_true
  read_back limit (boolean false) d h = is_false
  read_back limit (number n) d h = let k = number_whole n h in subst (λ o. Val o.text (marks (number n))) (sym (number_piece n k)) (number_value n k)
  read_back limit (text u) d h = text_value u
  read_back limit (array no_element) d h = subst (λ l. Val l (marks (array no_element))) (sym (opened limit d 91 (piece (93 ∷ [])) h)) (is_empty_array empty)
  read_back limit (array (element t ts)) d h =
      let p = parts (opened_by limit d 91) (elements_out limit (element t ts) d false) h in
      let e = first_element (d + 1) (out limit t (d + 1)) (elements_out limit ts d true) p.second in
      let m = elements_read limit ts d (out limit t (d + 1)).text (marks t) (read_back limit t (d + 1) e.first) e.others in
      subst (λ l. Val l (marks (array (element t ts)))) (sym (opened limit d 91 (elements_out limit (element t ts) d false) h ∙ ap (λ l. 91 ∷ l) e.text)) (list_value _ _ m)
  read_back limit (object no_field) d h = subst (λ l. Val l (marks (object no_field))) (sym (opened limit d 123 (piece (125 ∷ [])) h)) (is_empty_object empty)
  read_back limit (object (field (named u) t fs)) d h =
      let p = parts (opened_by limit d 123) (fields_out limit (field (named u) t fs) d false) h in
      let e = first_field (d + 1) u (out limit t (d + 1)) (fields_out limit fs d true) p.second in
      let m = fields_read limit fs d _ u (is_escape_free_key u) (marks t) (written_entry (d + 1) u _ (marks t) (read_back limit t (d + 1) e.value)) e.others in
      subst (λ l. Val l (marks (object (field (named u) t fs)))) (sym (opened limit d 123 (fields_out limit (field (named u) t fs) d false) h ∙ ap (λ l. 123 ∷ l) e.text)) (object_value _ _ m)
  read_back limit (object (field bad t fs)) d h =
      let p = parts (opened_by limit d 123) (fields_out limit (field bad t fs) d false) h in
      absurd (let e : invalid_key ≡ whole = p.second in cc)

  elements_read : (limit : ℕ) (ts : Elements) (d : ℕ) (o : List ℕ) (t : Tree) → Val o t → (elements_out limit ts d true).stop ≡ whole
      → HasElements ((line (d + 1) ++ (o ++ 44 ∷ [])) ++ (elements_out limit ts d true).text) (more t (element_marks ts))
  elements_read limit no_element d o t v h = last_element (line (d + 1)) o (line d) t (line_blanks (d + 1)) v (line_blanks d)
  elements_read limit (element u us) d o t v h =
      let e = first_element (d + 1) (out limit u (d + 1)) (elements_out limit us d true) h in
      let m = elements_read limit us d (out limit u (d + 1)).text (marks u) (read_back limit u (d + 1) e.first) e.others in
      next_element (line (d + 1)) o _ t _ (line_blanks (d + 1)) v (subst (λ l. HasElements l (element_marks (element u us))) (sym e.text) m)

  fields_read : (limit : ℕ) (fs : Fields) (d : ℕ) (p u : List ℕ) (escape_free : Bool) (t : Tree) → Member p u escape_free t → (fields_out limit fs d true).stop ≡ whole → HasMembers ((p ++ 44 ∷ []) ++ (fields_out limit fs d true).text) (member u escape_free t (field_marks fs))
  fields_read limit no_field d p u escape_free t v h = last_entry p (line d) u escape_free t v (line_blanks d)
  fields_read limit (field (named k) s fs) d p u escape_free t v h =
      let e = first_field (d + 1) k (out limit s (d + 1)) (fields_out limit fs d true) h in
      let m = fields_read limit fs d _ k (is_escape_free_key k) (marks s) (written_entry (d + 1) k _ (marks s) (read_back limit s (d + 1) e.value)) e.others in
      next_entry p _ u escape_free t _ v (subst (λ l. HasMembers l (field_marks (field (named k) s fs))) (sym e.text) m)
  fields_read limit (field bad s fs) d p u escape_free t v h = absurd (let f : invalid_key ≡ whole = h in cc)

-- ---- whole outputs

ends : (o : Out) (s : List ℕ) → o ≡ piece s → o.stop ≡ whole
ends o s e = ap (λ x. x.stop) e

pub whole_value : (limit d : ℕ) (t : Written) (s : List ℕ) → out limit t d ≡ piece s → Val s (marks t)
whole_value limit d t s e = subst (λ o. Val o.text (marks t)) e (read_back limit t d (ends (out limit t d) s e))

pub one_tree_written : (limit other d e : ℕ) (t u : Written) (s : List ℕ) → out limit t d ≡ piece s → out other u e ≡ piece s → t ≡ u
one_tree_written limit other d e t u s h k =
    let f = one_front s s [] [] _ _ (whole_value limit d t s h) (whole_value other e u s k) tt tt refl in
    sym (tree_again limit t d (ends (out limit t d) s h)) ∙ (ap unmarked f.1 ∙ tree_again other u e (ends (out other u e) s k))
