-- The text of a value in a style is a value of the grammar that means it, where the style's lines and gaps are blank and its strings and keys are spelled.
use Rattle.std.proofs.Common.{◌≡◌, ℕ, ◌+◌, Bool, true, false, List, [], ◌∷◌, ◌++◌, refl, sym, ap, ◌∙◌, subst, append_assoc, append-nil}
use Rattle.json5_grammar.specs.Language.Blanks.{Blanks, empty}
use Rattle.json5_grammar.specs.Language.Strings.{Str}
use Rattle.json5_grammar.specs.Language.Trees as marked
use Rattle.json5_grammar.specs.Language.Trees.{Tree, Trees, Members, no_more, more, no_member, member}
use Rattle.json5_grammar.specs.Language.Values.{Val, is_null, is_true, is_false, is_text, is_empty_array, is_array, is_empty_object, is_object, LastComma, no_last_comma, last_comma, ElementList, last, next, MemberList, last_member, next_member, entry, KeyText}
use Rattle.json5_grammar.proofs.ScalarsWritten.{number_value}
use Rattle.json5_types.specs.ValueMeanings as datum
use Rattle.json5_types.specs.ValueMeanings.{Datum, null, boolean, number, text, array, object, Items, no_item, item, Fields, no_field, field}
use Rattle.json5_read.specs.TreeMeanings.{datum_of, items_of, fields_of}
use Rattle.json5_styles.specs.Styles.{Style, comma_if, closed, laid, items_laid, fields_laid}
use Rattle.json5_styles.specs.LaidBack.{HasNumbers, ItemsHaveNumbers, FieldsHaveNumbers}

pub record IsStyle (s : Style) : Type 0 where
  pub lines : (d : ℕ) → Blanks (s.line d)
  pub gap : Blanks s.gap
  pub strings : (u : List ℕ) → (escape_free : Bool) × Str (s.string u) u escape_free
  pub keys : (u : List ℕ) → (escape_free : Bool) × KeyText (s.key u) u escape_free

pub record Means (x : List ℕ) (d : Datum) : Type 0 where
  pub tree : Tree
  pub value : Val x tree
  pub same : datum_of tree ≡ d

-- elements or members, and the closing bracket
record HasItems (x : List ℕ) (xs : Items) : Type 0 where
  inside : List ℕ
  split : x ≡ inside ++ 93 ∷ []
  trees : Trees
  elements : ElementList inside trees
  same : items_of trees ≡ xs

record HasFields (x : List ℕ) (fs : Fields) : Type 0 where
  inside : List ℕ
  split : x ≡ inside ++ 125 ∷ []
  trees : Members
  members : MemberList inside trees
  same : fields_of trees ≡ fs

-- what stands before a closing bracket: blanks, and a last comma with blanks
record Closing (x : List ℕ) : Type 0 where
  front : List ℕ
  comma : List ℕ
  parts : x ≡ front ++ comma
  blank : Blanks front
  last : LastComma comma

closing : (due : Bool) (w : List ℕ) → Blanks w → Closing (comma_if due ++ w)
closing true w b = record { front = []; comma = 44 ∷ w; parts = refl; blank = empty; last = last_comma b }
closing false w b = record { front = w; comma = []; parts = sym (append-nil w); blank = b; last = no_last_comma }

-- ---- the texts, put together in another way

last_item_split : (l o x v c : List ℕ) (b : ℕ) → x ≡ v ++ c → l ++ (o ++ (x ++ b ∷ [])) ≡ (l ++ (o ++ (v ++ c))) ++ b ∷ []
last_item_split l o x v c b e = rw e (simp append_assoc refl)

next_item_split : (l o r i : List ℕ) (b : ℕ) → r ≡ i ++ b ∷ [] → l ++ (o ++ 44 ∷ r) ≡ (l ++ (o ++ 44 ∷ i)) ++ b ∷ []
next_item_split l o r i b e = rw e (simp append_assoc refl)

last_field_split : (l k m o x v c : List ℕ) (b : ℕ) → x ≡ v ++ c → l ++ (k ++ (m ++ (o ++ (x ++ b ∷ [])))) ≡ ((l ++ (k ++ (m ++ (o ++ v)))) ++ c) ++ b ∷ []
last_field_split l k m o x v c b e = rw e (simp append_assoc refl)

next_field_split : (l k m o z w : List ℕ) (b : ℕ) → z ≡ w ++ b ∷ [] → l ++ (k ++ (m ++ (o ++ z))) ≡ ((l ++ (k ++ (m ++ (o ++ [])))) ++ w) ++ b ∷ []
next_field_split l k m o z w b e = rw e (simp (append_assoc, append-nil) refl)

-- ---- values

mutual
  pub means : (s : Style) → IsStyle s → (d : ℕ) (x : Datum) → HasNumbers x → Means (laid s d x) x
  means s ok d null h = record { tree = marked.null; value = is_null; same = refl }
  means s ok d (boolean true) h = record { tree = marked.boolean true; value = is_true; same = refl }
  means s ok d (boolean false) h = record { tree = marked.boolean false; value = is_false; same = refl }
  means s ok d (number n) h = record { tree = marked.number n; value = number_value n h; same = refl }
  means s ok d (text u) h =
      let k = ok.strings u in
      record { tree = marked.text u k.0; value = is_text k.1; same = refl }
  means s ok d (array no_item) h = record { tree = marked.array no_more; value = is_empty_array empty; same = refl }
  means s ok d (array (item x xs)) h =
      let e = items_read s ok d x xs (means s ok (d + 1) x h.0) h.1 in
      record { tree = marked.array e.trees; value = subst (λ l. Val (91 ∷ l) (marked.array e.trees)) (sym e.split) (is_array e.elements); same = ap datum.array e.same }
  means s ok d (object no_field) h = record { tree = marked.object no_member; value = is_empty_object empty; same = refl }
  means s ok d (object (field u x fs)) h =
      let e = fields_read s ok d u x fs (means s ok (d + 1) x h.0) h.1 in
      record { tree = marked.object e.trees; value = subst (λ l. Val (123 ∷ l) (marked.object e.trees)) (sym e.split) (is_object e.members); same = ap datum.object e.same }

  items_read : (s : Style) → IsStyle s → (d : ℕ) (x : Datum) (xs : Items) → Means (laid s (d + 1) x) x → ItemsHaveNumbers xs → HasItems (s.line (d + 1) ++ (laid s (d + 1) x ++ items_laid s d true xs)) (item x xs)
  items_read s ok d x no_item v k =
      let c = closing s.last_comma (s.line d) (ok.lines d) in
      record {
        inside = s.line (d + 1) ++ (laid s (d + 1) x ++ (c.front ++ c.comma));
        split = last_item_split (s.line (d + 1)) (laid s (d + 1) x) (closed s d true) c.front c.comma 93 c.parts;
        trees = more v.tree no_more;
        elements = last (ok.lines (d + 1)) v.value c.blank c.last;
        same = ap (λ y. item y no_item) v.same;
      }
  items_read s ok d x (item y ys) v k =
      let e = items_read s ok d y ys (means s ok (d + 1) y k.0) k.1 in
      record {
        inside = s.line (d + 1) ++ (laid s (d + 1) x ++ 44 ∷ e.inside);
        split = next_item_split (s.line (d + 1)) (laid s (d + 1) x) _ e.inside 93 e.split;
        trees = more v.tree e.trees;
        elements = next (ok.lines (d + 1)) v.value empty e.elements;
        same = ap (λ y. item y (items_of e.trees)) v.same ∙ ap (item x) e.same;
      }

  fields_read : (s : Style) → IsStyle s → (d : ℕ) (u : List ℕ) (x : Datum) (fs : Fields) → Means (laid s (d + 1) x) x → FieldsHaveNumbers fs
      → HasFields (s.line (d + 1) ++ (s.key u ++ 58 ∷ (s.gap ++ (laid s (d + 1) x ++ fields_laid s d true fs)))) (field u x fs)
  fields_read s ok d u x no_field v k =
      let n = ok.keys u in
      let c = closing s.last_comma (s.line d) (ok.lines d) in
      record {
        inside = (s.line (d + 1) ++ (s.key u ++ 58 ∷ (s.gap ++ (laid s (d + 1) x ++ c.front)))) ++ c.comma;
        split = last_field_split (s.line (d + 1)) (s.key u) (58 ∷ s.gap) (laid s (d + 1) x) (closed s d true) c.front c.comma 125 c.parts;
        trees = member u n.0 v.tree no_member;
        members = last_member (entry (ok.lines (d + 1)) n.1 empty ok.gap v.value c.blank) c.last;
        same = ap (λ y. field u y no_field) v.same;
      }
  fields_read s ok d u x (field w y gs) v k =
      let n = ok.keys u in
      let e = fields_read s ok d w y gs (means s ok (d + 1) y k.0) k.1 in
      record {
        inside = (s.line (d + 1) ++ (s.key u ++ 58 ∷ (s.gap ++ (laid s (d + 1) x ++ [])))) ++ 44 ∷ e.inside;
        split = next_field_split (s.line (d + 1)) (s.key u) (58 ∷ s.gap) (laid s (d + 1) x) _ (44 ∷ e.inside) 125 (ap (λ y. 44 ∷ y) e.split);
        trees = member u n.0 v.tree e.trees;
        members = next_member (entry (ok.lines (d + 1)) n.1 empty ok.gap v.value empty) e.members;
        same = ap (λ y. field u y (fields_of e.trees)) v.same ∙ ap (field u x) e.same;
      }
