-- What is written as JSON is in its grammar.
use Rattle.std.proofs.Common.{◌≡◌, ℕ, zero, suc, ◌+◌, ◌*◌, ◌<◌, true, false, nat_lt, List, [], ◌∷◌, ◌++◌, replicate, refl, sym, ap, subst, append_assoc, append-nil, arith}
use Rattle.std.specs.Prelude.{◌==◌}
use Rattle.std.proofs.lemmas.Bool.{and_parts}
use Rattle.std.proofs.lemmas.Bool.Decides.{nat_tests}
use Rattle.json5_grammar.specs.Language.Characters.{no_char, char}
use Rattle.json5_grammar.proofs.CommonLemmas.{by_test}
use Rattle.json5_types.specs.ValueMeanings.{Datum, null, boolean, number, text, array, object, Items, no_item, item, Fields, no_field, field}
use Rattle.json5_styles.specs.declared.layout.Layout.{Layout}
use Rattle.json5_styles.specs.declared.layout.Layout.TheVariants as layout
use Rattle.json5_styles.specs.declared.layout.Spelling.TheVariants as spelling
use Rattle.json5_styles.specs.Styles.{Style, laid, items_laid, fields_laid}
use Rattle.json5_styles.specs.Json as json
use Rattle.json5_styles.specs.Json.{JsonBlanks, JsonChars, unescaped, letter, code, is_unescaped, JsonString, quoted, JsonValue, is_null, is_true, is_false, is_number, is_string, is_empty_array, is_array, is_empty_object, is_object, JsonElements, last, next, JsonMembers, last_member, next_member, entry, JsonText}
use Rattle.json5_styles.specs.JsonTexts.{json_escaped, json_escaped_all, json_string, is_json, items_are_json, fields_are_json}
use Rattle.json5_styles.specs.Layouts.{line_in, gap_in, style_of, json_text}
use Rattle.json5_styles.specs.LaidBack.{HasNumbers, ItemsHaveNumbers, FieldsHaveNumbers}
use Rattle.json5_styles.proofs.JsonNumbers.{number_is}
use Rattle.json5_styles.proofs.Spelled.{control_digits}

-- ---- blanks

repeated : (c n : ℕ) → json.is_json_blank c ≡ true → JsonBlanks (replicate n c)
repeated c zero h = no_char
repeated c (suc n) h = char h (repeated c n h)

line_blank : (l : Layout) (d : ℕ) → JsonBlanks (line_in l d)
line_blank layout.Compact d = no_char
line_blank (layout.Spaces n) d = char refl (repeated 32 (n * d) refl)
line_blank layout.Tabs d = char refl (repeated 9 d refl)

gap_blank : (l : Layout) → JsonBlanks (gap_in l)
gap_blank layout.Compact = no_char
gap_blank (layout.Spaces n) = char refl no_char
gap_blank layout.Tabs = char refl no_char

-- ---- strings

below_space : (c : ℕ) → nat_lt c 32 ≡ true → c < 32
below_space c h = grind (arith, nat_tests)

plain : (c : ℕ) → (c == 34) ≡ false → (c == 92) ≡ false → nat_lt c 32 ≡ false → is_unescaped c ≡ true
plain c a b d = grind (arith, nat_tests)

one_char : (c : ℕ) (s : List ℕ) → JsonChars s → JsonChars (json_escaped c ++ s)
one_char c s w =
    by_test P (c == 34) _ _ (λ t. letter refl w)
    (λ not_q. by_test P (c == 92) _ _ (λ t. letter refl w)
    (λ not_slash. by_test P (c == 8) _ _ (λ t. letter refl w)
    (λ not_bs. by_test P (c == 12) _ _ (λ t. letter refl w)
    (λ not_ff. by_test P (c == 10) _ _ (λ t. letter refl w)
    (λ not_lf. by_test P (c == 13) _ _ (λ t. letter refl w)
    (λ not_cr. by_test P (c == 9) _ _ (λ t. letter refl w)
    (λ not_tab. by_test P (nat_lt c 32) _ _ (λ t. code (control_digits c (below_space c t)) w)
    (λ not_low. unescaped (plain c not_q not_slash not_low) w))))))))
  where
    P : List ℕ → Type 0
    P z = JsonChars (z ++ s)

all_chars : (u : List ℕ) → JsonChars (json_escaped_all u)
all_chars [] = json.no_char
all_chars (c ∷ u) = one_char c (json_escaped_all u) (all_chars u)

pub string_is : (u : List ℕ) → JsonString (json_string u)
string_is u = quoted (all_chars u)

-- ---- values

record HasItems (x : List ℕ) : Type 0 where
  inside : List ℕ
  split : x ≡ inside ++ 93 ∷ []
  elements : JsonElements inside

record HasFields (x : List ℕ) : Type 0 where
  inside : List ℕ
  split : x ≡ inside ++ 125 ∷ []
  members : JsonMembers inside

last_item_split : (l o w : List ℕ) (b : ℕ) → l ++ (o ++ (w ++ b ∷ [])) ≡ (l ++ (o ++ w)) ++ b ∷ []
last_item_split l o w b = simp append_assoc refl

next_item_split : (l o r i : List ℕ) (b : ℕ) → r ≡ i ++ b ∷ [] → l ++ (o ++ 44 ∷ r) ≡ (l ++ (o ++ 44 ∷ i)) ++ b ∷ []
next_item_split l o r i b e = rw e (simp append_assoc refl)

last_field_split : (l k m o w : List ℕ) (b : ℕ) → l ++ (k ++ (m ++ (o ++ (w ++ b ∷ [])))) ≡ (l ++ (k ++ (m ++ (o ++ w)))) ++ b ∷ []
last_field_split l k m o w b = simp append_assoc refl

next_field_split : (l k m o z w : List ℕ) (b : ℕ) → z ≡ w ++ b ∷ [] → l ++ (k ++ (m ++ (o ++ z))) ≡ ((l ++ (k ++ (m ++ (o ++ [])))) ++ w) ++ b ∷ []
next_field_split l k m o z w b e = rw e (simp (append_assoc, append-nil) refl)

abbrev style : Layout → Style
style l = style_of spelling.Json l

mutual
  pub value_is : (l : Layout) (d : ℕ) (x : Datum) → HasNumbers x → is_json x ≡ true → JsonValue (laid (style l) d x)
  value_is l d null h k = is_null
  value_is l d (boolean true) h k = is_true
  value_is l d (boolean false) h k = is_false
  value_is l d (number n) h k = is_number (number_is n h k)
  value_is l d (text u) h k = is_string (string_is u)
  value_is l d (array no_item) h k = is_empty_array no_char
  value_is l d (array (item x xs)) h k =
      let b = and_parts (is_json x) (items_are_json xs) k in
      let e = items_are l d x xs (value_is l (d + 1) x h.0 b.0) h.1 b.1 in
      subst (λ z. JsonValue (91 ∷ z)) (sym e.split) (is_array e.elements)
  value_is l d (object no_field) h k = is_empty_object no_char
  value_is l d (object (field u x fs)) h k =
      let b = and_parts (is_json x) (fields_are_json fs) k in
      let e = fields_are l d u x fs (value_is l (d + 1) x h.0 b.0) h.1 b.1 in
      subst (λ z. JsonValue (123 ∷ z)) (sym e.split) (is_object e.members)

  items_are : (l : Layout) (d : ℕ) (x : Datum) (xs : Items) → JsonValue (laid (style l) (d + 1) x) → ItemsHaveNumbers xs → items_are_json xs ≡ true → HasItems (line_in l (d + 1) ++ (laid (style l) (d + 1) x ++ items_laid (style l) d true xs))
  items_are l d x no_item v k i =
      record { inside = line_in l (d + 1) ++ (laid (style l) (d + 1) x ++ line_in l d); split = last_item_split (line_in l (d + 1)) (laid (style l) (d + 1) x) (line_in l d) 93; elements = last (line_blank l (d + 1)) v (line_blank l d) }
  items_are l d x (item y ys) v k i =
      let b = and_parts (is_json y) (items_are_json ys) i in
      let e = items_are l d y ys (value_is l (d + 1) y k.0 b.0) k.1 b.1 in
      record { inside = line_in l (d + 1) ++ (laid (style l) (d + 1) x ++ 44 ∷ e.inside); split = next_item_split (line_in l (d + 1)) (laid (style l) (d + 1) x) _ e.inside 93 e.split; elements = next (line_blank l (d + 1)) v no_char e.elements }

  fields_are : (l : Layout) (d : ℕ) (u : List ℕ) (x : Datum) (fs : Fields) → JsonValue (laid (style l) (d + 1) x) → FieldsHaveNumbers fs → fields_are_json fs ≡ true
      → HasFields (line_in l (d + 1) ++ (json_string u ++ 58 ∷ (gap_in l ++ (laid (style l) (d + 1) x ++ fields_laid (style l) d true fs))))
  fields_are l d u x no_field v k i =
      record {
        inside = line_in l (d + 1) ++ (json_string u ++ 58 ∷ (gap_in l ++ (laid (style l) (d + 1) x ++ line_in l d)));
        split = last_field_split (line_in l (d + 1)) (json_string u) (58 ∷ gap_in l) (laid (style l) (d + 1) x) (line_in l d) 125;
        members = last_member (entry (line_blank l (d + 1)) (string_is u) no_char (gap_blank l) v (line_blank l d));
      }
  fields_are l d u x (field w y gs) v k i =
      let b = and_parts (is_json y) (fields_are_json gs) i in
      let e = fields_are l d w y gs (value_is l (d + 1) y k.0 b.0) k.1 b.1 in
      record {
        inside = (line_in l (d + 1) ++ (json_string u ++ 58 ∷ (gap_in l ++ (laid (style l) (d + 1) x ++ [])))) ++ 44 ∷ e.inside;
        split = next_field_split (line_in l (d + 1)) (json_string u) (58 ∷ gap_in l) (laid (style l) (d + 1) x) _ (44 ∷ e.inside) 125 (ap (λ y. 44 ∷ y) e.split);
        members = next_member (entry (line_blank l (d + 1)) (string_is u) no_char (gap_blank l) v no_char) e.members;
      }

pub text_is : (l : Layout) (x : Datum) → HasNumbers x → is_json x ≡ true → JsonText (json_text l x)
text_is l x h k = record { before = []; text = json_text l x; after = []; whole = sym (append-nil (json_text l x)); front = no_char; value = value_is l 0 x h k; back = no_char }
