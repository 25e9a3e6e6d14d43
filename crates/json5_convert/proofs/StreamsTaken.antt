-- A document that was read stays the next one, whatever follows.
use Rattle.std.proofs.Common.{◌≡◌, ◌≢◌, ◌⊎◌, inl, inr, ℕ, Bool, true, false, List, [], ◌∷◌, ◌++◌, drop, refl, sym, ap, ◌∙◌, subst, append_assoc, append-nil, Option, Some, None}
use Rattle.std.specs.Prelude.{slice_get, is_some, option_map, IsUtf8}
use Rattle.std.specs.Str.{chars, all_scalars}
use Rattle.std.specs.Io.KnownBytes.{Keeps, IsAtEnd, prepend_known}
use Rattle.std.proofs.lemmas.Str.{chars-append, chars-nil, IsUtf8-drop}
use Rattle.json5_grammar.specs.Language.Blanks.{Blanks, Gap}
use Rattle.json5_grammar.specs.Language.Strings.{quoted}
use Rattle.json5_grammar.specs.Language.Trees.{Tree}
use Rattle.json5_grammar.specs.Language.Values.{Stops, Val, is_null, is_true, is_false, is_number, is_text, is_empty_array, is_array, is_empty_object, is_object}
use Rattle.json5_grammar.proofs.ArraysRead.{array_stops}
use Rattle.json5_grammar.proofs.ObjectsRead.{object_stops}
use Rattle.json5_grammar.proofs.ValuesSound.{text_stops}
use Rattle.json5_types.specs.declared.value.Value.{Value}
use Rattle.json5_types.specs.ValueKinds.{number_in}
use Rattle.json5_types.specs.ValueMeanings.{value_of}
use Rattle.json5_tokens.specs.Cursor.{Cursor, offset_of}
use Rattle.json5_read.specs.TreeMeanings.{datum_of}
use Rattle.json5_walk.proofs.Calls.{offset_seam, rest_unread}
use Rattle.json5_convert.specs.Streams.{ReadsFront, TakesFront, TakesValue, TakesKnown, Decides, IsSettled, goes_on, ends_itself}

-- ---- a value that is no number

no_number_stops : {s : List ℕ} {t : Tree} → Val s t → is_some (number_in (datum_of t)) ≡ false → (r : List ℕ) → Stops s r
no_number_stops is_null e [] = tt
no_number_stops is_null e (c ∷ r) = refl
no_number_stops is_true e [] = tt
no_number_stops is_true e (c ∷ r) = refl
no_number_stops is_false e [] = tt
no_number_stops is_false e (c ∷ r) = refl
no_number_stops (is_number k) e r = absurd (cc)
no_number_stops (is_text k) e r = text_stops r k
no_number_stops (is_empty_array {w = w} b) e r = array_stops (w ++ 93 ∷ []) r
no_number_stops (is_array {m = m} k) e r = array_stops (m ++ 93 ∷ []) r
no_number_stops (is_empty_object {w = w} b) e r = object_stops (w ++ 125 ∷ []) r
no_number_stops (is_object {m = m} k) e r = object_stops (m ++ 125 ∷ []) r

no_number_begins : {s : List ℕ} {t : Tree} → Val s t → is_some (number_in (datum_of t)) ≡ false → s ≢ []
no_number_begins is_null e n = absurd (cc)
no_number_begins is_true e n = absurd (cc)
no_number_begins is_false e n = absurd (cc)
no_number_begins (is_number k) e n = absurd (cc)
no_number_begins (is_text (quoted q i)) e n = absurd (cc)
no_number_begins (is_empty_array b) e n = absurd (cc)
no_number_begins (is_array k) e n = absurd (cc)
no_number_begins (is_empty_object b) e n = absurd (cc)
no_number_begins (is_object k) e n = absurd (cc)

-- ---- more behind the text

before_more : {w r : List ℕ} → r ≢ [] → Gap w r → Blanks w
before_more n (Gap.blanks b) = b
before_more n (Gap.at_end l) = absurd (n refl)

not_both : (xs ys : List ℕ) → (xs ≢ []) ⊎ (ys ≢ []) → xs ++ ys ≢ []
not_both [] ys (inl n) e = n refl
not_both [] ys (inr n) e = n e
not_both (x ∷ xs) ys n e = absurd (cc)

longer : (x y behind : List ℕ) (v : Value) (f : ReadsFront x y v) → (f.phrase ≢ []) ⊎ (y ≢ []) → Stops f.phrase (y ++ behind) → ReadsFront (x ++ behind) (y ++ behind) v
longer x y behind v f n stops = record {
  blanks = f.blanks;
  phrase = f.phrase;
  split = ap (λ z. z ++ behind) f.split ∙ append_assoc f.blanks (f.phrase ++ y) behind ∙ ap (λ z. f.blanks ++ z) (append_assoc f.phrase y behind);
  blank = Gap.blanks (before_more (not_both f.phrase y n) f.blank);
  tree = f.tree;
  value = f.value;
  stops = stops;
  shallow = f.shallow;
  means = f.means;
}

stops_on : (s y behind : List ℕ) (c : ℕ) → slice_get y 0 ≡ Some c → Stops s y → Stops s (y ++ behind)
stops_on s [] behind c e h = absurd (cc)
stops_on s (d ∷ y) behind c e h = h

there : (y : List ℕ) (c : ℕ) → slice_get y 0 ≡ Some c → y ≢ []
there [] c e n = absurd (cc)
there (d ∷ y) c e n = absurd (cc)

settled : (x y behind : List ℕ) (r : Option Value) → IsSettled y r → TakesFront x y r → TakesFront (x ++ behind) (y ++ behind) r
settled x y behind None (goes_on c e) (l, none) = absurd (there y c e none)
settled x y behind (Some v) (goes_on c e) f = longer x y behind v f (inr (there y c e)) (stops_on f.phrase y behind c e f.stops)
settled x y behind (Some v) (ends_itself e) f =
    let is_no : is_some (number_in (datum_of f.tree)) ≡ false = ap (λ d. is_some (number_in d)) (sym f.means) ∙ e in
    longer x y behind v f (inl (no_number_begins f.value is_no)) (no_number_stops f.value is_no (y ++ behind))

nothing_more : (x y behind : List ℕ) (r : Option Value) → behind ≡ [] → TakesFront x y r → TakesFront (x ++ behind) (y ++ behind) r
nothing_more x y behind r e f =
    subst (λ z. TakesFront (x ++ z) (y ++ z) r) (sym e) (subst (λ z. TakesFront z (y ++ []) r) (sym (append-nil x)) (subst (λ z. TakesFront x z r) (sym (append-nil y)) f))

-- ---- in bytes

pub decided : (text : List ℕ) (is_whole : Bool) (old now : Cursor) (r : Option Value) (offset : ℕ) → IsUtf8 text → old ≡ record { input = chars text; unread = chars text } → TakesValue old now r
    → (is_whole ≡ true) ⊎ IsSettled now.unread r → ((before : List ℕ) × (now.input ≡ before ++ now.unread)) → all_scalars now.unread ≡ true → offset ≡ offset_of now → Decides text is_whole (r, offset)
decided text is_whole old now r offset u start (f, same) how suffix s n =
    let i : chars text ≡ now.input = sym (same ∙ ap (λ (c : Cursor). c.input) start) in
    let front : TakesFront (chars text) now.unread r = subst (λ z. TakesFront z now.unread r) (ap (λ (c : Cursor). c.unread) start) f in
    let is : chars (drop offset text) ≡ now.unread = rest_unread now text offset u i suffix s n (drop offset text) refl in
    record {
      between = offset_seam now text offset u i suffix s n;
      takes = λ behind none. subst (λ z. TakesFront (chars text ++ behind) (z ++ behind) r) (sym is) (by_case behind none how front);
    }
  where
    by_case : (behind : List ℕ) → (is_whole ≡ true → behind ≡ []) → (is_whole ≡ true) ⊎ IsSettled now.unread r → TakesFront (chars text) now.unread r → TakesFront (chars text ++ behind) (now.unread ++ behind) r
    by_case behind none (inl w) front = nothing_more (chars text) now.unread behind r (none w) front
    by_case behind none (inr h) front = settled (chars text) now.unread behind r h front

none_read : (ended : Bool) (b : List ℕ) → (ended ≡ true → b ≡ []) → ended ≡ true → chars b ≡ []
none_read ended b h e = ap chars (h e) ∙ chars-nil

pub taken_known : (t u : List ℕ) (a b : Option (List ℕ)) (ended : Bool) (count : ℕ) (r : Option Value) → Keeps (prepend_known t a) (prepend_known u b) → IsUtf8 u → (ended ≡ true → IsAtEnd b) → Decides u ended (r, count)
    → TakesKnown (option_map chars (prepend_known t a)) (option_map chars (prepend_known (drop count u) b)) r
taken_known t u None b ended count r kept is end d = tt
taken_known t u (Some a) None ended count r kept is end d = absurd kept
taken_known t u (Some a) (Some b) ended count r kept is end d =
    let old : chars u ++ chars b ≡ chars (t ++ a) = sym (chars-append u b is) ∙ ap chars kept in
    let new : chars (drop count u) ++ chars b ≡ chars (drop count u ++ b) = sym (chars-append (drop count u) b (IsUtf8-drop u count is d.between)) in
    subst (λ z. TakesFront z (chars (drop count u ++ b)) r) old (subst (λ z. TakesFront (chars u ++ chars b) z r) new (d.takes (chars b) (none_read ended b end)))

-- ---- where a document ends

pub settles : (x : Option Value) (v : Value) → x ≡ Some v → is_some (number_in (value_of v)) ≡ false → (y : List ℕ) → IsSettled y x
settles x v is e y = subst (IsSettled y) (sym is) (ends_itself e)

pub goes_further : (next : Option ℕ) (x : Option Value) → is_some next ≡ true → (y : List ℕ) → next ≡ slice_get y 0 → IsSettled y x
goes_further None x h y e = absurd (cc)
goes_further (Some c) x h y e = goes_on c (sym e)
