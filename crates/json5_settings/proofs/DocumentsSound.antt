-- The tree of a text is sound: its keys and strings are characters, and its whole numbers are in range.
use Rattle.std.proofs.Common.{◌≡◌, ℕ, Bool, false, true, List, [], ◌∷◌, ◌++◌, Option, refl, subst}
use Rattle.std.specs.Str.{all_scalars}
use Rattle.std.specs.Char.{IsScalar}
use Rattle.std.proofs.lemmas.Bool.{and_parts}
use Rattle.json5_grammar.specs.Language.Characters.{double_quote, left_bracket, right_bracket, left_brace, right_brace, comma_sign, colon_sign}
use Rattle.json5_grammar.specs.Language.Documents.{Doc}
use Rattle.json5_grammar.specs.Language.Names.{NameItem, raw_name, escaped_name, NameParts, no_part, part, Ident, name}
use Rattle.json5_grammar.specs.Language.Numbers.{Number, Num, is_infinite, is_nan, is_hexadecimal, is_integer, is_decimal}
use Rattle.json5_grammar.specs.Language.Strings.{Unicode, Str, quoted, escape, no_item, unicode}
use Rattle.json5_grammar.specs.Language.Trees.{Tree, Trees, Members}
use Rattle.json5_grammar.specs.Language.Values.{Val, is_null, is_true, is_false, is_number, is_text, is_empty_array, is_array, is_empty_object, is_object, ElementList, last, next, MemberList, last_member, next_member, Member, entry, KeyText, string_key, name_key}
use Rattle.json5_tokens.proofs.TextCuts.{scalar_halves}
use Rattle.json5_tokens.proofs.UnicodeScalars.{text_scalars}
use Rattle.json5_types.specs.ValueMeanings.{Fields}
use Rattle.json5_settings.specs.DescribedSchemas.{IsSoundNumber, Sound, SoundElements, SoundMembers, Says, SaysOfTexts}
use Rattle.json5_settings.proofs.NotesPassed.{drafted}

in_range : {s : List ℕ} {n : Number} → Num s n → IsSoundNumber n
in_range (is_infinite a) = tt
in_range (is_nan a) = tt
in_range (is_hexadecimal x a b c within) = within
in_range (is_integer a b within) = within
in_range (is_decimal a b c d) = tt

-- ---- keys

first_scalar : (c : ℕ) (x : List ℕ) → all_scalars (c ∷ x) ≡ true → IsScalar c
first_scalar c x h = (and_parts _ (all_scalars x) h).0

rest_scalars : (c : ℕ) (x : List ℕ) → all_scalars (c ∷ x) ≡ true → all_scalars x ≡ true
rest_scalars c x h = (and_parts _ (all_scalars x) h).1

one_more : (c : ℕ) (x : List ℕ) → IsScalar c → all_scalars x ≡ true → all_scalars (c ∷ x) ≡ true
one_more c x h k = rw (h, k) refl

appended : (x y : List ℕ) → all_scalars x ≡ true → all_scalars y ≡ true → all_scalars (x ++ y) ≡ true
appended [] y a b = b
appended (c ∷ x) y a b = one_more c (x ++ y) (first_scalar c x a) (appended x y (rest_scalars c x a) b)

-- as a string alone has it
escaped_scalar : {e : List ℕ} {n : ℕ} → Unicode e n → all_scalars e ≡ true → IsScalar n
escaped_scalar {e = e} {n = n} u k =
    let str : Str (double_quote ∷ ((e ++ []) ++ double_quote ∷ [])) (n ∷ []) false = quoted refl (escape (unicode u) no_item) in
    let whole : all_scalars (double_quote ∷ ((e ++ []) ++ double_quote ∷ [])) ≡ true = appended (e ++ []) (double_quote ∷ []) (appended e [] k refl) refl in
    first_scalar n [] (text_scalars str whole)

item_scalar : {v : List ℕ} {c : ℕ} {p : Bool} → NameItem v c p → all_scalars v ≡ true → IsScalar c
item_scalar (raw_name {c = c} n) k = first_scalar c [] k
item_scalar (escaped_name u) k = escaped_scalar u k

parts_scalars : {s u : List ℕ} {escape_free : Bool} → NameParts s u escape_free → all_scalars s ≡ true → all_scalars u ≡ true
parts_scalars no_part k = refl
parts_scalars (part {s = s} {v = v} {u = u} {c = c} i h n) k = let l = scalar_halves v s k in one_more c u (item_scalar i l.0) (parts_scalars n l.1)

name_scalars : {s u : List ℕ} {escape_free : Bool} → Ident s u escape_free → all_scalars s ≡ true → all_scalars u ≡ true
name_scalars (name {v = v} {s = s} {u = u} {c = c} i h n) k = let l = scalar_halves v s k in one_more c u (item_scalar i l.0) (parts_scalars n l.1)

key_scalars : {k u : List ℕ} {escape_free : Bool} → KeyText k u escape_free → all_scalars k ≡ true → all_scalars u ≡ true
key_scalars (string_key str) h = text_scalars str h
key_scalars (name_key ident) h = name_scalars ident h

-- ---- values

middle : (a b c : List ℕ) → all_scalars (a ++ (b ++ c)) ≡ true → all_scalars b ≡ true
middle a b c h = (scalar_halves b c (scalar_halves a (b ++ c) h).1).0

inside : (c d : ℕ) (m : List ℕ) → all_scalars (c ∷ m ++ d ∷ []) ≡ true → all_scalars m ≡ true
inside c d m h = (scalar_halves m (d ∷ []) (rest_scalars c (m ++ d ∷ []) h)).0

mutual
  value_sound : {s : List ℕ} {t : Tree} → Val s t → all_scalars s ≡ true → Sound t
  value_sound is_null h = tt
  value_sound is_true h = tt
  value_sound is_false h = tt
  value_sound (is_number n) h = in_range n
  value_sound (is_text str) h = text_scalars str h
  value_sound (is_empty_array b) h = tt
  value_sound (is_array {m = m} es) h = elements_sound es (inside left_bracket right_bracket m h)
  value_sound (is_empty_object b) h = tt
  value_sound (is_object {m = m} ms) h = members_sound ms (inside left_brace right_brace m h)

  elements_sound : {m : List ℕ} {ts : Trees} → ElementList m ts → all_scalars m ≡ true → SoundElements ts
  elements_sound (last {w = w} {s = s} {v = v} {c = c} b val d comma) h = (value_sound val (middle w s (v ++ c) h), tt)
  elements_sound (next {w = w} {s = s} {v = v} {m = m} b val d es) h = (
    value_sound val (middle w s (v ++ comma_sign ∷ m) h),
    elements_sound es (rest_scalars comma_sign m (scalar_halves v (comma_sign ∷ m) (scalar_halves s (v ++ comma_sign ∷ m) (scalar_halves w (s ++ (v ++ comma_sign ∷ m)) h).1).1).1),
  )

  members_sound : {m : List ℕ} {ps : Members} → MemberList m ps → all_scalars m ≡ true → SoundMembers ps
  members_sound (last_member {p = p} {c = c} one comma) h = let k = member_sound one (scalar_halves p c h).0 in (k.0, k.1, tt)
  members_sound (next_member {p = p} {m = m} one ms) h =
      let parts = scalar_halves p (comma_sign ∷ m) h in
      let k = member_sound one parts.0 in
      (k.0, k.1, members_sound ms (rest_scalars comma_sign m parts.1))

  member_sound : {p u : List ℕ} {escape_free : Bool} {t : Tree} → Member p u escape_free t → all_scalars p ≡ true → (all_scalars u ≡ true) × Sound t
  member_sound (entry {a = a} {k = k} {b = b} {w = w} {s = s} {v = v} x key y z val e) h =
      let after = scalar_halves k (b ++ colon_sign ∷ (w ++ (s ++ v))) (scalar_halves a (k ++ (b ++ colon_sign ∷ (w ++ (s ++ v)))) h).1 in
      let behind = rest_scalars colon_sign (w ++ (s ++ v)) (scalar_halves b (colon_sign ∷ (w ++ (s ++ v))) after.1).1 in
      (key_scalars key after.0, value_sound val (middle w s v behind))

document_sound : {limit : ℕ} {x : List ℕ} {t : Tree} → Doc limit x t → all_scalars x ≡ true → Sound t
document_sound d h = value_sound d.value (middle d.before d.text d.after (subst (λ z. all_scalars z ≡ true) d.whole h))

pub says_of_texts : {C : Type 0} (keywords : Fields) (convert : Tree → Option C) → Says keywords convert → SaysOfTexts keywords convert
says_of_texts keywords convert says = λ text limit t scalars d plain. drafted keywords convert says t (document_sound d scalars) plain
