-- A document's tree means what the bytes of its texts say.
use Rattle.std.proofs.Common.{◌≡◌, ℕ, Bool, true, List, [], ◌∷◌, ◌++◌, refl, ap, sym, ◌∙◌}
use Rattle.std.specs.Prelude.{IsUtf8}
use Rattle.std.specs.Str.{all_scalars, chars, encode_utf8_all}
use Rattle.std.proofs.lemmas.Bool.{and_parts}
use Rattle.std.proofs.lemmas.Str.{chars-encodes, scalars-chars}
use Rattle.json5_grammar.specs.Language.Documents.{Doc}
use Rattle.json5_grammar.specs.Language.Names.{Ident, name_key}
use Rattle.json5_grammar.specs.Language.Trees.{Tree, Trees, Members}
use Rattle.json5_grammar.specs.Language.Values.{Val, is_null, is_true, is_false, is_number, is_text, is_empty_array, is_array, is_empty_object, is_object, ElementList, last, next, MemberList, last_member, next_member, Member, entry, KeyText}
use Rattle.json5_grammar.specs.Language.Values as values
use Rattle.json5_grammar.proofs.CharacterClasses.{colon_no_name}
use Rattle.json5_tokens.proofs.TextCuts.{scalar_halves}
use Rattle.json5_tokens.proofs.UnicodeScalars.{key_scalars, text_scalars}
use Rattle.json5_types.specs.ValueMeanings.{no_item, item, no_field, field}
use Rattle.json5_types.specs.ValueMeanings as datum
use Rattle.json5_read.specs.TreeMeanings.{datum_of, items_of, fields_of}
use Rattle.json5.specs.ValueRefWalks.{meaning_of, meanings_of, member_meanings}

append_scalars : (x y : List ℕ) → all_scalars x ≡ true → all_scalars y ≡ true → all_scalars (x ++ y) ≡ true
append_scalars [] y a b = b
append_scalars (c ∷ x) y a b = let k = and_parts _ (all_scalars x) a in rw (k.0, append_scalars x y k.1 b) refl

rest_scalars : (c : ℕ) (x : List ℕ) → all_scalars (c ∷ x) ≡ true → all_scalars x ≡ true
rest_scalars c x e = (and_parts _ (all_scalars x) e).1

within_scalars : (c d : ℕ) (m : List ℕ) → all_scalars (c ∷ m ++ d ∷ []) ≡ true → all_scalars m ≡ true
within_scalars c d m e = (scalar_halves m (d ∷ []) (rest_scalars c (m ++ d ∷ []) e)).0

followed : (k : List ℕ) → all_scalars k ≡ true → all_scalars (k ++ 58 ∷ []) ≡ true
followed k h = append_scalars k (58 ∷ []) h refl

key_text : {k u : List ℕ} {e : Bool} → KeyText k u e → all_scalars k ≡ true → chars (encode_utf8_all u) ≡ u
key_text {k = k} {u = u} (values.string_key s) h = chars-encodes u (text_scalars s h)
key_text {k = k} {u = u} (values.name_key i) h = chars-encodes u (named k u i h)
  where
    named : (k u : List ℕ) {e : Bool} → Ident k u e → all_scalars k ≡ true → all_scalars u ≡ true
    named k u i h = key_scalars (k ++ 58 ∷ []) (58 ∷ []) refl (followed k h) (name_key {c = 58} i colon_no_name)

mutual
  val_means : {s : List ℕ} {t : Tree} → Val s t → all_scalars s ≡ true → meaning_of t ≡ datum_of t
  val_means is_null h = refl
  val_means is_true h = refl
  val_means is_false h = refl
  val_means (is_number n) h = refl
  val_means (is_text {u = u} k) h = ap datum.text (chars-encodes u (text_scalars k h))
  val_means (is_empty_array b) h = refl
  val_means (is_array {m = m} l) h = ap datum.array (elements_mean l (within_scalars 91 93 m h))
  val_means (is_empty_object b) h = refl
  val_means (is_object {m = m} l) h = ap datum.object (members_mean l (within_scalars 123 125 m h))

  elements_mean : {m : List ℕ} {ts : Trees} → ElementList m ts → all_scalars m ≡ true → meanings_of ts ≡ items_of ts
  elements_mean (last {w = w} {s = s} {v = v} {c = c} b k d l) h =
      let r = (scalar_halves w (s ++ (v ++ c)) h).1 in
      ap (λ z. item z no_item) (val_means k (scalar_halves s (v ++ c) r).0)
  elements_mean (next {w = w} {s = s} {v = v} {m = m} {t = t} {ts = ts} b k d l) h =
      let r = (scalar_halves w (s ++ (v ++ 44 ∷ m)) h).1 in
      let a = scalar_halves s (v ++ 44 ∷ m) r in
      let more_scalars = rest_scalars 44 m (scalar_halves v (44 ∷ m) a.1).1 in
      ap (λ z. item z (meanings_of ts)) (val_means k a.0) ∙ ap (item (datum_of t)) (elements_mean l more_scalars)

  members_mean : {m : List ℕ} {ps : Members} → MemberList m ps → all_scalars m ≡ true → member_meanings ps ≡ fields_of ps
  members_mean (last_member {p = p} {c = c} {u = u} {t = t} q l) h =
      let (a, b) = member_means q (scalar_halves p c h).0 in
      ap (λ z. field z (meaning_of t) no_field) a ∙ ap (λ z. field u z no_field) b
  members_mean (next_member {p = p} {m = m} {u = u} {t = t} {ps = ps} q l) h =
      let k = scalar_halves p (44 ∷ m) h in
      let (a, b) = member_means q k.0 in
      ap (λ z. field z (meaning_of t) (member_meanings ps)) a ∙ ap (λ z. field u z (member_meanings ps)) b ∙ ap (field u (datum_of t)) (members_mean l (rest_scalars 44 m k.1))

  member_means : {p u : List ℕ} {e : Bool} {t : Tree} → Member p u e t → all_scalars p ≡ true → (chars (encode_utf8_all u) ≡ u) × (meaning_of t ≡ datum_of t)
  member_means (entry {a = a} {k = k} {b = b} {w = w} {s = s} {v = v} x y z q r o) h =
      let f = scalar_halves k (b ++ 58 ∷ (w ++ (s ++ v))) (scalar_halves a (k ++ (b ++ 58 ∷ (w ++ (s ++ v)))) h).1 in
      let g = rest_scalars 58 (w ++ (s ++ v)) (scalar_halves b (58 ∷ (w ++ (s ++ v))) f.1).1 in
      (key_text y f.0, val_means r (scalar_halves s v (scalar_halves w (s ++ v) g).1).0)

pub document_means : (bytes : List ℕ) (limit : ℕ) (t : Tree) → IsUtf8 bytes → Doc limit (chars bytes) t → meaning_of t ≡ datum_of t
document_means bytes limit t utf8 d =
    let h = ap all_scalars (sym d.whole) ∙ scalars-chars bytes utf8 in
    val_means d.value (scalar_halves d.text d.after (scalar_halves d.before (d.text ++ d.after) h).1).0
