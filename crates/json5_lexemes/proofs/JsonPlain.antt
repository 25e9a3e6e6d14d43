-- A text of JSON is plain.
use Rattle.std.proofs.Common.{◌≡◌, ◌≢◌, ℕ, Bool, true, List, [], ◌∷◌, ◌++◌, refl, sym, subst, append_assoc}
use Rattle.std.proofs.lemmas.List.{append-nil}
use Rattle.json5_grammar.specs.Language.Characters.{comma_sign, left_bracket, right_bracket, left_brace, right_brace, NotBegun, no_char, char}
use Rattle.json5_grammar.proofs.ValuesRead.{regroup, regroup_pair}
use Rattle.json5_styles.specs.Json.{is_json_blank, JsonBlanks, JsonValue, JsonElements, JsonMembers, JsonMember, JsonText}
use Rattle.json5_styles.specs.Json as json
use Rattle.json5_lexemes.specs.Plain.{JsonWord, is_closing, Plain}
use Rattle.json5_lexemes.specs.Plain as plain
use Rattle.json5_lexemes.specs.SameLexemes.{is_word_part}
use Rattle.json5_lexemes.specs.declared.plain.Last.{Last}
use Rattle.json5_lexemes.specs.declared.plain.Last.TheVariants as last
use Rattle.json5_lexemes.proofs.DocumentLexemes.{blank_separates, not_part, sign_no_part}
use Rattle.json5_lexemes.proofs.PlainSeams.{json_blank}

-- ---- blanks

pub json_blanks_stop : {w : List ℕ} (r : List ℕ) → JsonBlanks w → NotBegun is_word_part r → NotBegun is_word_part (w ++ r)
json_blanks_stop r no_char n = n
json_blanks_stop r (char {c = c} h e) n = not_part c (blank_separates c (json_blank c h))

blanks_plain : {k : Bool} {l : Last} {w r : List ℕ} → JsonBlanks w → Plain k l r → Plain k l (w ++ r)
blanks_plain no_char p = p
blanks_plain (char h e) p = plain.blank h (blanks_plain e p)

-- blanks and a closing bracket
close_plain : {k : Bool} {l : Last} {w : List ℕ} (c : ℕ) (r : List ℕ) → l ≢ last.Comma → is_closing c ≡ true → JsonBlanks w → Plain k last.Sign r → Plain k l (w ++ c ∷ r)
close_plain c r n h b p = blanks_plain b (plain.closes n h p)

-- ---- values

-- r is plain after a value
abbrev PlainAfter : Bool → List ℕ → Type 0
PlainAfter k r = (m : Last) → m ≢ last.Comma → Plain k m r

word_plain : {k : Bool} {l : Last} {s r : List ℕ} → JsonWord s → NotBegun is_word_part r → PlainAfter k r → Plain k l (s ++ r)
word_plain w n f = plain.word w n (f last.Word (λ e. cc))

sign_plain : {k : Bool} {r : List ℕ} → PlainAfter k r → Plain k last.Sign r
sign_plain f = f last.Sign (λ e. cc)

array_plain : {k : Bool} {l : Last} (m r : List ℕ) → Plain k last.Sign (m ++ right_bracket ∷ r) → Plain k l ((left_bracket ∷ m ++ right_bracket ∷ []) ++ r)
array_plain {k = k} {l = l} m r p = subst (λ z. Plain k l (left_bracket ∷ z)) (sym (append_assoc m (right_bracket ∷ []) r)) (plain.opens refl p)

object_plain : {k : Bool} {l : Last} (m r : List ℕ) → Plain k last.Sign (m ++ right_brace ∷ r) → Plain k l ((left_brace ∷ m ++ right_brace ∷ []) ++ r)
object_plain {k = k} {l = l} m r p = subst (λ z. Plain k l (left_brace ∷ z)) (sym (append_assoc m (right_brace ∷ []) r)) (plain.opens refl p)

pub last_group : (w s v r : List ℕ) → (w ++ (s ++ v)) ++ r ≡ w ++ (s ++ (v ++ r))
last_group w s v r = simp append_assoc

mutual
  value_plain : {k : Bool} {l : Last} {s : List ℕ} → JsonValue s → (r : List ℕ) → NotBegun is_word_part r → PlainAfter k r → Plain k l (s ++ r)
  value_plain json.is_null r n f = word_plain plain.is_null n f
  value_plain json.is_true r n f = word_plain plain.is_true n f
  value_plain json.is_false r n f = word_plain plain.is_false n f
  value_plain (json.is_number a) r n f = word_plain (plain.is_number a) n f
  value_plain (json.is_string a) r n f = plain.string a (f last.Text (λ e. cc))
  value_plain (json.is_empty_array {w = w} b) r n f = array_plain w r (close_plain right_bracket r (λ e. cc) refl b (sign_plain f))
  value_plain (json.is_array {m = m} es) r n f = array_plain m r (elements_plain es r (sign_plain f))
  value_plain (json.is_empty_object {w = w} b) r n f = object_plain w r (close_plain right_brace r (λ e. cc) refl b (sign_plain f))
  value_plain (json.is_object {m = m} ms) r n f = object_plain m r (members_plain ms r (sign_plain f))

  elements_plain : {k : Bool} {l : Last} {m : List ℕ} → JsonElements m → (r : List ℕ) → Plain k last.Sign r → Plain k l (m ++ right_bracket ∷ r)
  elements_plain {k = k} {l = l} (json.last {w = w} {s = s} {v = v} bw a bv) r p =
      subst (Plain k l) (sym (last_group w s v (right_bracket ∷ r)))
      (blanks_plain bw (value_plain a (v ++ right_bracket ∷ r) (json_blanks_stop (right_bracket ∷ r) bv (sign_no_part right_bracket refl)) (λ m n. close_plain right_bracket r n refl bv p)))
  elements_plain {k = k} {l = l} (json.next {w = w} {s = s} {v = v} {m = m} bw a bv es) r p =
      let y : List ℕ = comma_sign ∷ (m ++ right_bracket ∷ r) in
      subst (Plain k l) (sym (regroup w s v (comma_sign ∷ m) (right_bracket ∷ r)))
      (blanks_plain bw (value_plain a (v ++ y) (json_blanks_stop y bv (not_part comma_sign refl)) (λ n c. blanks_plain bv (plain.comma (elements_plain es r p)))))

  members_plain : {k : Bool} {l : Last} {m : List ℕ} → JsonMembers m → (r : List ℕ) → Plain k last.Sign r → Plain k l (m ++ right_brace ∷ r)
  members_plain (json.last_member a) r p = member_plain a (right_brace ∷ r) (sign_no_part right_brace refl) (λ m n. plain.closes n refl p)
  members_plain {k = k} {l = l} (json.next_member {p = e} {m = m} a ms) r p =
      subst (Plain k l) (sym (append_assoc e (comma_sign ∷ m) (right_brace ∷ r)))
      (member_plain a (comma_sign ∷ (m ++ right_brace ∷ r)) (not_part comma_sign refl) (λ n c. plain.comma (members_plain ms r p)))

  member_plain : {k : Bool} {l : Last} {p : List ℕ} → JsonMember p → (y : List ℕ) → NotBegun is_word_part y → PlainAfter k y → Plain k l (p ++ y)
  member_plain {k = k} {l = l} (json.entry {a = a} {k = key} {b = b} {w = w} {s = s} {v = v} ba ks bb bw vs bv) y n f =
      subst (Plain k l) (sym (regroup_pair a key b w s v y))
      (blanks_plain ba (plain.string ks (blanks_plain bb (plain.colon (blanks_plain bw (value_plain vs (v ++ y) (json_blanks_stop y bv n) (λ m c. blanks_plain bv (f m c))))))))

-- a text of JSON is plain, with comments allowed or not
pub json_text_plain : (k : Bool) (x : List ℕ) → JsonText x → Plain k last.Sign x
json_text_plain k x t =
    let after : PlainAfter k (t.after ++ []) = λ m n. blanks_plain t.back plain.ends in
    let p : Plain k last.Sign (t.before ++ (t.text ++ (t.after ++ []))) = blanks_plain t.front (value_plain t.value (t.after ++ []) (json_blanks_stop [] t.back tt) after) in
    subst (Plain k last.Sign) (sym t.whole) (subst (λ z. Plain k last.Sign (t.before ++ (t.text ++ z))) (append-nil t.after) p)
