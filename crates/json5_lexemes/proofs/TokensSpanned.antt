-- Blanks, values and keys are whole tokens, and what is put together of such texts is so too.
use Rattle.std.proofs.Common.{◌≡◌, ◌≢◌, ℕ, Bool, true, List, [], ◌∷◌, ◌++◌, refl, sym, subst, append_assoc}
use Rattle.std.proofs.lemmas.List.{append-nil}
use Rattle.json5_grammar.specs.Language.Blanks.{Blanks}
use Rattle.json5_grammar.specs.Language.Blanks as blanks
use Rattle.json5_grammar.specs.Language.Characters.{comma_sign, colon_sign, slash_sign, star_sign, right_bracket, right_brace, NotBegun}
use Rattle.json5_grammar.specs.Language.Trees.{Tree, Trees, Members}
use Rattle.json5_grammar.specs.Language.Values.{KeyText, Val, is_null, is_true, is_false, is_number, is_text, is_empty_array, is_array, is_empty_object, is_object, ElementList, last as last_element, next, MemberList, last_member, next_member, Member, entry, LastComma, no_last_comma, last_comma}
use Rattle.json5_grammar.proofs.ValuesRead.{regroup, regroup_pair}
use Rattle.json5_lexemes.specs.SameLexemes.{is_sign, is_word_part}
use Rattle.json5_lexemes.specs.Spans.{Spans, Apart}
use Rattle.json5_lexemes.specs.Spans as spans
use Rattle.json5_lexemes.specs.Tokens.{Scalar}
use Rattle.json5_lexemes.specs.Tokens as tokens
use Rattle.json5_lexemes.specs.declared.plain.Last.{Last}
use Rattle.json5_lexemes.specs.declared.plain.Last.TheVariants as last
use Rattle.json5_lexemes.proofs.DocumentLexemes.{blanks_stop, sign_no_part, not_part, comma_stops}
use Rattle.json5_lexemes.proofs.WordParts.{IsToken, a_word, a_string, scalar_token, key_token}

-- ---- what may follow

pub sign_apart : (r : List ℕ) → Apart last.Sign r
sign_apart r e = absurd (cc)

pub comma_apart : (r : List ℕ) → Apart last.Comma r
comma_apart r e = absurd (cc)

pub text_apart : (r : List ℕ) → Apart last.Text r
text_apart r e = absurd (cc)

some_not : (s r : List ℕ) → s ≢ [] → s ++ r ≢ []
some_not [] r some e = some refl
some_not (c ∷ s) r some e = cc

-- where no token came, the last is what it was
none_came : {l m : Last} {x : List ℕ} → Spans l x m → x ≡ [] → m ≡ l
none_came spans.nothing e = refl
none_came (spans.blank h i) e = absurd (cc)
none_came (spans.line c e i j) k = absurd (cc)
none_came (spans.block b i) e = absurd (cc)
none_came (spans.comma i) e = absurd (cc)
none_came (spans.sign h i) e = absurd (cc)
none_came (spans.word {s = s} {r = r} some e n i) k = absurd (some_not s r some k)
none_came (spans.string h q i) e = absurd (cc)

-- after a word, what is left of the text and what follows it go on with no word
pub stops_after : {m : Last} (t r : List ℕ) → Spans last.Word t m → NotBegun is_word_part t → Apart m r → NotBegun is_word_part (t ++ r)
stops_after [] r i n a = a (none_came i refl)
stops_after (c ∷ t) r i n a = n

-- ---- one text after another

pub joined : {l m n : Last} {x : List ℕ} (y : List ℕ) → Spans l x m → Apart m y → Spans m y n → Spans l (x ++ y) n
joined y spans.nothing a j = j
joined y (spans.blank h i) a j = spans.blank h (joined y i a j)
joined {l = l} {n = n} y (spans.line {x = x} c {r = r} e h i) a j =
    subst (λ z. Spans l (slash_sign ∷ slash_sign ∷ z) n) (sym (append_assoc x (c ∷ r) y)) (spans.line c e h (joined y i a j))
joined {l = l} {n = n} y (spans.block {x = x} {r = r} b i) a j =
    subst (λ z. Spans l (slash_sign ∷ star_sign ∷ z) n) (sym (append_assoc x (star_sign ∷ slash_sign ∷ r) y)) (spans.block b (joined y i a j))
joined y (spans.comma i) a j = spans.comma (joined y i a j)
joined y (spans.sign h i) a j = spans.sign h (joined y i a j)
joined {l = l} {n = n} y (spans.word {s = s} {r = r} some e k i) a j =
    subst (λ z. Spans l z n) (sym (append_assoc s r y)) (spans.word some e (stops_after r y i k a) (joined y i a j))
joined {l = l} {n = n} y (spans.string {q = q} {s = s} {r = r} h k i) a j =
    subst (λ z. Spans l (q ∷ z) n) (sym (append_assoc s r y)) (spans.string h k (joined y i a j))

-- ---- one token

pub sign_span : (l : Last) (c : ℕ) → is_sign c ≡ true → Spans l (c ∷ []) last.Sign
sign_span l c h = spans.sign h spans.nothing

pub comma_span : (l : Last) → Spans l (comma_sign ∷ []) last.Comma
comma_span l = spans.comma spans.nothing

-- ---- blanks

pub blanks_then : {w : List ℕ} {l m : Last} (r : List ℕ) → Blanks w → Spans l r m → Spans l (w ++ r) m
blanks_then r blanks.empty i = i
blanks_then r (blanks.blank h b) i = spans.blank h (blanks_then r b i)
blanks_then {l = l} {m = m} r (blanks.line {x = x} c {s = s} e h b) i =
    subst (λ z. Spans l (slash_sign ∷ slash_sign ∷ z) m) (sym (append_assoc x (c ∷ s) r)) (spans.line c e h (blanks_then r b i))
blanks_then {l = l} {m = m} r (blanks.block {x = x} {s = s} k b) i =
    subst (λ z. Spans l (slash_sign ∷ star_sign ∷ z) m) (sym (append_assoc x (star_sign ∷ slash_sign ∷ s) r)) (spans.block k (blanks_then r b i))

pub blanks_span : {w : List ℕ} (l : Last) → Blanks w → Spans l w l
blanks_span {w = w} l b = subst (λ z. Spans l z l) (append-nil w) (blanks_then [] b spans.nothing)

-- ---- values and keys

-- the text is whole tokens, wherever it stands, and the last is no comma
pub record SpansAlone (s : List ℕ) : Type 0 where
  pub kind : Last
  pub no_comma : kind ≢ last.Comma
  pub spans : (l : Last) → Spans l s kind

pub token_alone : {s : List ℕ} → IsToken s → SpansAlone s
token_alone {s = s} (a_word some e) = record { kind = last.Word; no_comma = λ e. cc; spans = λ l. subst (λ z. Spans l z last.Word) (append-nil s) (spans.word some e tt spans.nothing) }
token_alone (a_string q t e h k) = record {
  kind = last.Text;
  no_comma = λ e. cc;
  spans = λ l. subst (λ z. Spans l z last.Text) (sym e) (subst (λ z. Spans l (q ∷ z) last.Text) (append-nil t) (spans.string h k spans.nothing));
}

pub key_alone : {k u : List ℕ} {escape_free : Bool} → KeyText k u escape_free → SpansAlone k
key_alone k = token_alone (key_token k)

scalar_alone : {s : List ℕ} {t : Tree} → Scalar s t → SpansAlone s
scalar_alone a = token_alone (scalar_token a)

bracket_alone : {s : List ℕ} → ((l : Last) → Spans l s last.Sign) → SpansAlone s
bracket_alone f = record { kind = last.Sign; no_comma = λ e. cc; spans = f }

close_array : {w : List ℕ} (l : Last) → Blanks w → Spans l (w ++ right_bracket ∷ []) last.Sign
close_array l b = blanks_then (right_bracket ∷ []) b (spans.sign refl spans.nothing)

close_object : {w : List ℕ} (l : Last) → Blanks w → Spans l (w ++ right_brace ∷ []) last.Sign
close_object l b = blanks_then (right_brace ∷ []) b (spans.sign refl spans.nothing)

array_closed : {c : List ℕ} (l : Last) → LastComma c → Spans l (c ++ right_bracket ∷ []) last.Sign
array_closed l no_last_comma = close_array l blanks.empty
array_closed l (last_comma b) = spans.comma (close_array last.Comma b)

object_closed : {c : List ℕ} (l : Last) → LastComma c → Spans l (c ++ right_brace ∷ []) last.Sign
object_closed l no_last_comma = close_object l blanks.empty
object_closed l (last_comma b) = spans.comma (close_object last.Comma b)

-- blanks, a value and blanks, and what follows them
pub one_value : {w s v : List ℕ} {n : Last} (l : Last) (y : List ℕ) → Blanks w → SpansAlone s → Blanks v → NotBegun is_word_part y → ((m : Last) → Spans m y n) → Spans l (w ++ (s ++ (v ++ y))) n
one_value {s = s} {v = v} l y bw a bv n f = blanks_then (s ++ (v ++ y)) bw (joined (v ++ y) (a.spans l) (λ e. blanks_stop y bv n) (blanks_then y bv (f a.kind)))

-- blanks, a key, blanks and a colon, and what follows them
pub one_key : {a k b : List ℕ} {n : Last} (l : Last) (y : List ℕ) → Blanks a → SpansAlone k → Blanks b → Spans last.Sign y n → Spans l (a ++ (k ++ (b ++ colon_sign ∷ y))) n
one_key {k = k} {b = b} l y ba s bb i =
    blanks_then (k ++ (b ++ colon_sign ∷ y)) ba (joined (b ++ colon_sign ∷ y) (s.spans l) (λ e. blanks_stop (colon_sign ∷ y) bb (sign_no_part colon_sign refl)) (blanks_then (colon_sign ∷ y) bb (spans.sign refl i)))

mutual
  -- a value is whole tokens, the last of which is no comma
  pub value_alone : {s : List ℕ} {t : Tree} → Val s t → SpansAlone s
  value_alone is_null = scalar_alone tokens.is_null
  value_alone is_true = scalar_alone tokens.is_true
  value_alone is_false = scalar_alone tokens.is_false
  value_alone (is_number a) = scalar_alone (tokens.is_number a)
  value_alone (is_text a) = scalar_alone (tokens.is_text a)
  value_alone (is_empty_array b) = bracket_alone (λ l. spans.sign refl (close_array last.Sign b))
  value_alone (is_array es) = bracket_alone (λ l. spans.sign refl (elements_alone last.Sign es))
  value_alone (is_empty_object b) = bracket_alone (λ l. spans.sign refl (close_object last.Sign b))
  value_alone (is_object ms) = bracket_alone (λ l. spans.sign refl (members_alone last.Sign ms))

  elements_alone : {m : List ℕ} {ts : Trees} (l : Last) → ElementList m ts → Spans l (m ++ right_bracket ∷ []) last.Sign
  elements_alone l (last_element {w = w} {s = s} {v = v} {c = c} bw a bv k) =
      subst (λ z. Spans l z last.Sign) (sym (regroup w s v c (right_bracket ∷ [])))
      (one_value l (c ++ right_bracket ∷ []) bw (value_alone a) bv (comma_stops right_bracket [] refl k) (λ m. array_closed m k))
  elements_alone l (next {w = w} {s = s} {v = v} {m = m} bw a bv es) =
      subst (λ z. Spans l z last.Sign) (sym (regroup w s v (comma_sign ∷ m) (right_bracket ∷ [])))
      (one_value l (comma_sign ∷ (m ++ right_bracket ∷ [])) bw (value_alone a) bv (not_part comma_sign refl) (λ n. spans.comma (elements_alone last.Comma es)))

  members_alone : {m : List ℕ} {ps : Members} (l : Last) → MemberList m ps → Spans l (m ++ right_brace ∷ []) last.Sign
  members_alone l (last_member {p = p} {c = c} a k) =
      subst (λ z. Spans l z last.Sign) (sym (append_assoc p c (right_brace ∷ [])))
      (member_alone l (c ++ right_brace ∷ []) a (comma_stops right_brace [] refl k) (λ m. object_closed m k))
  members_alone l (next_member {p = p} {m = m} a ms) =
      subst (λ z. Spans l z last.Sign) (sym (append_assoc p (comma_sign ∷ m) (right_brace ∷ [])))
      (member_alone l (comma_sign ∷ (m ++ right_brace ∷ [])) a (not_part comma_sign refl) (λ n. spans.comma (members_alone last.Comma ms)))

  member_alone : {p u : List ℕ} {escape_free : Bool} {t : Tree} {n : Last} (l : Last) (y : List ℕ) → Member p u escape_free t → NotBegun is_word_part y → ((m : Last) → Spans m y n) → Spans l (p ++ y) n
  member_alone {n = n} l y (entry {a = a} {k = k} {b = b} {w = w} {s = s} {v = v} ba key bb bw vs bv) stops f =
      subst (λ z. Spans l z n) (sym (regroup_pair a k b w s v y))
      (one_key l (w ++ (s ++ (v ++ y))) ba (key_alone key) bb (one_value last.Sign y bw (value_alone vs) bv stops f))
