-- A plain document without its comments is a text of JSON.
use Rattle.std.proofs.Common.{◌≡◌, ◌≢◌, ℕ, Bool, true, List, [], ◌∷◌, ◌++◌, refl, sym, ap, subst, append_assoc}
use Rattle.std.proofs.lemmas.List.{append-nil}
use Rattle.json5_grammar.specs.Language.Blanks.{Blanks, LastBlanks}
use Rattle.json5_grammar.specs.Language.Blanks as blanks
use Rattle.json5_grammar.specs.Language.Characters.{comma_sign, colon_sign, slash_sign, star_sign, left_bracket, right_bracket, left_brace, right_brace, NotBegun, no_char, char}
use Rattle.json5_grammar.specs.Language.Documents.{Doc}
use Rattle.json5_grammar.specs.Language.Trees.{Tree, Trees, Members}
use Rattle.json5_grammar.specs.Language.Values.{KeyText, Val, is_null, is_true, is_false, is_number, is_text, is_empty_array, is_array, is_empty_object, is_object, ElementList, last as last_element, next, MemberList, last_member, next_member, Member, entry, no_last_comma, last_comma}
use Rattle.json5_grammar.proofs.ValuesRead.{regroup, regroup_pair}
use Rattle.json5_styles.specs.Json.{JsonBlanks, JsonString, JsonValue, JsonElements, JsonMembers, JsonMember, JsonText}
use Rattle.json5_styles.specs.Json as json
use Rattle.json5_lexemes.specs.Plain.{JsonWord, is_closing, Plain, IsPlain, IsBare}
use Rattle.json5_lexemes.specs.Plain as plain
use Rattle.json5_lexemes.specs.SameLexemes.{is_sign, is_word_part}
use Rattle.json5_lexemes.specs.Tokens as tokens
use Rattle.json5_lexemes.specs.WithoutComments.{WithoutComments, nothing, blank, comma, sign, line, block, IsJsonButForComments}
use Rattle.json5_lexemes.specs.declared.plain.Last.{Last}
use Rattle.json5_lexemes.specs.declared.plain.Last.TheVariants as last
use Rattle.json5_lexemes.proofs.DocumentLexemes.{blanks_stop, last_stops, terminator_blank, not_part, sign_no_part}
use Rattle.json5_lexemes.proofs.JsonPlain.{json_text_plain, json_blanks_stop, last_group}
use Rattle.json5_lexemes.proofs.PlainSeams.{blank_seam, value_seam, key_seam}
use Rattle.json5_lexemes.proofs.PlainTokens.{plain_blank, plain_open, plain_close, plain_comma, plain_line, plain_block, plain_word, plain_string}
use Rattle.json5_lexemes.proofs.Stripped.{one_text, commented_plain, token_stays}
use Rattle.json5_lexemes.proofs.WordParts.{IsToken, a_word, a_string, scalar_token, key_token}

-- ---- blanks

-- without their comments they are blanks of JSON
record BlanksMade (k : Bool) (w : List ℕ) : Type 0 where
  json : List ℕ
  is_json : JsonBlanks json
  strips : (x y : List ℕ) → WithoutComments k x y → WithoutComments k (w ++ x) (json ++ y)

blanks_made : {k : Bool} {l : Last} {w : List ℕ} (r : List ℕ) → Blanks w → Plain k l (w ++ r) → BlanksMade k w
blanks_made r blanks.empty p = record { json = []; is_json = no_char; strips = λ x y s. s }
blanks_made r (blanks.blank {c = c} h b) p =
    let a = plain_blank c h p in
    let m = blanks_made r b a.1 in
    record { json = c ∷ m.json; is_json = char a.0 m.is_json; strips = λ x y s. blank h (m.strips x y s) }
blanks_made {k = k} {l = l} r (blanks.line {x = t} c {s = w} e h b) p =
    let a = plain_line e (rw h refl) (subst (λ z. Plain k l (slash_sign ∷ slash_sign ∷ z)) (append_assoc t (c ∷ w) r) p) in
    let d = plain_blank c (terminator_blank c h) a.1 in
    let m = blanks_made r b d.1 in
    record {
      json = c ∷ m.json;
      is_json = char d.0 m.is_json;
      strips = λ x y s. subst (λ z. WithoutComments k (slash_sign ∷ slash_sign ∷ z) (c ∷ m.json ++ y)) (sym (append_assoc t (c ∷ w) x)) (line a.0 e (rw h refl) (blank (terminator_blank c h) (m.strips x y s)));
    }
blanks_made {k = k} {l = l} r (blanks.block {x = t} {s = w} i b) p =
    let a = plain_block i (subst (λ z. Plain k l (slash_sign ∷ star_sign ∷ z)) (append_assoc t (star_sign ∷ slash_sign ∷ w) r) p) in
    let m = blanks_made r b a.1 in
    record {
      json = m.json;
      is_json = m.is_json;
      strips = λ x y s. subst (λ z. WithoutComments k (slash_sign ∷ star_sign ∷ z) (m.json ++ y)) (sym (append_assoc t (star_sign ∷ slash_sign ∷ w) x)) (block a.0 i (m.strips x y s));
    }

-- ---- values

-- a text without its comments is in this part of JSON's grammar
record Made (J : List ℕ → Type 0) (k : Bool) (s : List ℕ) : Type 0 where
  json : List ℕ
  is_json : J json
  strips : (x y : List ℕ) → NotBegun is_word_part x → NotBegun is_word_part y → WithoutComments k x y → WithoutComments k (s ++ x) (json ++ y)

word_value : {s : List ℕ} → JsonWord s → JsonValue s
word_value plain.is_null = json.is_null
word_value plain.is_true = json.is_true
word_value plain.is_false = json.is_false
word_value (plain.is_number a) = json.is_number a

token_made : {k : Bool} {l : Last} {s : List ℕ} (r : List ℕ) → IsToken s → NotBegun is_word_part r → Plain k l (s ++ r) → Made JsonValue k s
token_made {k = k} {l = l} {s = s} r a n p = record { json = s; is_json = by_token a; strips = λ x y m o t. token_stays a m o t }
  where
    by_token : IsToken s → JsonValue s
    by_token (a_word some e) = word_value (plain_word some e n p).0
    by_token (a_string q t e h i) = json.is_string (subst JsonString (sym e) (plain_string q h i (subst (λ z. Plain k l (z ++ r)) e p)).0)

-- ---- brackets

-- two texts that are spelled otherwise
strips_as : {k : Bool} {v w x y : List ℕ} → v ≡ w → x ≡ y → WithoutComments k w y → WithoutComments k v x
strips_as {k = k} {w = w} {x = x} e d s = subst (λ z. WithoutComments k z x) (sym e) (subst (WithoutComments k w) (sym d) s)

-- what is between brackets
record Inner (k : Bool) (m json : List ℕ) (c : ℕ) : Type 0 where
  strips : (x y : List ℕ) → WithoutComments k x y → WithoutComments k (m ++ c ∷ x) (json ++ c ∷ y)

inner_blanks : {k : Bool} {w : List ℕ} (c : ℕ) → is_sign c ≡ true → (b : BlanksMade k w) → Inner k w b.json c
inner_blanks c h b = record { strips = λ x y s. b.strips (c ∷ x) (c ∷ y) (sign h s) }

inner_made : {k : Bool} {m : List ℕ} {J : List ℕ → Type 0} (c : ℕ) → is_sign c ≡ true → (a : Made J k m) → Inner k m a.json c
inner_made c h a = record { strips = λ x y s. a.strips (c ∷ x) (c ∷ y) (sign_no_part c h) (sign_no_part c h) (sign h s) }

bracket_made : {k : Bool} {m json : List ℕ} (o c : ℕ) → is_sign o ≡ true → Inner k m json c → JsonValue (o ∷ json ++ c ∷ []) → Made JsonValue k (o ∷ m ++ c ∷ [])
bracket_made {m = m} {json = j} o c h i v = record {
  json = o ∷ j ++ c ∷ [];
  is_json = v;
  strips = λ x y n a s. strips_as (ap (λ z. o ∷ z) (append_assoc m (c ∷ []) x)) (ap (λ z. o ∷ z) (append_assoc j (c ∷ []) y)) (sign h (i.strips x y s));
}

-- ---- elements and members

-- the value with the spelling s is so, wherever it is plain
record Makes (k : Bool) (s : List ℕ) : Type 0 where
  made : (l : Last) (r : List ℕ) → NotBegun is_word_part r → Plain k l (s ++ r) → Made JsonValue k s

-- blanks, a value and blanks, and that what follows them is plain
record PieceMade (k : Bool) (w s v y : List ℕ) : Type 0 where
  front : List ℕ
  value : List ℕ
  back : List ℕ
  front_blank : JsonBlanks front
  is_json : JsonValue value
  back_blank : JsonBlanks back
  kind : Last
  no_comma : kind ≢ last.Comma
  rest : Plain k kind y
  strips : (x z : List ℕ) → NotBegun is_word_part x → NotBegun is_word_part z → WithoutComments k x z → WithoutComments k (w ++ (s ++ (v ++ x))) (front ++ (value ++ (back ++ z)))

piece_made : {k : Bool} {l : Last} {w s v : List ℕ} {t : Tree} (y : List ℕ) → Blanks w → Val s t → Makes k s → Blanks v → NotBegun is_word_part y → Plain k l (w ++ (s ++ (v ++ y))) → PieceMade k w s v y
piece_made {l = l} {s = s} {v = v} y bw a f bv n p =
    let stop = blanks_stop y bv n in
    let front = blanks_made (s ++ (v ++ y)) bw p in
    let q = (blank_seam (s ++ (v ++ y)) bw p).rest in
    let value = f.made l (v ++ y) stop q in
    let g = value_seam (v ++ y) a stop q in
    let back = blanks_made y bv g.rest in
    record {
      front = front.json;
      value = value.json;
      back = back.json;
      front_blank = front.is_json;
      is_json = value.is_json;
      back_blank = back.is_json;
      kind = g.kind;
      no_comma = g.no_comma;
      rest = (blank_seam y bv g.rest).rest;
      strips = λ x z m o t. front.strips (s ++ (v ++ x)) (value.json ++ (back.json ++ z)) (value.strips (v ++ x) (back.json ++ z) (blanks_stop x bv m) (json_blanks_stop z back.is_json o) (back.strips x z t));
    }

-- a member, and that what follows it is plain
record MemberMade (k : Bool) (p y : List ℕ) : Type 0 where
  made : Made JsonMember k p
  kind : Last
  no_comma : kind ≢ last.Comma
  rest : Plain k kind y

-- no comma is last in a plain collection
no_comma_left : {k : Bool} {l : Last} {w : List ℕ} (c : ℕ) (r : List ℕ) → is_closing c ≡ true → Blanks w → Plain k l (comma_sign ∷ (w ++ c ∷ r)) → ⊥
no_comma_left c r h b p = (plain_close c h (blank_seam (c ∷ r) b (plain_comma p)).rest).0 refl

last_element_made : {k : Bool} {w s v y : List ℕ} → PieceMade k w s v y → Made JsonElements k (w ++ (s ++ (v ++ [])))
last_element_made {w = w} {s = s} {v = v} a = record {
  json = a.front ++ (a.value ++ a.back);
  is_json = json.last a.front_blank a.is_json a.back_blank;
  strips = λ x z m o t. strips_as (regroup w s v [] x) (last_group a.front a.value a.back z) (a.strips x z m o t);
}

next_element_made : {k : Bool} {w s v m y : List ℕ} → PieceMade k w s v y → Made JsonElements k m → Made JsonElements k (w ++ (s ++ (v ++ comma_sign ∷ m)))
next_element_made {w = w} {s = s} {v = v} {m = m} a e = record {
  json = a.front ++ (a.value ++ (a.back ++ comma_sign ∷ e.json));
  is_json = json.next a.front_blank a.is_json a.back_blank e.is_json;
  strips = λ x z n o t. strips_as (regroup w s v (comma_sign ∷ m) x) (regroup a.front a.value a.back (comma_sign ∷ e.json) z)
      (a.strips (comma_sign ∷ (m ++ x)) (comma_sign ∷ (e.json ++ z)) (not_part comma_sign refl) (not_part comma_sign refl) (comma (e.strips x z n o t)));
}

last_member_made : {k : Bool} {p : List ℕ} → Made JsonMember k p → Made JsonMembers k (p ++ [])
last_member_made {k = k} {p = p} a = record {
  json = a.json;
  is_json = json.last_member a.is_json;
  strips = λ x z m o t. subst (λ q. WithoutComments k (q ++ x) (a.json ++ z)) (sym (append-nil p)) (a.strips x z m o t);
}

next_member_made : {k : Bool} {p m : List ℕ} → Made JsonMember k p → Made JsonMembers k m → Made JsonMembers k (p ++ comma_sign ∷ m)
next_member_made {p = p} {m = m} a e = record {
  json = a.json ++ comma_sign ∷ e.json;
  is_json = json.next_member a.is_json e.is_json;
  strips = λ x z n o t. strips_as (append_assoc p (comma_sign ∷ m) x) (append_assoc a.json (comma_sign ∷ e.json) z)
      (a.strips (comma_sign ∷ (m ++ x)) (comma_sign ∷ (e.json ++ z)) (not_part comma_sign refl) (not_part comma_sign refl) (comma (e.strips x z n o t)));
}

one_member : {k : Bool} {l : Last} {a key b w s v u : List ℕ} {escape_free : Bool} {t : Tree} (y : List ℕ) → Blanks a → KeyText key u escape_free → Blanks b → Blanks w → Val s t → Makes k s → Blanks v
    → NotBegun is_word_part y → Plain k l (a ++ (key ++ (b ++ colon_sign ∷ (w ++ (s ++ (v ++ y)))))) → MemberMade k (a ++ (key ++ (b ++ colon_sign ∷ (w ++ (s ++ v))))) y
one_member {a = a} {key = key} {b = b} {w = w} {s = s} {v = v} y ba text bb bw val f bv n p =
    let r : List ℕ = w ++ (s ++ (v ++ y)) in
    let front = blanks_made (key ++ (b ++ colon_sign ∷ r)) ba p in
    let g = key_seam r text bb (blank_seam (key ++ (b ++ colon_sign ∷ r)) ba p).rest in
    let middle = blanks_made (colon_sign ∷ r) bb g.rest in
    let c = piece_made y bw val f bv n g.value in
    record {
      made = record {
        json = front.json ++ (key ++ (middle.json ++ colon_sign ∷ (c.front ++ (c.value ++ c.back))));
        is_json = json.entry front.is_json g.is_json middle.is_json c.front_blank c.is_json c.back_blank;
        strips = λ x z m o t. strips_as (regroup_pair a key b w s v x) (regroup_pair front.json key middle.json c.front c.value c.back z)
            (front.strips _ _ (token_stays (key_token text) (blanks_stop _ bb (sign_no_part colon_sign refl)) (json_blanks_stop _ middle.is_json (sign_no_part colon_sign refl))
            (middle.strips _ _ (sign refl (c.strips x z m o t)))));
      };
      kind = c.kind;
      no_comma = c.no_comma;
      rest = c.rest;
    }

mutual
  value_made : {k : Bool} {s : List ℕ} {t : Tree} → Val s t → (l : Last) (r : List ℕ) → NotBegun is_word_part r → Plain k l (s ++ r) → Made JsonValue k s
  value_made is_null l r n p = token_made r (scalar_token tokens.is_null) n p
  value_made is_true l r n p = token_made r (scalar_token tokens.is_true) n p
  value_made is_false l r n p = token_made r (scalar_token tokens.is_false) n p
  value_made (is_number a) l r n p = token_made r (scalar_token (tokens.is_number a)) n p
  value_made (is_text a) l r n p = token_made r (scalar_token (tokens.is_text a)) n p
  value_made {k = k} (is_empty_array {w = w} b) l r n p =
      let m = blanks_made (right_bracket ∷ r) b (plain_open left_bracket refl (subst (λ z. Plain k l (left_bracket ∷ z)) (append_assoc w (right_bracket ∷ []) r) p)) in
      bracket_made left_bracket right_bracket refl (inner_blanks right_bracket refl m) (json.is_empty_array m.is_json)
  value_made {k = k} (is_array {m = e} es) l r n p =
      let m = elements_made es last.Sign r (plain_open left_bracket refl (subst (λ z. Plain k l (left_bracket ∷ z)) (append_assoc e (right_bracket ∷ []) r) p)) in
      bracket_made left_bracket right_bracket refl (inner_made right_bracket refl m) (json.is_array m.is_json)
  value_made {k = k} (is_empty_object {w = w} b) l r n p =
      let m = blanks_made (right_brace ∷ r) b (plain_open left_brace refl (subst (λ z. Plain k l (left_brace ∷ z)) (append_assoc w (right_brace ∷ []) r) p)) in
      bracket_made left_brace right_brace refl (inner_blanks right_brace refl m) (json.is_empty_object m.is_json)
  value_made {k = k} (is_object {m = e} ms) l r n p =
      let m = members_made ms last.Sign r (plain_open left_brace refl (subst (λ z. Plain k l (left_brace ∷ z)) (append_assoc e (right_brace ∷ []) r) p)) in
      bracket_made left_brace right_brace refl (inner_made right_brace refl m) (json.is_object m.is_json)

  elements_made : {k : Bool} {m : List ℕ} {ts : Trees} → ElementList m ts → (l : Last) (r : List ℕ) → Plain k l (m ++ right_bracket ∷ r) → Made JsonElements k m
  elements_made {k = k} (last_element {w = w} {s = s} {v = v} bw a bv no_last_comma) l r p =
      last_element_made (piece_made (right_bracket ∷ r) bw a (record { made = λ l y n q. value_made a l y n q }) bv (sign_no_part right_bracket refl) (subst (Plain k l) (regroup w s v [] (right_bracket ∷ r)) p))
  elements_made {k = k} (last_element {w = w} {s = s} {v = v} bw a bv (last_comma {w = c} bc)) l r p =
      let f = piece_made (comma_sign ∷ (c ++ right_bracket ∷ r)) bw a (record { made = λ l y n q. value_made a l y n q }) bv (not_part comma_sign refl) (subst (Plain k l) (regroup w s v (comma_sign ∷ c) (right_bracket ∷ r)) p) in
      absurd (no_comma_left right_bracket r refl bc f.rest)
  elements_made {k = k} (next {w = w} {s = s} {v = v} {m = m} bw a bv es) l r p =
      let f = piece_made (comma_sign ∷ (m ++ right_bracket ∷ r)) bw a (record { made = λ l y n q. value_made a l y n q }) bv (not_part comma_sign refl) (subst (Plain k l) (regroup w s v (comma_sign ∷ m) (right_bracket ∷ r)) p) in
      next_element_made f (elements_made es last.Comma r (plain_comma f.rest))

  members_made : {k : Bool} {m : List ℕ} {ps : Members} → MemberList m ps → (l : Last) (r : List ℕ) → Plain k l (m ++ right_brace ∷ r) → Made JsonMembers k m
  members_made {k = k} (last_member {p = e} a no_last_comma) l r p =
      last_member_made (member_made a l (right_brace ∷ r) (sign_no_part right_brace refl) (subst (Plain k l) (append_assoc e [] (right_brace ∷ r)) p)).made
  members_made {k = k} (last_member {p = e} a (last_comma {w = c} bc)) l r p =
      let f = member_made a l (comma_sign ∷ (c ++ right_brace ∷ r)) (not_part comma_sign refl) (subst (Plain k l) (append_assoc e (comma_sign ∷ c) (right_brace ∷ r)) p) in
      absurd (no_comma_left right_brace r refl bc f.rest)
  members_made {k = k} (next_member {p = e} {m = m} a ms) l r p =
      let f = member_made a l (comma_sign ∷ (m ++ right_brace ∷ r)) (not_part comma_sign refl) (subst (Plain k l) (append_assoc e (comma_sign ∷ m) (right_brace ∷ r)) p) in
      next_member_made f.made (members_made ms last.Comma r (plain_comma f.rest))

  member_made : {k : Bool} {p u : List ℕ} {escape_free : Bool} {t : Tree} → Member p u escape_free t → (l : Last) (y : List ℕ) → NotBegun is_word_part y → Plain k l (p ++ y) → MemberMade k p y
  member_made {k = k} (entry {a = a} {k = key} {b = b} {w = w} {s = s} {v = v} ba text bb bw val bv) l y n p =
      one_member y ba text bb bw val (record { made = λ l y n q. value_made val l y n q }) bv n (subst (Plain k l) (regroup_pair a key b w s v y) p)

-- ---- documents

-- the last blanks of a document, without their comments
record LastMade (k : Bool) (w : List ℕ) : Type 0 where
  json : List ℕ
  is_json : JsonBlanks json
  strips : WithoutComments k w json

last_made : {k : Bool} {l : Last} {w : List ℕ} → LastBlanks w → Plain k l w → LastMade k w
last_made {k = k} {l = l} (LastBlanks.blanks {w = w} b) p =
    let m = blanks_made [] b (subst (Plain k l) (sym (append-nil w)) p) in
    record { json = m.json; is_json = m.is_json; strips = strips_as (sym (append-nil w)) (sym (append-nil m.json)) (m.strips [] [] nothing) }
last_made {k = k} {l = l} (blanks.open_line {w = w} {x = x} b e) p =
    let y : List ℕ = slash_sign ∷ slash_sign ∷ x in
    let m = blanks_made y b p in
    let q : Plain k l (slash_sign ∷ slash_sign ∷ x ++ []) = subst (λ z. Plain k l (slash_sign ∷ slash_sign ∷ z)) (sym (append-nil x)) (blank_seam y b p).rest in
    let s : WithoutComments k (slash_sign ∷ slash_sign ∷ x ++ []) [] = line (plain_line e tt q).0 e tt nothing in
    record { json = m.json; is_json = m.is_json; strips = strips_as refl (sym (append-nil m.json)) (m.strips y [] (subst (λ z. WithoutComments k (slash_sign ∷ slash_sign ∷ z) []) (append-nil x) s)) }

-- a text of JSON that the document is without its comments
pub record DocumentMade (k : Bool) (x : List ℕ) : Type 0 where
  pub json : List ℕ
  pub is_json : JsonText json
  pub strips : WithoutComments k x json

pub document_made : {k : Bool} (limit : ℕ) (x : List ℕ) (t : Tree) → Doc limit x t → Plain k last.Sign x → DocumentMade k x
document_made {k = k} limit x t d p =
    let r : List ℕ = d.text ++ d.after in
    let q = subst (Plain k last.Sign) d.whole p in
    let front = blanks_made r d.blank q in
    let within = (blank_seam r d.blank q).rest in
    let value = value_made d.value last.Sign d.after (last_stops d.last) within in
    let back = last_made d.last (value_seam d.after d.value (last_stops d.last) within).rest in
    let stops = subst (NotBegun is_word_part) (append-nil back.json) (json_blanks_stop [] back.is_json tt) in
    record {
      json = front.json ++ (value.json ++ back.json);
      is_json = record { before = front.json; text = value.json; after = back.json; whole = refl; front = front.is_json; value = value.is_json; back = back.is_json };
      strips = strips_as d.whole refl (front.strips r (value.json ++ back.json) (value.strips d.after back.json (last_stops d.last) stops back.strips));
    }

pub bare_document : (limit : ℕ) (x : List ℕ) (t : Tree) → Doc limit x t → IsBare x → JsonText x
bare_document limit x t d p = let m = document_made limit x t d p in subst JsonText (one_text refl m.strips) m.is_json

pub commented_document : (limit : ℕ) (x : List ℕ) (t : Tree) → Doc limit x t → IsPlain x → IsJsonButForComments x
commented_document limit x t d p = let m = document_made limit x t d p in record { json = m.json; without = m.strips; is_json = m.is_json }

pub json_with_comments : (x : List ℕ) → IsJsonButForComments x → IsPlain x
json_with_comments x j = commented_plain j.without (json_text_plain true j.json j.is_json)
