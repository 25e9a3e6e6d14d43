-- A text with the tokens, the commas and the comments of a document is a document of the same tree.
use Rattle.std.proofs.Common.{◌≡◌, ◌≢◌, ℕ, Bool, true, false, List, [], ◌∷◌, ◌++◌, refl, sym, ap, ◌∙◌, subst, append_assoc}
use Rattle.std.proofs.lemmas.Bool.{or_parts}
use Rattle.std.proofs.lemmas.List.{append-nil}
use Rattle.std.specs.Prelude.{◌==◌}
use Rattle.json5_grammar.specs.Language.Blanks.{Blanks, LastBlanks, Inside}
use Rattle.json5_grammar.specs.Language.Blanks as blanks
use Rattle.json5_grammar.specs.Language.Characters.{is_blank, is_terminator, comma_sign, colon_sign, slash_sign, star_sign, left_bracket, right_bracket, left_brace, right_brace, NotBegun, Each}
use Rattle.json5_grammar.specs.Language.Documents.{Doc}
use Rattle.json5_grammar.specs.Language.Trees.{Tree, Trees, Members, more, member, no_more, no_member}
use Rattle.json5_grammar.specs.Language.Values.{KeyText, Val, is_null, is_true, is_false, is_number, is_text, is_empty_array, is_array, is_empty_object, is_object, ElementList, last, next, MemberList, last_member, next_member, Member, entry, LastComma, no_last_comma, last_comma}
use Rattle.json5_grammar.proofs.BlanksRead.{printable_no_blank}
use Rattle.json5_grammar.proofs.ValuesRead.{regroup, regroup_pair}
use Rattle.json5_lexemes.specs.SameLexemes.{is_separator, is_sign, is_word_part, is_line_part}
use Rattle.json5_lexemes.specs.Tokens.{Scalar}
use Rattle.json5_lexemes.specs.Tokens as tokens
use Rattle.json5_lexemes.proofs.DocumentLexemes.{terminator_blank, blanks_stop, last_stops, comma_stops, not_part, sign_no_part}
use Rattle.json5_lexemes.proofs.OneList.{sign_apart, quote_apart, part_apart, each_head}
use Rattle.json5_lexemes.proofs.WordParts.{IsToken, a_word, a_string, scalar_token, key_token}
use Rattle.json5_tidy.specs.SameTokens.{SameTokens}
use Rattle.json5_tidy.proofs.TokenFronts.{sign_front, comma_front, past_left, past_right, ends_blank, none_left, word_front, string_front, line_front, block_front}

-- ---- blanks

joined : {a : List ℕ} (b : List ℕ) → Blanks a → Blanks b → Blanks (a ++ b)
joined b blanks.empty j = j
joined b (blanks.blank p i) j = blanks.blank p (joined b i j)
joined b (blanks.line {x = x} c {s = s} e t i) j = subst (λ z. Blanks (slash_sign ∷ slash_sign ∷ z)) (sym (append_assoc x (c ∷ s) b)) (blanks.line c e t (joined b i j))
joined b (blanks.block {x = x} {s = s} k i) j = subst (λ z. Blanks (slash_sign ∷ star_sign ∷ z)) (sym (append_assoc x (star_sign ∷ slash_sign ∷ s) b)) (blanks.block k (joined b i j))

lasts_joined : {a b : List ℕ} → Blanks a → LastBlanks b → LastBlanks (a ++ b)
lasts_joined {b = b} i (LastBlanks.blanks j) = LastBlanks.blanks (joined b i j)
lasts_joined {a = a} i (blanks.open_line {w = w} {x = x} j e) = subst LastBlanks (append_assoc a w (slash_sign ∷ slash_sign ∷ x)) (blanks.open_line (joined w i j) e)

-- a whole comment
line_piece : {x : List ℕ} (d : ℕ) → Each is_line_part x → is_terminator d ≡ true → Blanks (slash_sign ∷ slash_sign ∷ x ++ d ∷ [])
line_piece d e t = blanks.line d e t blanks.empty

block_piece : {x : List ℕ} → Inside x → Blanks (slash_sign ∷ star_sign ∷ x ++ star_sign ∷ slash_sign ∷ [])
block_piece i = blanks.block i blanks.empty

line_ended : (c : ℕ) → is_line_part c ≡ false → is_terminator c ≡ true
line_ended c h = by (is_terminator c) refl h
  where
    by : (b : Bool) → is_terminator c ≡ b → is_line_part c ≡ false → is_terminator c ≡ true
    by true e h = e
    by false e h = absurd (let k : is_line_part c ≡ true = rw e refl in let both : true ≡ false = sym k ∙ h in cc)

-- y is a phrase with P, and what is left has the tokens of r
record Kept (P : List ℕ → Type 0) (r y : List ℕ) : Type 0 where
  phrase : List ℕ
  rest : List ℕ
  split : y ≡ phrase ++ rest
  holds : P phrase
  goes_on : SameTokens r rest

-- more blanks in front
prefixed : {r : List ℕ} (f x y : List ℕ) → Blanks f → y ≡ f ++ x → Kept Blanks r x → Kept Blanks r y
prefixed f x y b e k = record { phrase = f ++ k.phrase; rest = k.rest; split = e ∙ ap (λ z. f ++ z) k.split ∙ sym (append_assoc f k.phrase k.rest); holds = joined k.phrase b k.holds; goes_on = k.goes_on }

-- blanks before what isn't blank
blanks_kept : {w : List ℕ} (c : ℕ) (r y : List ℕ) → Blanks w → is_blank c ≡ false → SameTokens (w ++ c ∷ r) y → Kept Blanks (c ∷ r) y
blanks_kept c r y blanks.empty n s = record { phrase = []; rest = y; split = refl; holds = blanks.empty; goes_on = s }
blanks_kept c r y (blanks.blank {c = d} {s = w} p b) n s = blanks_kept c r y b n (past_left d (w ++ c ∷ r) y p s)
blanks_kept c r y (blanks.line {x = x} d {s = w} e t b) n s =
    let f = line_front x (d ∷ w ++ c ∷ r) _ y e (rw t refl) s (ap (λ z. slash_sign ∷ slash_sign ∷ z) (append_assoc x (d ∷ w) (c ∷ r))) in
    prefixed f.front f.rest y f.blank f.split (by_end (λ q k. blanks_kept c r q b n k) f.rest f.holds.0 f.holds.1 f.holds.2 f.holds.3)
  where
    by_end : ((q : List ℕ) → SameTokens (w ++ c ∷ r) q → Kept Blanks (c ∷ r) q) → (z q : List ℕ) → z ≡ slash_sign ∷ slash_sign ∷ x ++ q → NotBegun is_line_part q → SameTokens (d ∷ w ++ c ∷ r) q → Kept Blanks (c ∷ r) z
    by_end again z [] k m i = absurd (none_left (d ∷ w) r (d ∷ w ++ c ∷ r) c i refl n)
    by_end again z (a ∷ q) k m i =
        let ended = line_ended a m in
        let more = again q (past_right a (w ++ c ∷ r) q (terminator_blank a ended) (past_left d (w ++ c ∷ r) (a ∷ q) (terminator_blank d t) i)) in
        prefixed (slash_sign ∷ slash_sign ∷ x ++ a ∷ []) q z (line_piece a e ended) (k ∙ ap (λ z. slash_sign ∷ slash_sign ∷ z) (sym (append_assoc x (a ∷ []) q))) more
blanks_kept c r y (blanks.block {x = x} {s = w} i b) n s =
    let f = block_front x (w ++ c ∷ r) _ y i s (ap (λ z. slash_sign ∷ star_sign ∷ z) (append_assoc x (star_sign ∷ slash_sign ∷ w) (c ∷ r))) in
    let q = f.holds.0 in
    let more = blanks_kept c r q b n f.holds.2 in
    prefixed f.front f.rest y f.blank f.split
    (prefixed (slash_sign ∷ star_sign ∷ x ++ star_sign ∷ slash_sign ∷ []) q f.rest (block_piece i) (f.holds.1 ∙ ap (λ z. slash_sign ∷ star_sign ∷ z) (sym (append_assoc x (star_sign ∷ slash_sign ∷ []) q))) more)

-- a `//` comment, and what is blank after it
line_last : (x q : List ℕ) → Each is_line_part x → NotBegun is_line_part q → ((d : ℕ) (u : List ℕ) → q ≡ d ∷ u → LastBlanks u) → LastBlanks (slash_sign ∷ slash_sign ∷ x ++ q)
line_last x [] e n f = subst (λ z. LastBlanks (slash_sign ∷ slash_sign ∷ z)) (sym (append-nil x)) (blanks.open_line blanks.empty e)
line_last x (d ∷ q) e n f = subst (λ z. LastBlanks (slash_sign ∷ slash_sign ∷ z)) (append_assoc x (d ∷ []) q) (lasts_joined (line_piece d e (line_ended d n)) (f d q refl))

-- blanks at the end
blanks_last : {w : List ℕ} (y : List ℕ) → Blanks w → SameTokens w y → LastBlanks y
blanks_last y blanks.empty s = LastBlanks.blanks (ends_blank y s)
blanks_last y (blanks.blank {c = d} {s = w} p b) s = blanks_last y b (past_left d w y p s)
blanks_last y (blanks.line {x = x} d {s = w} e t b) s =
    let f = line_front x (d ∷ w) _ y e (rw t refl) s refl in
    subst LastBlanks (sym (f.split ∙ ap (λ z. f.front ++ z) f.holds.1)) (lasts_joined f.blank (line_last x f.holds.0 e f.holds.2 (more (λ u k. blanks_last u b k) f.holds.0 f.holds.2 f.holds.3)))
  where
    more : ((u : List ℕ) → SameTokens w u → LastBlanks u) → (q : List ℕ) → NotBegun is_line_part q → SameTokens (d ∷ w) q → (a : ℕ) (u : List ℕ) → q ≡ a ∷ u → LastBlanks u
    more again q n i a u k =
        let ended = line_ended a (subst (NotBegun is_line_part) k n) in
        again u (past_right a w u (terminator_blank a ended) (past_left d w (a ∷ u) (terminator_blank d t) (subst (SameTokens (d ∷ w)) k i)))
blanks_last y (blanks.block {x = x} {s = w} i b) s =
    let f = block_front x w _ y i s refl in
    let q = f.holds.0 in
    subst LastBlanks (sym (f.split ∙ ap (λ z. f.front ++ z) (f.holds.1 ∙ ap (λ z. slash_sign ∷ star_sign ∷ z) (sym (append_assoc x (star_sign ∷ slash_sign ∷ []) q)))))
    (lasts_joined f.blank (lasts_joined (block_piece i) (blanks_last q b f.holds.2)))

slash_solid : is_blank slash_sign ≡ false
slash_solid = printable_no_blank slash_sign refl

last_kept : {w : List ℕ} (y : List ℕ) → LastBlanks w → SameTokens w y → LastBlanks y
last_kept y (LastBlanks.blanks b) s = blanks_last y b s
last_kept y (blanks.open_line {w = w} {x = x} b e) s =
    let k = blanks_kept slash_sign (slash_sign ∷ x) y b slash_solid s in
    let f = line_front x [] _ k.rest e tt k.goes_on (ap (λ z. slash_sign ∷ slash_sign ∷ z) (sym (append-nil x))) in
    let ends = line_last x f.holds.0 e f.holds.2 (λ d u i. LastBlanks.blanks (tail_blank d u (subst Blanks i (ends_blank f.holds.0 f.holds.3)) (line_ended d (subst (NotBegun is_line_part) i f.holds.2)))) in
    subst LastBlanks (sym k.split) (lasts_joined k.holds (subst LastBlanks (sym (f.split ∙ ap (λ z. f.front ++ z) f.holds.1)) (lasts_joined f.blank ends)))
  where
    tail_blank : (d : ℕ) (u : List ℕ) → Blanks (d ∷ u) → is_terminator d ≡ true → Blanks u
    tail_blank d _ (blanks.blank p b) t = b
    tail_blank _ _ (blanks.line c e h b) t = absurd (cc)
    tail_blank _ _ (blanks.block i b) t = absurd (cc)

-- ---- tokens

-- y is blanks, a phrase with P, and what has the tokens of r
record Found (P : List ℕ → Type 0) (r y : List ℕ) : Type 0 where
  front : List ℕ
  phrase : List ℕ
  rest : List ℕ
  split : y ≡ front ++ (phrase ++ rest)
  blank : Blanks front
  holds : P phrase
  goes_on : SameTokens r rest

token_found : {s : List ℕ} (r y : List ℕ) → IsToken s → NotBegun is_word_part r → SameTokens (s ++ r) y → Found (λ z. z ≡ s) r y
token_found {s = s} r y (a_word some e) n i = word s some e i
  where
    word : (s : List ℕ) → s ≢ [] → Each is_word_part s → SameTokens (s ++ r) y → Found (λ z. z ≡ s) r y
    word [] some e i = absurd (some refl)
    word (c ∷ w) some e i =
        let f = word_front c w r _ y e n i refl in
        record { front = f.front; phrase = c ∷ w; rest = f.holds.0; split = f.split ∙ ap (λ z. f.front ++ z) f.holds.1; blank = f.blank; holds = refl; goes_on = f.holds.3 }
token_found {s = s} r y (a_string q t e h k) n i =
    let f = string_front q t r _ y h k i (ap (λ z. z ++ r) e) in
    record { front = f.front; phrase = q ∷ t; rest = f.holds.0; split = f.split ∙ ap (λ z. f.front ++ z) f.holds.1; blank = f.blank; holds = sym e; goes_on = f.holds.2 }

-- what doesn't begin with a blank
record Ahead (s : List ℕ) : Type 0 where
  head : ℕ
  tail : List ℕ
  is : s ≡ head ∷ tail
  solid : is_blank head ≡ false

no_blank : (c : ℕ) → is_separator c ≡ false → is_blank c ≡ false
no_blank c h = (or_parts (c == comma_sign) (is_blank c) h).1

token_ahead : {s : List ℕ} (r : List ℕ) → IsToken s → Ahead (s ++ r)
token_ahead {s = s} r (a_word some e) = word s some e
  where
    word : (s : List ℕ) → s ≢ [] → Each is_word_part s → Ahead (s ++ r)
    word [] some e = absurd (some refl)
    word (c ∷ w) some e = record { head = c; tail = w ++ r; is = refl; solid = no_blank c (part_apart c (each_head e)).0 }
token_ahead r (a_string q t e h k) = record { head = q; tail = t ++ r; is = ap (λ z. z ++ r) e; solid = no_blank q (quote_apart q h).0 }

sign_ahead : (c : ℕ) (r : List ℕ) → is_sign c ≡ true → Ahead (c ∷ r)
sign_ahead c r h = record { head = c; tail = r; is = refl; solid = no_blank c (sign_apart c h) }

comma_ahead : (r : List ℕ) → Ahead (comma_sign ∷ r)
comma_ahead r = record { head = comma_sign; tail = r; is = refl; solid = printable_no_blank comma_sign refl }

scalar_ahead : {s : List ℕ} {t : Tree} (r : List ℕ) → Scalar s t → Ahead (s ++ r)
scalar_ahead r a = token_ahead r (scalar_token a)

value_ahead : {s : List ℕ} {t : Tree} (r : List ℕ) → Val s t → Ahead (s ++ r)
value_ahead r is_null = scalar_ahead r tokens.is_null
value_ahead r is_true = scalar_ahead r tokens.is_true
value_ahead r is_false = scalar_ahead r tokens.is_false
value_ahead r (is_number a) = scalar_ahead r (tokens.is_number a)
value_ahead r (is_text a) = scalar_ahead r (tokens.is_text a)
value_ahead r (is_empty_array {w = w} b) = sign_ahead left_bracket ((w ++ right_bracket ∷ []) ++ r) refl
value_ahead r (is_array {m = m} es) = sign_ahead left_bracket ((m ++ right_bracket ∷ []) ++ r) refl
value_ahead r (is_empty_object {w = w} b) = sign_ahead left_brace ((w ++ right_brace ∷ []) ++ r) refl
value_ahead r (is_object {m = m} ms) = sign_ahead left_brace ((m ++ right_brace ∷ []) ++ r) refl

last_ahead : {c : List ℕ} (d : ℕ) (r : List ℕ) → is_sign d ≡ true → LastComma c → Ahead (c ++ d ∷ r)
last_ahead d r h no_last_comma = sign_ahead d r h
last_ahead d r h (last_comma {w = w} b) = comma_ahead (w ++ d ∷ r)

-- blanks before such a text
before : {w s : List ℕ} (y : List ℕ) → Blanks w → Ahead s → SameTokens (w ++ s) y → Kept Blanks s y
before {w = w} y b a k = subst (λ z. Kept Blanks z y) (sym a.is) (blanks_kept a.head a.tail y b a.solid (subst (λ z. SameTokens (w ++ z) y) a.is k))

-- ---- brackets

-- y is a phrase with P, a bracket d, and what has the tokens of r
record Closed (P : List ℕ → Type 0) (d : ℕ) (r y : List ℕ) : Type 0 where
  phrase : List ℕ
  rest : List ℕ
  split : y ≡ phrase ++ d ∷ rest
  holds : P phrase
  goes_on : SameTokens r rest

-- blanks before a bracket or a colon
blanks_closed : {w : List ℕ} (d : ℕ) (r y : List ℕ) → is_sign d ≡ true → Blanks w → SameTokens (w ++ d ∷ r) y → Closed Blanks d r y
blanks_closed d r y h b s =
    let k = before y b (sign_ahead d r h) s in
    let f = sign_front d r k.rest h k.goes_on in
    record {
      phrase = k.phrase ++ f.front;
      rest = f.holds.0;
      split = k.split ∙ ap (λ z. k.phrase ++ z) (f.split ∙ ap (λ z. f.front ++ z) f.holds.1) ∙ sym (append_assoc k.phrase f.front (d ∷ f.holds.0));
      holds = joined f.front k.holds f.blank;
      goes_on = f.holds.2;
    }

-- and before a comma
blanks_comma : {w : List ℕ} (r y : List ℕ) → Blanks w → SameTokens (w ++ comma_sign ∷ r) y → Closed Blanks comma_sign r y
blanks_comma r y b s =
    let k = before y b (comma_ahead r) s in
    let f = comma_front r k.rest k.goes_on in
    record {
      phrase = k.phrase ++ f.front;
      rest = f.holds.0;
      split = k.split ∙ ap (λ z. k.phrase ++ z) (f.split ∙ ap (λ z. f.front ++ z) f.holds.1) ∙ sym (append_assoc k.phrase f.front (comma_sign ∷ f.holds.0));
      holds = joined f.front k.holds f.blank;
      goes_on = f.holds.2;
    }

-- blanks, and a last comma or none
record EndOf (z : List ℕ) : Type 0 where
  front : List ℕ
  comma : List ℕ
  split : z ≡ front ++ comma
  blank : Blanks front
  is_comma : LastComma comma

last_closed : {v c : List ℕ} (d : ℕ) (r y : List ℕ) → is_sign d ≡ true → Blanks v → LastComma c → SameTokens (v ++ (c ++ d ∷ r)) y → Closed EndOf d r y
last_closed d r y h b no_last_comma s =
    let k = blanks_closed d r y h b s in
    record { phrase = k.phrase; rest = k.rest; split = k.split; holds = record { front = k.phrase; comma = []; split = sym (append-nil k.phrase); blank = k.holds; is_comma = no_last_comma }; goes_on = k.goes_on }
last_closed d r y h b (last_comma {w = w} j) s =
    let f = blanks_comma (w ++ d ∷ r) y b s in
    let k = blanks_closed d r f.rest h j f.goes_on in
    record {
      phrase = f.phrase ++ comma_sign ∷ k.phrase;
      rest = k.rest;
      split = f.split ∙ ap (λ z. f.phrase ++ comma_sign ∷ z) k.split ∙ sym (append_assoc f.phrase (comma_sign ∷ k.phrase) (d ∷ k.rest));
      holds = record { front = f.phrase; comma = comma_sign ∷ k.phrase; split = refl; blank = f.holds; is_comma = last_comma k.holds };
      goes_on = k.goes_on;
    }

-- ---- values

-- with blanks in front
found_behind : {P : List ℕ → Type 0} {s r : List ℕ} (y : List ℕ) (k : Kept Blanks s y) → Found P r k.rest → Found P r y
found_behind y k f = record {
  front = k.phrase ++ f.front;
  phrase = f.phrase;
  rest = f.rest;
  split = k.split ∙ ap (λ z. k.phrase ++ z) f.split ∙ sym (append_assoc k.phrase f.front (f.phrase ++ f.rest));
  blank = joined f.front k.holds f.blank;
  holds = f.holds;
  goes_on = f.goes_on;
}

as_found : {P Q : List ℕ → Type 0} {r y : List ℕ} → ((z : List ℕ) → P z → Q z) → Found P r y → Found Q r y
as_found weaker f = record { front = f.front; phrase = f.phrase; rest = f.rest; split = f.split; blank = f.blank; holds = weaker f.phrase f.holds; goes_on = f.goes_on }

scalar_found : {s : List ℕ} {t : Tree} (r y : List ℕ) → Scalar s t → Val s t → NotBegun is_word_part r → SameTokens (s ++ r) y → Found (λ z. Val z t) r y
scalar_found {s = s} {t = t} r y a v n i = as_found (λ z e. subst (λ u. Val u t) (sym e) v) (token_found r y (scalar_token a) n i)

-- what is in brackets
in_brackets : {P Q : List ℕ → Type 0} (b d : ℕ) (m r y : List ℕ) → is_sign b ≡ true → ((z : List ℕ) → P z → Q (b ∷ z ++ d ∷ [])) → ((z : List ℕ) → SameTokens (m ++ d ∷ r) z → Closed P d r z)
    → SameTokens ((b ∷ m ++ d ∷ []) ++ r) y → Found Q r y
in_brackets b d m r y h make close s =
    let f = sign_front b (m ++ d ∷ r) y h (subst (λ z. SameTokens (b ∷ z) y) (append_assoc m (d ∷ []) r) s) in
    let k = close f.holds.0 f.holds.2 in
    record {
      front = f.front;
      phrase = b ∷ k.phrase ++ d ∷ [];
      rest = k.rest;
      split = f.split ∙ ap (λ z. f.front ++ z) (f.holds.1 ∙ ap (λ z. b ∷ z) (k.split ∙ sym (append_assoc k.phrase (d ∷ []) k.rest)));
      blank = f.blank;
      holds = make k.phrase k.holds;
      goes_on = k.goes_on;
    }

abbrev Elements : Trees → List ℕ → Type 0
Elements ts z = ElementList z ts

abbrev MembersOf : Members → List ℕ → Type 0
MembersOf ps z = MemberList z ps

-- the last element, and a comma after it or none
last_put : {t : Tree} {u : List ℕ} (r y : List ℕ) (f : Found (λ z. Val z t) u y) → Closed EndOf right_bracket r f.rest → Closed (Elements (more t no_more)) right_bracket r y
last_put r y f e = record {
  phrase = f.front ++ (f.phrase ++ (e.holds.front ++ e.holds.comma));
  rest = e.rest;
  split = f.split ∙ ap (λ z. f.front ++ (f.phrase ++ z)) (e.split ∙ ap (λ z. z ++ right_bracket ∷ e.rest) e.holds.split ∙ append_assoc e.holds.front e.holds.comma (right_bracket ∷ e.rest))
      ∙ sym (regroup f.front f.phrase e.holds.front e.holds.comma (right_bracket ∷ e.rest));
  holds = last f.blank f.holds e.holds.blank e.holds.is_comma;
  goes_on = e.goes_on;
}

-- an element, a comma and others
next_put : {t : Tree} {ts : Trees} {u v : List ℕ} (r y : List ℕ) (f : Found (λ z. Val z t) u y) (g : Closed Blanks comma_sign v f.rest) → Closed (Elements ts) right_bracket r g.rest
    → Closed (Elements (more t ts)) right_bracket r y
next_put r y f g e = record {
  phrase = f.front ++ (f.phrase ++ (g.phrase ++ comma_sign ∷ e.phrase));
  rest = e.rest;
  split = f.split ∙ ap (λ z. f.front ++ (f.phrase ++ z)) (g.split ∙ ap (λ z. g.phrase ++ comma_sign ∷ z) e.split) ∙ sym (regroup f.front f.phrase g.phrase (comma_sign ∷ e.phrase) (right_bracket ∷ e.rest));
  holds = next f.blank f.holds g.holds e.holds;
  goes_on = e.goes_on;
}

-- a key, a colon, a value and blanks
member_put : {k u : List ℕ} {escape_free : Bool} {t : Tree} {a b c : List ℕ} (r y : List ℕ) → KeyText k u escape_free → (f : Found (λ z. z ≡ k) a y) (g : Closed Blanks colon_sign b f.rest)
    (h : Found (λ z. Val z t) c g.rest) → Kept Blanks r h.rest → Kept (λ z. Member z u escape_free t) r y
member_put {u = u} {escape_free = o} r y key f g h e = record {
  phrase = f.front ++ (f.phrase ++ (g.phrase ++ colon_sign ∷ (h.front ++ (h.phrase ++ e.phrase))));
  rest = e.rest;
  split = f.split ∙ ap (λ z. f.front ++ (f.phrase ++ z)) (g.split ∙ ap (λ z. g.phrase ++ colon_sign ∷ z) (h.split ∙ ap (λ z. h.front ++ (h.phrase ++ z)) e.split))
      ∙ sym (regroup_pair f.front f.phrase g.phrase h.front h.phrase e.phrase e.rest);
  holds = entry f.blank (subst (λ z. KeyText z u o) (sym f.holds) key) g.holds h.blank h.holds e.holds;
  goes_on = e.goes_on;
}

-- blanks after a member
member_more : {p u f : List ℕ} {escape_free : Bool} {t : Tree} → Member p u escape_free t → Blanks f → Member (p ++ f) u escape_free t
member_more {u = u} {f = f} {escape_free = o} {t = t} (entry {a = a} {k = k} {b = b} {w = w} {s = s} {v = v} ba key bb bw vs bv) bf =
    subst (λ z. Member z u o t) (sym (regroup_pair a k b w s v f)) (entry ba key bb bw vs (joined f bv bf))

last_member_put : {u : List ℕ} {escape_free : Bool} {t : Tree} {c : List ℕ} (r y : List ℕ) (f : Kept (λ z. Member z u escape_free t) c y) → Closed EndOf right_brace r f.rest
    → Closed (MembersOf (member u escape_free t no_member)) right_brace r y
last_member_put r y f e = record {
  phrase = (f.phrase ++ e.holds.front) ++ e.holds.comma;
  rest = e.rest;
  split = f.split ∙ ap (λ z. f.phrase ++ z) (e.split ∙ ap (λ z. z ++ right_brace ∷ e.rest) e.holds.split ∙ append_assoc e.holds.front e.holds.comma (right_brace ∷ e.rest))
      ∙ sym (append_assoc (f.phrase ++ e.holds.front) e.holds.comma (right_brace ∷ e.rest) ∙ append_assoc f.phrase e.holds.front (e.holds.comma ++ right_brace ∷ e.rest));
  holds = last_member (member_more f.holds e.holds.blank) e.holds.is_comma;
  goes_on = e.goes_on;
}

next_member_put : {u : List ℕ} {escape_free : Bool} {t : Tree} {ps : Members} {c d : List ℕ} (r y : List ℕ) (f : Kept (λ z. Member z u escape_free t) c y) (g : Closed Blanks comma_sign d f.rest)
    → Closed (MembersOf ps) right_brace r g.rest → Closed (MembersOf (member u escape_free t ps)) right_brace r y
next_member_put r y f g e = record {
  phrase = (f.phrase ++ g.phrase) ++ comma_sign ∷ e.phrase;
  rest = e.rest;
  split = f.split ∙ ap (λ z. f.phrase ++ z) (g.split ∙ ap (λ z. g.phrase ++ comma_sign ∷ z) e.split)
      ∙ sym (append_assoc (f.phrase ++ g.phrase) (comma_sign ∷ e.phrase) (right_brace ∷ e.rest) ∙ append_assoc f.phrase g.phrase (comma_sign ∷ e.phrase ++ right_brace ∷ e.rest));
  holds = next_member (member_more f.holds g.holds) e.holds;
  goes_on = e.goes_on;
}

-- blanks and a key
key_found : {a k b u : List ℕ} {escape_free : Bool} (r y : List ℕ) → Blanks a → KeyText k u escape_free → Blanks b → SameTokens (a ++ (k ++ (b ++ colon_sign ∷ r))) y → Found (λ z. z ≡ k) (b ++ colon_sign ∷ r) y
key_found {b = b} r y ba key bb i =
    let first = before y ba (token_ahead (b ++ colon_sign ∷ r) (key_token key)) i in
    found_behind y first (token_found (b ++ colon_sign ∷ r) first.rest (key_token key) (blanks_stop (colon_sign ∷ r) bb (sign_no_part colon_sign refl)) first.goes_on)

-- blanks before a value
value_first : {w s v : List ℕ} {t : Tree} (r y : List ℕ) → Blanks w → Val s t → Blanks v → SameTokens (w ++ (s ++ (v ++ r))) y → Kept Blanks (s ++ (v ++ r)) y
value_first {v = v} r y bw a bv i = before y bw (value_ahead (v ++ r) a) i

mutual
  value_found : {s : List ℕ} {t : Tree} (r y : List ℕ) → Val s t → NotBegun is_word_part r → SameTokens (s ++ r) y → Found (λ z. Val z t) r y
  value_found r y is_null n i = scalar_found r y tokens.is_null is_null n i
  value_found r y is_true n i = scalar_found r y tokens.is_true is_true n i
  value_found r y is_false n i = scalar_found r y tokens.is_false is_false n i
  value_found r y (is_number a) n i = scalar_found r y (tokens.is_number a) (is_number a) n i
  value_found r y (is_text a) n i = scalar_found r y (tokens.is_text a) (is_text a) n i
  value_found r y (is_empty_array {w = w} b) n i = in_brackets left_bracket right_bracket w r y refl (λ z j. is_empty_array j) (λ z j. blanks_closed right_bracket r z refl b j) i
  value_found r y (is_array {m = m} es) n i = in_brackets left_bracket right_bracket m r y refl (λ z j. is_array j) (λ z j. elements_found r z es j) i
  value_found r y (is_empty_object {w = w} b) n i = in_brackets left_brace right_brace w r y refl (λ z j. is_empty_object j) (λ z j. blanks_closed right_brace r z refl b j) i
  value_found r y (is_object {m = m} ms) n i = in_brackets left_brace right_brace m r y refl (λ z j. is_object j) (λ z j. members_found r z ms j) i

  elements_found : {m : List ℕ} {ts : Trees} (r y : List ℕ) → ElementList m ts → SameTokens (m ++ right_bracket ∷ r) y → Closed (Elements ts) right_bracket r y
  elements_found r y (last {w = w} {s = s} {v = v} {c = c} bw a bv k) i =
      let j = subst (λ z. SameTokens z y) (regroup w s v c (right_bracket ∷ r)) i in
      let first = value_first (c ++ right_bracket ∷ r) y bw a bv j in
      let f = found_behind y first (value_found (v ++ (c ++ right_bracket ∷ r)) first.rest a (blanks_stop (c ++ right_bracket ∷ r) bv (comma_stops right_bracket r refl k)) first.goes_on) in
      last_put r y f (last_closed right_bracket r f.rest refl bv k f.goes_on)
  elements_found r y (next {w = w} {s = s} {v = v} {m = m} bw a bv es) i =
      let j = subst (λ z. SameTokens z y) (regroup w s v (comma_sign ∷ m) (right_bracket ∷ r)) i in
      let u = comma_sign ∷ (m ++ right_bracket ∷ r) in
      let first = value_first u y bw a bv j in
      let f = found_behind y first (value_found (v ++ u) first.rest a (blanks_stop u bv (not_part comma_sign refl)) first.goes_on) in
      let g = blanks_comma (m ++ right_bracket ∷ r) f.rest bv f.goes_on in
      next_put r y f g (elements_found r g.rest es g.goes_on)

  members_found : {m : List ℕ} {ps : Members} (r y : List ℕ) → MemberList m ps → SameTokens (m ++ right_brace ∷ r) y → Closed (MembersOf ps) right_brace r y
  members_found r y (last_member {p = p} {c = c} a k) i =
      let j = subst (λ z. SameTokens z y) (append_assoc p c (right_brace ∷ r)) i in
      let f = member_found (c ++ right_brace ∷ r) y a (last_ahead right_brace r refl k) (comma_stops right_brace r refl k) j in
      last_member_put r y f (last_closed right_brace r f.rest refl blanks.empty k f.goes_on)
  members_found r y (next_member {p = p} {m = m} a ms) i =
      let j = subst (λ z. SameTokens z y) (append_assoc p (comma_sign ∷ m) (right_brace ∷ r)) i in
      let f = member_found (comma_sign ∷ (m ++ right_brace ∷ r)) y a (comma_ahead (m ++ right_brace ∷ r)) (not_part comma_sign refl) j in
      let g = blanks_comma (m ++ right_brace ∷ r) f.rest blanks.empty f.goes_on in
      next_member_put r y f g (members_found r g.rest ms g.goes_on)

  member_found : {p u : List ℕ} {escape_free : Bool} {t : Tree} (r y : List ℕ) → Member p u escape_free t → Ahead r → NotBegun is_word_part r → SameTokens (p ++ r) y → Kept (λ z. Member z u escape_free t) r y
  member_found r y (entry {a = a} {k = k} {b = b} {w = w} {s = s} {v = v} ba key bb bw vs bv) ahead n i =
      let j = subst (λ z. SameTokens z y) (regroup_pair a k b w s v r) i in
      let f = key_found (w ++ (s ++ (v ++ r))) y ba key bb j in
      let g = blanks_closed colon_sign (w ++ (s ++ (v ++ r))) f.rest refl bb f.goes_on in
      let first = value_first r g.rest bw vs bv g.goes_on in
      let h = found_behind g.rest first (value_found (v ++ r) first.rest vs (blanks_stop r bv n) first.goes_on) in
      member_put r y key f g h (before h.rest bv ahead h.goes_on)

-- a text with the tokens of a document is a document of the same tree
pub document_kept : (limit : ℕ) (x y : List ℕ) (t : Tree) → Doc limit x t → SameTokens x y → Doc limit y t
document_kept limit x y t d s =
    let first = before y d.blank (value_ahead d.after d.value) (subst (λ z. SameTokens z y) d.whole s) in
    let f = found_behind y first (value_found d.after first.rest d.value (last_stops d.last) first.goes_on) in
    record {
      before = f.front;
      text = f.phrase;
      after = f.rest;
      whole = f.split;
      blank = f.blank;
      value = f.holds;
      last = last_kept f.rest d.last f.goes_on;
      shallow = d.shallow;
    }
