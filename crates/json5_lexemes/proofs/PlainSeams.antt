-- A plain text is taken apart and put together again between whole tokens. For edits: a value or a key in the place of
-- another, an entry that comes with a comma, or one that goes with its comma.
use Rattle.std.proofs.Common.{◌≡◌, ◌≢◌, ℕ, Bool, true, false, ◌||◌, inl, inr, List, [], ◌∷◌, ◌++◌, refl, sym, ◌∙◌, ap, subst, append_assoc, arith}
use Rattle.std.specs.Prelude.{◌==◌}
use Rattle.std.proofs.lemmas.Bool.{both_ways}
use Rattle.std.proofs.lemmas.Bool.Decides.{nat_tests}
use Rattle.std.proofs.lemmas.List.{append-nil}
use Rattle.json5_grammar.specs.Language.Blanks.{Blanks, LastBlanks}
use Rattle.json5_grammar.specs.Language.Blanks as blanks
use Rattle.json5_grammar.specs.Language.Characters.{is_blank, comma_sign, colon_sign, slash_sign, star_sign, left_bracket, left_brace, NotBegun, Each}
use Rattle.json5_grammar.specs.Language.Strings.{is_quote}
use Rattle.json5_grammar.specs.Language.Trees.{Tree, Trees, Members, no_more, more, no_member, member}
use Rattle.json5_grammar.specs.Language.Values.{KeyText, Val, is_null, is_true, is_false, is_number, is_text, is_empty_array, is_array, is_empty_object, is_object}
use Rattle.json5_grammar.specs.Model.Collections.{IsSign, IsEnd, Tail, MembersTail}
use Rattle.json5_styles.specs.Json.{is_json_blank, JsonString}
use Rattle.json5_lexemes.specs.Plain.{is_opening, is_closing, Plain}
use Rattle.json5_lexemes.specs.Plain as plain
use Rattle.json5_lexemes.specs.SameLexemes.{is_separator, is_sign, is_word_part}
use Rattle.json5_lexemes.specs.Spans.{Spans, Apart, AfterEntry, at_comma, at_bracket, at_end}
use Rattle.json5_lexemes.specs.Spans as spans
use Rattle.json5_lexemes.specs.Tokens as tokens
use Rattle.json5_lexemes.specs.declared.plain.Last.{Last}
use Rattle.json5_lexemes.specs.declared.plain.Last.TheVariants as last
use Rattle.json5_lexemes.proofs.DocumentLexemes.{terminator_blank, blanks_stop, last_stops, sign_no_part, not_part}
use Rattle.json5_lexemes.proofs.OneList.{part_apart, each_head}
use Rattle.json5_lexemes.proofs.PlainTokens.{plain_blank, plain_open, plain_close, plain_comma, plain_colon, plain_line, plain_block, plain_word, plain_string}
use Rattle.json5_lexemes.proofs.TokensSpanned.{stops_after, value_alone, SpansAlone}
use Rattle.json5_lexemes.proofs.WordParts.{IsToken, a_word, a_string, scalar_token, key_token}

-- ---- a seam after whole tokens

-- x is plain before r, what follows it is plain, and so is x before whatever may come in the place of r
pub record Seam (k : Bool) (l : Last) (x : List ℕ) (m : Last) (r : List ℕ) : Type 0 where
  pub rest : Plain k m r
  pub again : (s : List ℕ) → Apart m s → Plain k m s → Plain k l (x ++ s)

-- a bracket or a colon is the first of a plain text, and may be so before another text
pub sign_taken : {k : Bool} {l : Last} (c : ℕ) {r : List ℕ} → is_sign c ≡ true → Plain k l (c ∷ r) → Plain k last.Sign r × ((s : List ℕ) → Plain k last.Sign s → Plain k l (c ∷ s))
sign_taken {k = k} {l = l} c {r = r} h p = by_opening (is_opening c) refl
  where
    colon : (c : ℕ) → is_sign c ≡ true → is_opening c ≡ false → is_closing c ≡ false → c ≡ colon_sign
    colon c h o e = grind (arith, nat_tests)

    at_colon : c ≡ colon_sign → Plain k last.Sign r × ((s : List ℕ) → Plain k last.Sign s → Plain k l (c ∷ s))
    at_colon e =
        let a = plain_colon (subst (λ z. Plain k l (z ∷ r)) e p) in
        (a.1, λ s q. subst (λ z. Plain k l (z ∷ s)) (sym e) (subst (λ z. Plain k z (colon_sign ∷ s)) (sym a.0) (plain.colon q)))

    by_closing : (b : Bool) → is_closing c ≡ b → is_opening c ≡ false → Plain k last.Sign r × ((s : List ℕ) → Plain k last.Sign s → Plain k l (c ∷ s))
    by_closing true e o = let a = plain_close c e p in (a.1, λ s q. plain.closes a.0 e q)
    by_closing false e o = at_colon (colon c h o e)

    by_opening : (b : Bool) → is_opening c ≡ b → Plain k last.Sign r × ((s : List ℕ) → Plain k last.Sign s → Plain k l (c ∷ s))
    by_opening true e = (plain_open c e p, λ s q. plain.opens e q)
    by_opening false e = by_closing (is_closing c) refl e

-- the seam after whole tokens: l is what came before them, m what comes last in them
pub seam : {k : Bool} {l m : Last} {x : List ℕ} (r : List ℕ) → Spans l x m → Apart m r → Plain k l (x ++ r) → Seam k l x m r
seam r spans.nothing a p = record { rest = p; again = λ s n q. q }
seam r (spans.blank {c = c} h i) a p =
    let b = plain_blank c h p in
    let f = seam r i a b.1 in
    record { rest = f.rest; again = λ s n q. plain.blank b.0 (f.again s n q) }
seam {k = k} {l = l} r (spans.line {x = x} c {r = t} e h i) a p =
    let b = plain_line e (rw h refl) (subst (λ z. Plain k l (slash_sign ∷ slash_sign ∷ z)) (append_assoc x (c ∷ t) r) p) in
    let d = plain_blank c (terminator_blank c h) b.1 in
    let f = seam r i a d.1 in
    record {
      rest = f.rest;
      again = λ s n q. subst (λ z. Plain k l (slash_sign ∷ slash_sign ∷ z)) (sym (append_assoc x (c ∷ t) s)) (plain.line b.0 e (rw h refl) (plain.blank d.0 (f.again s n q)));
    }
seam {k = k} {l = l} r (spans.block {x = x} {r = t} j i) a p =
    let b = plain_block j (subst (λ z. Plain k l (slash_sign ∷ star_sign ∷ z)) (append_assoc x (star_sign ∷ slash_sign ∷ t) r) p) in
    let f = seam r i a b.1 in
    record {
      rest = f.rest;
      again = λ s n q. subst (λ z. Plain k l (slash_sign ∷ star_sign ∷ z)) (sym (append_assoc x (star_sign ∷ slash_sign ∷ t) s)) (plain.block b.0 j (f.again s n q));
    }
seam r (spans.comma i) a p =
    let f = seam r i a (plain_comma p) in
    record { rest = f.rest; again = λ s n q. plain.comma (f.again s n q) }
seam r (spans.sign {c = c} {r = t} h i) a p =
    let b = sign_taken c h p in
    let f = seam r i a b.0 in
    record { rest = f.rest; again = λ s n q. b.1 (t ++ s) (f.again s n q) }
seam {k = k} {l = l} r (spans.word {s = w} {r = t} some e j i) a p =
    let b = plain_word some e (stops_after t r i j a) (subst (Plain k l) (append_assoc w t r) p) in
    let f = seam r i a b.1 in
    record {
      rest = f.rest;
      again = λ s n q. subst (Plain k l) (sym (append_assoc w t s)) (plain.word b.0 (stops_after t s i j n) (f.again s n q));
    }
seam {k = k} {l = l} r (spans.string {q = c} {s = w} {r = t} h j i) a p =
    let b = plain_string c h j (subst (λ z. Plain k l (c ∷ z)) (append_assoc w t r) p) in
    let f = seam r i a b.1 in
    record {
      rest = f.rest;
      again = λ s n q. subst (λ z. Plain k l (c ∷ z)) (sym (append_assoc w t s)) (plain.string b.0 (f.again s n q));
    }

-- a text of whole tokens is plain by itself, if it is so before another
pub front_plain : {k : Bool} {l m : Last} {x : List ℕ} (r : List ℕ) → Spans l x m → Apart m r → Plain k l (x ++ r) → Plain k l x
front_plain {k = k} {l = l} {x = x} r i a p = subst (Plain k l) (append-nil x) ((seam r i a p).again [] (λ e. tt) plain.ends)

-- and then before whatever is plain after it
pub put_before : {k : Bool} {l m : Last} {x : List ℕ} (r : List ℕ) → Spans l x m → Apart m r → Plain k l x → Plain k m r → Plain k l (x ++ r)
put_before {k = k} {l = l} {x = x} r i a p q = (seam [] i (λ e. tt) (subst (Plain k l) (sym (append-nil x)) p)).again r a q

-- ---- blanks

-- blanks are plain before r, what follows them is plain, and so are they before whatever may come in the place of r,
-- after any token
pub record BlankSeam (k : Bool) (l : Last) (w r : List ℕ) : Type 0 where
  pub rest : Plain k l r
  pub again : (m : Last) (s : List ℕ) → Plain k m s → Plain k m (w ++ s)

pub blank_seam : {k : Bool} {l : Last} {w : List ℕ} (r : List ℕ) → Blanks w → Plain k l (w ++ r) → BlankSeam k l w r
blank_seam r blanks.empty p = record { rest = p; again = λ m s q. q }
blank_seam r (blanks.blank {c = c} h i) p =
    let b = plain_blank c h p in
    let f = blank_seam r i b.1 in
    record { rest = f.rest; again = λ m s q. plain.blank b.0 (f.again m s q) }
blank_seam {k = k} {l = l} r (blanks.line {x = x} c {s = t} e h i) p =
    let b = plain_line e (rw h refl) (subst (λ z. Plain k l (slash_sign ∷ slash_sign ∷ z)) (append_assoc x (c ∷ t) r) p) in
    let d = plain_blank c (terminator_blank c h) b.1 in
    let f = blank_seam r i d.1 in
    record {
      rest = f.rest;
      again = λ m s q. subst (λ z. Plain k m (slash_sign ∷ slash_sign ∷ z)) (sym (append_assoc x (c ∷ t) s)) (plain.line b.0 e (rw h refl) (plain.blank d.0 (f.again m s q)));
    }
blank_seam {k = k} {l = l} r (blanks.block {x = x} {s = t} j i) p =
    let b = plain_block j (subst (λ z. Plain k l (slash_sign ∷ star_sign ∷ z)) (append_assoc x (star_sign ∷ slash_sign ∷ t) r) p) in
    let f = blank_seam r i b.1 in
    record {
      rest = f.rest;
      again = λ m s q. subst (λ z. Plain k m (slash_sign ∷ star_sign ∷ z)) (sym (append_assoc x (star_sign ∷ slash_sign ∷ t) s)) (plain.block b.0 j (f.again m s q));
    }

-- ---- a value

-- a value is plain before r: after it comes a token that is no comma, and whatever is plain after that may come
pub record ValueSeam (k : Bool) (l : Last) (s r : List ℕ) : Type 0 where
  pub kind : Last
  pub no_comma : kind ≢ last.Comma
  pub rest : Plain k kind r
  pub again : (x : List ℕ) → NotBegun is_word_part x → Plain k kind x → Plain k l (s ++ x)

alone_seam : {k : Bool} {l : Last} {s : List ℕ} (r : List ℕ) → SpansAlone s → NotBegun is_word_part r → Plain k l (s ++ r) → ValueSeam k l s r
alone_seam {l = l} r a n p =
    let f = seam r (a.spans l) (λ e. n) p in
    record { kind = a.kind; no_comma = a.no_comma; rest = f.rest; again = λ x m q. f.again x (λ e. m) q }

pub value_seam : {k : Bool} {l : Last} {s : List ℕ} {t : Tree} (r : List ℕ) → Val s t → NotBegun is_word_part r → Plain k l (s ++ r) → ValueSeam k l s r
value_seam r v n p = alone_seam r (value_alone v) n p

-- ---- a key

-- a key is plain before blanks, a colon and r: then it is a string of JSON, and so may be any other in its place
pub record KeySeam (k : Bool) (l : Last) (key blank r : List ℕ) : Type 0 where
  pub is_json : JsonString key
  pub rest : Plain k last.Text (blank ++ colon_sign ∷ r)
  pub value : Plain k last.Sign r
  pub again : (m : Last) (other : List ℕ) → JsonString other → Plain k m (other ++ (blank ++ colon_sign ∷ r))

pub key_seam : {k : Bool} {l : Last} {key blank u : List ℕ} {escape_free : Bool} (r : List ℕ) → KeyText key u escape_free → Blanks blank → Plain k l (key ++ (blank ++ colon_sign ∷ r)) → KeySeam k l key blank r
key_seam {k = k} {l = l} {key = key} {blank = w} r text b p = by_token (key_token text)
  where
    by_token : IsToken key → KeySeam k l key w r
    by_token (a_word some e) =
        let a = plain_word some e (blanks_stop (colon_sign ∷ r) b (sign_no_part colon_sign refl)) p in
        let c = plain_colon (blank_seam (colon_sign ∷ r) b a.1).rest in
        let no : last.Word ≡ last.Text = c.0 in
        absurd (cc)
    by_token (a_string q t e h j) =
        let a = plain_string q h j (subst (λ z. Plain k l (z ++ (w ++ colon_sign ∷ r))) e p) in
        let c = plain_colon (blank_seam (colon_sign ∷ r) b a.1).rest in
        record { is_json = subst JsonString (sym e) a.0; rest = a.1; value = c.1; again = λ m other s. plain.string s a.1 }

-- ---- where what came before makes no difference

-- the text begins as a value, a key or a comma does: with neither a blank nor a slash, a closing bracket or a colon
pub record BeginsFree (s : List ℕ) : Type 0 where
  pub first : ℕ
  pub more : List ℕ
  pub split : s ≡ first ∷ more
  pub no_blank : is_json_blank first ≡ false
  pub no_closing : is_closing first ≡ false
  pub no_colon : (first == colon_sign) ≡ false
  pub no_slash : (first == slash_sign) ≡ false

-- such a text is plain after any token, if it is so after one
pub free_turn : {k : Bool} {l : Last} {s x : List ℕ} (m : Last) (r : List ℕ) → BeginsFree s → x ≡ s ++ r → Plain k l x → Plain k m x
free_turn m r b e p = by_first p (e ∙ ap (λ z. z ++ r) b.split)
  where
    impossible : {k : Bool} {x : List ℕ} (f : ℕ → Bool) (c : ℕ) → f c ≡ true → c ≡ b.first → f b.first ≡ false → Plain k m x
    impossible f c h e n = absurd (both_ways (f b.first) n (subst (λ z. f z ≡ true) e h))

    by_first : {k : Bool} {l : Last} {x : List ℕ} → Plain k l x → x ≡ b.first ∷ (b.more ++ r) → Plain k m x
    by_first plain.ends e = plain.ends
    by_first (plain.blank {c = c} h p) e = impossible is_json_blank c h (cc) b.no_blank
    by_first (plain.line a i n p) e = impossible (λ c. c == slash_sign) slash_sign refl (cc) b.no_slash
    by_first (plain.block a i p) e = impossible (λ c. c == slash_sign) slash_sign refl (cc) b.no_slash
    by_first (plain.opens h p) e = plain.opens h p
    by_first (plain.closes {c = c} n h p) e = impossible is_closing c h (cc) b.no_closing
    by_first (plain.comma p) e = plain.comma p
    by_first (plain.colon p) e = impossible (λ c. c == colon_sign) colon_sign refl (cc) b.no_colon
    by_first (plain.word w n p) e = plain.word w n p
    by_first (plain.string s p) e = plain.string s p

-- a character of a word, a quote or an opening bracket is so
abbrev IsFree : ℕ → Type 0
IsFree c = (is_json_blank c ≡ false) × (is_closing c ≡ false) × ((c == colon_sign) ≡ false) × ((c == slash_sign) ≡ false)

begins : (c : ℕ) (s : List ℕ) → IsFree c → BeginsFree (c ∷ s)
begins c s f = record { first = c; more = s; split = refl; no_blank = f.0; no_closing = f.1; no_colon = f.2; no_slash = f.3 }

pub json_blank : (c : ℕ) → is_json_blank c ≡ true → is_blank c ≡ true
json_blank c h = grind (arith, nat_tests)

part_free : (c : ℕ) → is_word_part c ≡ true → IsFree c
part_free c h =
    let a = part_apart c h in
    (no_blank (is_json_blank c) refl a.0, (no_sign c a.1).0, (no_sign c a.1).1, a.3)
  where
    separates : (a b : Bool) → b ≡ true → (a || b) ≡ true
    separates true b h = refl
    separates false b h = h

    no_blank : (b : Bool) → is_json_blank c ≡ b → is_separator c ≡ false → is_json_blank c ≡ false
    no_blank true e n = absurd (both_ways (is_separator c) n (separates (c == comma_sign) (is_blank c) (json_blank c e)))
    no_blank false e n = e

    no_sign : (c : ℕ) → is_sign c ≡ false → (is_closing c ≡ false) × ((c == colon_sign) ≡ false)
    no_sign c h = (grind (arith, nat_tests), grind (arith, nat_tests))

quote_free : (c : ℕ) → is_quote c ≡ true → IsFree c
quote_free c h = (grind (arith, nat_tests), grind (arith, nat_tests), grind (arith, nat_tests), grind (arith, nat_tests))

token_begins : {s : List ℕ} → IsToken s → BeginsFree s
token_begins {s = s} (a_word some e) = word s some e
  where
    word : (s : List ℕ) → s ≢ [] → Each is_word_part s → BeginsFree s
    word [] some e = absurd (some refl)
    word (c ∷ s) some e = begins c s (part_free c (each_head e))
token_begins (a_string q t e h j) = subst BeginsFree (sym e) (begins q t (quote_free q h))

pub key_begins : {k u : List ℕ} {escape_free : Bool} → KeyText k u escape_free → BeginsFree k
key_begins k = token_begins (key_token k)

pub value_begins : {s : List ℕ} {t : Tree} → Val s t → BeginsFree s
value_begins is_null = token_begins (scalar_token tokens.is_null)
value_begins is_true = token_begins (scalar_token tokens.is_true)
value_begins is_false = token_begins (scalar_token tokens.is_false)
value_begins (is_number a) = token_begins (scalar_token (tokens.is_number a))
value_begins (is_text a) = token_begins (scalar_token (tokens.is_text a))
value_begins (is_empty_array {w = w} b) = begins left_bracket (w ++ 93 ∷ []) (refl, refl, refl, refl)
value_begins (is_array {m = m} es) = begins left_bracket (m ++ 93 ∷ []) (refl, refl, refl, refl)
value_begins (is_empty_object {w = w} b) = begins left_brace (w ++ 125 ∷ []) (refl, refl, refl, refl)
value_begins (is_object {m = m} ms) = begins left_brace (m ++ 125 ∷ []) (refl, refl, refl, refl)

-- blanks, and then a value, a key or a comma: plain after any token, if it is so after one
pub entry_turn : {k : Bool} {l : Last} {w s : List ℕ} (m : Last) (r : List ℕ) → Blanks w → BeginsFree s → Plain k l (w ++ (s ++ r)) → Plain k m (w ++ (s ++ r))
entry_turn {s = s} m r b f p = let c = blank_seam (s ++ r) b p in c.again m (s ++ r) (free_turn m r f refl c.rest)

-- ---- what may follow an entry

-- it goes on with no word
pub after_stops : {r : List ℕ} → AfterEntry r → NotBegun is_word_part r
after_stops (at_comma r b) = blanks_stop (comma_sign ∷ r) b (not_part comma_sign refl)
after_stops (at_bracket c r b h) = blanks_stop (c ∷ r) b (sign_no_part c (closing c h))
  where
    closing : (c : ℕ) → is_closing c ≡ true → is_sign c ≡ true
    closing c h = grind (arith, nat_tests)
after_stops (at_end b) = last_stops b

-- it is plain after any token but a comma, if it is so after one
pub after_turn : {k : Bool} {l : Last} {r : List ℕ} (m : Last) → m ≢ last.Comma → AfterEntry r → Plain k l r → Plain k m r
after_turn m n (at_comma r b) p = let f = blank_seam (comma_sign ∷ r) b p in f.again m (comma_sign ∷ r) (plain.comma (plain_comma f.rest))
after_turn m n (at_bracket c r b h) p = let f = blank_seam (c ∷ r) b p in f.again m (c ∷ r) (plain.closes n h (plain_close c h f.rest).1)
after_turn {k = k} {l = l} m n (at_end (LastBlanks.blanks {w = w} b)) p =
    subst (Plain k m) (append-nil w) ((blank_seam [] b (subst (Plain k l) (sym (append-nil w)) p)).again m [] plain.ends)
after_turn {k = k} {l = l} m n (at_end (blanks.open_line {w = w} {x = x} b e)) p =
    let f = blank_seam (slash_sign ∷ slash_sign ∷ x) b p in
    let y : Plain k l (slash_sign ∷ slash_sign ∷ x ++ []) = subst (λ z. Plain k l (slash_sign ∷ slash_sign ∷ z)) (sym (append-nil x)) f.rest in
    f.again m (slash_sign ∷ slash_sign ∷ x) (subst (λ z. Plain k m (slash_sign ∷ slash_sign ∷ z)) (append-nil x) (plain.line (plain_line e tt y).0 e tt plain.ends))

-- what follows an entry in an array or in an object is so
sign_after : {c : ℕ} {x r : List ℕ} → is_closing c ≡ true → IsSign c x r → AfterEntry x
sign_after {c = c} {r = r} h i = subst AfterEntry (sym i.split) (at_bracket c r i.blank h)

comma_after : {x r : List ℕ} → IsSign comma_sign x r → AfterEntry x
comma_after {r = r} i = subst AfterEntry (sym i.split) (at_comma r i.blank)

end_after : {c : ℕ} {x r : List ℕ} → is_closing c ≡ true → IsEnd c true x r → AfterEntry x
end_after h (inl i) = sign_after h i
end_after h (inr (y, i, j)) = comma_after i

pub elements_after : {x : List ℕ} (us : Trees) (r : List ℕ) → Tail us true x r → AfterEntry x
elements_after no_more r i = end_after refl i
elements_after (more t us) r (y, (z, i, j), k) = comma_after i

pub members_after : {x : List ℕ} (qs : Members) (r : List ℕ) → MembersTail qs true x r → AfterEntry x
members_after no_member r i = end_after refl i
members_after (member u escape_free t qs) r (y, z, (v, i, j), a, k) = comma_after i

-- ---- values in texts

-- a plain value before what is plain after any token but a comma is plain after any token
pub value_before : {k : Bool} {l : Last} {s : List ℕ} {t : Tree} (m : Last) (r : List ℕ) → Val s t → Plain k l s → NotBegun is_word_part r → ((n : Last) → n ≢ last.Comma → Plain k n r) → Plain k m (s ++ r)
value_before {k = k} {l = l} {s = s} m r v p n f =
    let a = value_alone v in
    let q : Plain k m s = subst (Plain k m) (append-nil s) (free_turn m [] (value_begins v) refl (subst (Plain k l) (sym (append-nil s)) p)) in
    put_before r (a.spans m) (λ e. n) q (f a.kind a.no_comma)

-- a value in the place of another
pub value_replaced : {k : Bool} {l n : Last} {old new : List ℕ} {t u : Tree} (m : Last) (r : List ℕ) → Val old t → Val new u → AfterEntry r → Plain k l (old ++ r) → Plain k n new → Plain k m (new ++ r)
value_replaced m r v w a p q =
    let f = value_seam r v (after_stops a) p in
    value_before m r w q (after_stops a) (λ n c. after_turn n c a f.rest)

-- within a text: what came before the value is whole tokens
pub value_changed : {k : Bool} {l m n : Last} {x old new : List ℕ} {t u : Tree} (r : List ℕ) → Spans l x m → Apart m (old ++ r) → Apart m (new ++ r) → Val old t → Val new u → AfterEntry r
    → Plain k l (x ++ (old ++ r)) → Plain k n new → Plain k l (x ++ (new ++ r))
value_changed {m = m} {old = old} {new = new} r i a b v w f p q = let e = seam (old ++ r) i a p in e.again (new ++ r) b (value_replaced m r v w f e.rest q)

-- ---- entries in texts, each as whole tokens without the comma

-- one comes after x, with a comma before it
pub entry_put_after : {k : Bool} {l m n : Last} {x came : List ℕ} (r : List ℕ) → Spans l x m → Spans last.Comma came n → n ≢ last.Comma → AfterEntry r
    → Plain k l (x ++ r) → Plain k last.Comma came → Plain k l (x ++ comma_sign ∷ (came ++ r))
entry_put_after {n = n} {came = came} r i j c f p q =
    let e = seam r i (λ w. after_stops f) p in
    e.again (comma_sign ∷ (came ++ r)) (λ w. not_part comma_sign refl) (plain.comma (put_before r j (λ w. after_stops f) q (after_turn n c f e.rest)))

-- one that stood after x goes, with the comma before it
pub entry_cut_after : {k : Bool} {l m n : Last} {x gone : List ℕ} (r : List ℕ) → Spans l x m → m ≢ last.Comma → Spans last.Comma gone n → AfterEntry r
    → Plain k l (x ++ comma_sign ∷ (gone ++ r)) → Plain k l (x ++ r)
entry_cut_after {m = m} {gone = gone} r i c j f p =
    let e = seam (comma_sign ∷ (gone ++ r)) i (λ w. not_part comma_sign refl) p in
    e.again r (λ w. after_stops f) (after_turn m c f (seam r j (λ w. after_stops f) (plain_comma e.rest)).rest)

-- one comes after x with a comma after it, before blanks and an entry that begins with s
pub entry_put_before : {k : Bool} {l m n : Last} {x came w s : List ℕ} (r : List ℕ) → Spans l x m → Apart m (w ++ (s ++ r)) → Apart m (came ++ comma_sign ∷ (w ++ (s ++ r))) → Spans m came n → Blanks w → BeginsFree s
    → Plain k l (x ++ (w ++ (s ++ r))) → Plain k m came → Plain k l (x ++ (came ++ comma_sign ∷ (w ++ (s ++ r))))
entry_put_before {came = came} {w = w} {s = s} r i a b j g f p q =
    let e = seam (w ++ (s ++ r)) i a p in
    e.again (came ++ comma_sign ∷ (w ++ (s ++ r))) b (put_before (comma_sign ∷ (w ++ (s ++ r))) j (λ w. not_part comma_sign refl) q (plain.comma (entry_turn last.Comma r g f e.rest)))

-- one that stood after x goes with the comma after it, before blanks and an entry that begins with s
pub entry_cut_before : {k : Bool} {l m n : Last} {x gone w s : List ℕ} (r : List ℕ) → Spans l x m → Apart m (gone ++ comma_sign ∷ (w ++ (s ++ r))) → Apart m (w ++ (s ++ r)) → Spans m gone n → Blanks w → BeginsFree s
    → Plain k l (x ++ (gone ++ comma_sign ∷ (w ++ (s ++ r)))) → Plain k l (x ++ (w ++ (s ++ r)))
entry_cut_before {m = m} {gone = gone} {w = w} {s = s} r i a b j g f p =
    let e = seam (gone ++ comma_sign ∷ (w ++ (s ++ r))) i a p in
    e.again (w ++ (s ++ r)) b (entry_turn m r g f (plain_comma (seam (comma_sign ∷ (w ++ (s ++ r))) j (λ w. not_part comma_sign refl) e.rest).rest))
