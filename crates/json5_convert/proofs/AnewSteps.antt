-- Steps over a document and what was made of it.
use Rattle.std.proofs.Common.{◌≡◌, ◌≢◌, ◌<◌, ◌≤◌, ◌+◌, ◌==◌, ℕ, Bool, true, false, List, [], ◌∷◌, ◌++◌, length, take, drop, refl, sym, ap, ap₂, ◌∙◌, subst, append_assoc, length-append, arith}
use denote.Ref.{Bor}
use Rattle.std.specs.Prelude.{◌||◌, not, Option, Some, None}
use Rattle.std.specs.Option.{is_some}
use Rattle.std.specs.Str.{all_scalars, chars, encode_utf8_all, IsCharBoundary, IsUtf8}
use Rattle.std.specs.List.{list_any}
use Rattle.std.proofs.lemmas.Bool.Decides.{nat_tests}
use Rattle.std.proofs.lemmas.List.{append_cancel_right}
use Rattle.std.proofs.lemmas.Str.{chars-encodes, scalars-chars}
use Rattle.ucd_category.specs.GeneralCategory.{general_category}
use Rattle.ucd_table.specs.Rows.{value_in}
use Rattle.ucd_category.specs.GeneralCategoryRows.{general_category_rows}
use Rattle.json5_grammar.specs.Language.Blanks.{Inside}
use Rattle.json5_grammar.specs.Language.Characters.{is_blank, is_identifier_start, is_identifier_part, backslash, comma_sign, colon_sign, NotBegun, Each, no_char, char}
use Rattle.json5_grammar.specs.Language.Names.{Key, Ident, NameParts, raw_name, escaped_name, no_part, part, name}
use Rattle.json5_grammar.specs.Language.Numbers.{Num, lengthens}
use Rattle.json5_grammar.specs.Language.Strings as strings
use Rattle.json5_grammar.specs.Language.Strings.{Str, quoted, Items, no_item, raw, escape, is_quote}
use Rattle.json5_grammar.specs.Language.Trees.{Tree}
use Rattle.json5_grammar.specs.Language.Values.{KeyText}
use Rattle.json5_grammar.proofs.CommonLemmas.{eq_from, neq_from}
use Rattle.json5_types.specs.declared.cow_str.CowStr.{CowStr}
use Rattle.json5_types.specs.declared.number.Number.{Number}
use Rattle.json5_types.specs.Cows.{cow_bytes, is_borrowed}
use Rattle.json5_types.specs.NumberMeanings.{number_of}
use Rattle.json5_types.specs.ValueMeanings as datum
use Rattle.json5_read.specs.TreeMeanings.{datum_of}
use Rattle.json5_styles.specs.Json.{is_json_blank}
use Rattle.json5_tokens.specs.Cursor.{Cursor, Took}
use Rattle.json5_tokens.specs.Scan.{StartsWith}
use Rattle.json5_tokens.specs.TextTokens.{IsCowOf, Spells}
use Rattle.json5_tokens.specs.declared.text_token.TextToken.{TextToken}
use Rattle.json5_tokens.proofs.TextCuts.{halves_at, no_chars, scalar_halves}
use Rattle.json5_tokens.proofs.UnicodeScalars.{key_scalars, text_scalars}
use Rattle.json5_lexemes.specs.PlainSteps.{IsPast}
use Rattle.json5_lexemes.specs.Lexemes.{Quoted}
use Rattle.json5_lexemes.specs.Lexemes as lexemes
use Rattle.json5_lexemes.specs.Runs.{is_text_byte}
use Rattle.json5_lexemes.specs.SameLexemes.{is_sign, is_word_part, is_line_part}
use Rattle.json5_lexemes.specs.SharedTokens.{IsPart, PassesBlanks, SharesName, SharesToken, is_mark}
use Rattle.json5_lexemes.specs.SharedTokens as shared
use Rattle.json5_lexemes.specs.Tokens as tokens
use Rattle.json5_lexemes.specs.Tokens.{Scalar}
use Rattle.json5_lexemes.proofs.DocumentLexemes.{sign_no_part}
use Rattle.json5_lexemes.proofs.OneList.{part_apart, each_head}
use Rattle.json5_lexemes.proofs.PlainSeams.{json_blank}
use Rattle.json5_lexemes.proofs.SharedSteps.{quoted_run}
use Rattle.json5_lexemes.proofs.WordParts.{IsToken, a_word, a_string, scalar_token, key_token}
use Rattle.json5_convert.specs.SpelledAnew.{BeginsNumber, IsBlankBefore, IsComment, IsKeyAt, IsNumberAt, IsStringAt, PassesAnew, PassesComma, in_first, in_second, PassesGap, PassesNumbers, PassesOn, PassesShort, Repeats, SameKeys, SameScalars, SpelledAnew, TokenBefore, Unquotes, begins_number, left_of}
use Rattle.json5_convert.specs.SpelledAnew as anew
use Rattle.json5_convert.proofs.AnewTokens.{itself_keys, itself_scalars, one_key_text, one_scalar}

-- ---- how much is left

shorter : (s x r : List ℕ) → x ≡ s ++ r → length r ≤ length x
shorter s x r e = let k : length x ≡ length s + length r = ap length e ∙ length-append s r in omega (arith, k)

shorter_by : (c : ℕ) (s x r : List ℕ) → x ≡ c ∷ s ++ r → length r < length x
shorter_by c s x r e = let k : length x ≡ length (c ∷ s) + length r = ap length e ∙ length-append (c ∷ s) r in omega (arith, k)

pub fewer_left : (left right after after_right : List ℕ) → length (chars after) < length (chars left) → length (chars after_right) ≤ length (chars right) → left_of after after_right < left_of left right
fewer_left left right after after_right a b = omega (arith, a, b)

fewer_right : (left right after after_right : List ℕ) → length (chars after) ≤ length (chars left) → length (chars after_right) < length (chars right) → left_of after after_right < left_of left right
fewer_right left right after after_right a b = omega (arith, a, b)

-- both texts begin so
put_back : {stay due : Bool} (left right x y : List ℕ) → chars left ≡ x → chars right ≡ y → SpelledAnew stay due x y → SpelledAnew stay due (chars left) (chars right)
put_back {stay = stay} {due = due} left right x y e f k = subst (λ z. SpelledAnew stay due z (chars right)) (sym e) (subst (SpelledAnew stay due x) (sym f) k)

-- ---- blanks

left_blanks : {stay : Bool} (s x y : List ℕ) → Each is_json_blank s → SpelledAnew stay false x y → SpelledAnew stay false (s ++ x) y
left_blanks [] x y no_char k = k
left_blanks (c ∷ s) x y (char h e) k = anew.left_blank (json_blank c h) (left_blanks s x y e k)

right_blanks : {stay : Bool} (s x y : List ℕ) → Each is_json_blank s → SpelledAnew stay false x y → SpelledAnew stay false x (s ++ y)
right_blanks [] x y no_char k = k
right_blanks (c ∷ s) x y (char h e) k = anew.right_blank (json_blank c h) (right_blanks s x y e k)

-- blanks of JSON in front of both texts
pub blanks_back : {stay : Bool} (left right after after_right : List ℕ) → PassesBlanks left after → PassesBlanks right after_right → SpelledAnew stay false (chars after) (chars after_right)
    → SpelledAnew stay false (chars left) (chars right)
blanks_back left right after after_right p q k =
    put_back left right (p.passed ++ chars after) (q.passed ++ chars after_right) p.split q.split
    (left_blanks p.passed (chars after) (q.passed ++ chars after_right) p.each (right_blanks q.passed (chars after) (chars after_right) q.each k))

pub blanks_fewer : (left right after after_right next next_right : List ℕ) → PassesBlanks left after → PassesBlanks right after_right → left_of next next_right < left_of after after_right → left_of next next_right < left_of left right
blanks_fewer left right after after_right next next_right p q l =
    let a = shorter p.passed (chars left) (chars after) p.split in
    let b = shorter q.passed (chars right) (chars after_right) q.split in
    omega (arith, a, b, l)

pub nothing_left : (text : List ℕ) → true ≡ (length text == 0) → chars text ≡ []
nothing_left text e = no_chars text (eq_from (length text) 0 (sym e))

pub both_ended : {stay : Bool} (left right : List ℕ) → chars left ≡ [] → chars right ≡ [] → SpelledAnew stay false (chars left) (chars right)
both_ended left right e f = put_back left right [] [] e f anew.ends

-- ---- what is spelled alike

mark_alike : {stay : Bool} (c : ℕ) (x y : List ℕ) (b : Bool) → (c == comma_sign) ≡ b → is_mark c ≡ true → SpelledAnew stay false x y → SpelledAnew stay false (c ∷ x) (c ∷ y)
mark_alike {stay = stay} c x y true e h k = let is : c ≡ comma_sign = eq_from c comma_sign e in subst (λ z. SpelledAnew stay false (z ∷ x) (z ∷ y)) (sym is) (anew.left_comma (anew.right_comma k))
mark_alike c x y false e h k = let n : is_sign c ≡ true = rw e at h in anew.sign n k

alike : {stay : Bool} (c : ℕ) (s x y : List ℕ) → IsPart c s x → IsPart c s y → SpelledAnew stay false x y → SpelledAnew stay false (c ∷ s ++ x) (c ∷ s ++ y)
alike c s x y (shared.mark h) j k = mark_alike c x y (c == comma_sign) refl h k
alike c s x y (shared.word e n) (shared.word f m) k = anew.value (anew.word e n) (anew.word f m) (itself_scalars (c ∷ s)) (itself_keys (c ∷ s)) k
alike c s x y (shared.word e n) (shared.string h i) k = anew.value (anew.word e n) (anew.string h i) (itself_scalars (c ∷ s)) (itself_keys (c ∷ s)) k
alike c s x y (shared.string h i) (shared.word f m) k = anew.value (anew.string h i) (anew.word f m) (itself_scalars (c ∷ s)) (itself_keys (c ∷ s)) k
alike c s x y (shared.string h i) (shared.string g j) k = anew.value (anew.string h i) (anew.string g j) (itself_scalars (c ∷ s)) (itself_keys (c ∷ s)) k
alike c s x y (shared.word e n) (shared.mark h) k = mark_alike c x y (c == comma_sign) refl h k
alike c s x y (shared.string h i) (shared.mark g) k = mark_alike c x y (c == comma_sign) refl g k

pub alike_on : (c : ℕ) (left right rest rest_right after after_right : List ℕ) → StartsWith left c rest × StartsWith right c rest_right → SharesToken c rest rest_right after after_right → PassesShort left right after after_right
alike_on c left right rest rest_right after after_right (a, b) g stay =
    let e = a.chars ∙ ap (λ z. c ∷ z) g.in_left in
    let f = b.chars ∙ ap (λ z. c ∷ z) g.in_right in
    record {
      same = λ k. put_back left right (c ∷ g.rest ++ chars after) (c ∷ g.rest ++ chars after_right) e f (alike c g.rest (chars after) (chars after_right) g.is_left g.is_right k);
      fewer = fewer_left left right after after_right (shorter_by c g.rest (chars left) (chars after) e) (let h = shorter_by c g.rest (chars right) (chars after_right) f in omega (arith, h));
    }

-- ---- a name in quotes and bare

text_no_quote : (c q : ℕ) → is_text_byte c ≡ true → is_quote q ≡ true → c ≢ q
text_no_quote c q p k = grind (arith, nat_tests)

no_backslash : {s : List ℕ} → Each is_text_byte (backslash ∷ s) → ⊥
no_backslash (char h e) = absurd (cc)

rest_plain : {c : ℕ} {s : List ℕ} → Each is_text_byte (c ∷ s) → Each is_text_byte s
rest_plain (char h e) = e

escaped : {e v r : List ℕ} (s : List ℕ) → strings.Escape e v r → Each is_text_byte (e ++ s) → ⊥
escaped s (strings.short h) k = no_backslash k
escaped s (strings.nul h) k = no_backslash k
escaped s (strings.byte h) k = no_backslash k
escaped s (strings.unicode (strings.single x h)) k = no_backslash k
escaped s (strings.unicode (strings.surrogates x y a b)) k = no_backslash k
escaped s (strings.line_end t n) k = no_backslash k
escaped s strings.cr_lf k = no_backslash k
escaped s (strings.lone_cr n) k = no_backslash k
escaped s (strings.itself h) k = no_backslash k

-- without a backslash the items of a string are its text
items_plain : {q : ℕ} {r s u : List ℕ} {f : Bool} → Items q r s u f → Each is_text_byte s → u ≡ s
items_plain no_item e = refl
items_plain (raw {c = c} h i) (char p e) = ap (λ z. c ∷ z) (items_plain i e)
items_plain (escape {e = v} {s = s} x i) e = absurd (escaped s x e)

parts_plain : {s u : List ℕ} {f : Bool} → NameParts s u f → Each is_text_byte s → u ≡ s
parts_plain no_part e = refl
parts_plain (part (raw_name {c = c} n) h i) (char p e) = ap (λ z. c ∷ z) (parts_plain i e)
parts_plain (part (escaped_name (strings.single x k)) h i) e = absurd (no_backslash e)
parts_plain (part (escaped_name (strings.surrogates x y a b)) h i) e = absurd (no_backslash e)

ident_plain : {s u : List ℕ} {f : Bool} → Ident s u f → Each is_text_byte s → u ≡ s
ident_plain (name (raw_name {c = c} n) h i) (char p e) = ap (λ z. c ∷ z) (parts_plain i e)
ident_plain (name (escaped_name (strings.single x k)) h i) e = absurd (no_backslash e)
ident_plain (name (escaped_name (strings.surrogates x y a b)) h i) e = absurd (no_backslash e)

no_starts : (is_identifier_start 34 ≡ false) × (is_identifier_start 39 ≡ false) × (is_identifier_start 92 ≡ false) × (is_identifier_start 43 ≡ false) × (is_identifier_start 45 ≡ false) × (is_identifier_start 46 ≡ false)
unfolding is_identifier_start general_category value_in general_category_rows
no_starts = (refl, refl, refl, refl, refl, refl)

apart : {b : Bool} → b ≡ true → b ≡ false → ⊥
apart h n = let both : true ≡ false = sym h ∙ n in cc

quote_is : (q : ℕ) → is_quote q ≡ true → is_identifier_start q ≡ false
quote_is q h = by (q == 34) refl h
  where
    by : (b : Bool) → (q == 34) ≡ b → is_quote q ≡ true → is_identifier_start q ≡ false
    by true e h = ap is_identifier_start (eq_from q 34 e) ∙ no_starts.0
    by false e h = let k : (q == 39) ≡ true = rw e at h in ap is_identifier_start (eq_from q 39 k) ∙ no_starts.1

no_quote_name : {s t u : List ℕ} {f : Bool} (q : ℕ) → is_quote q ≡ true → s ≡ q ∷ t → Ident s u f → ⊥
no_quote_name q h e (name (raw_name {c = c} n) k i) = let same : c ≡ q = cc in apart (ap is_identifier_start (sym same) ∙ k) (quote_is q h)
no_quote_name q h e (name (escaped_name (strings.single x k)) l i) = let same : 92 ≡ q = cc in apart h (ap is_quote (sym same))
no_quote_name q h e (name (escaped_name (strings.surrogates x y a b)) l i) = let same : 92 ≡ q = cc in apart h (ap is_quote (sym same))

quoted_text : {k u : List ℕ} {f : Bool} (q : ℕ) (w : List ℕ) → is_quote q ≡ true → Each is_text_byte w → k ≡ q ∷ w ++ q ∷ [] → KeyText k u f → u ≡ w
quoted_text q w h e is (KeyText.name_key i) = absurd (no_quote_name q h is i)
quoted_text {u = u} q w h e is (KeyText.string_key (quoted {q = p} {s = s} k i)) =
    let first : p ≡ q = cc in
    let rest : s ++ p ∷ [] ≡ w ++ q ∷ [] = cc in
    let same : s ≡ w = append_cancel_right s w (q ∷ []) (ap (λ z. s ++ z ∷ []) (sym first) ∙ rest) in
    items_plain i (subst (Each is_text_byte) (sym same) e) ∙ same

bare_text : {u : List ℕ} {f : Bool} (c : ℕ) (w : List ℕ) {k : List ℕ} → Each is_word_part (c ∷ w) → Each is_text_byte (c ∷ w) → k ≡ c ∷ w → KeyText k u f → u ≡ c ∷ w
bare_text c w p e is (KeyText.name_key i) = ident_plain i (subst (Each is_text_byte) (sym is) e) ∙ is
bare_text c w p e is (KeyText.string_key (quoted {q = q} h i)) = let same : q ≡ c = cc in absurd (apart h (ap is_quote same ∙ (part_apart c (each_head p)).2))

same_name : (q c : ℕ) (w : List ℕ) → is_quote q ≡ true → Each is_word_part (c ∷ w) → Each is_text_byte (c ∷ w) → SameKeys (q ∷ (c ∷ w) ++ q ∷ []) (c ∷ w)
same_name q c w h p e u v f g i j = quoted_text q (c ∷ w) h e refl i ∙ sym (bare_text c w p e refl j)

colon_ends : (r : List ℕ) → NotBegun is_word_part (colon_sign ∷ r)
colon_ends r = sign_no_part colon_sign refl

quoted_before : (q : ℕ) (w r : List ℕ) → is_quote q ≡ true → Each is_text_byte w → TokenBefore r (q ∷ w ++ q ∷ [])
quoted_before q w r h e = anew.string h (quoted_run q w (q ∷ []) h e lexemes.closes)

key_shorter : (s x r : List ℕ) → x ≡ s ++ colon_sign ∷ r → length r < length x
key_shorter s x r e = let k : length x ≡ length s + length (colon_sign ∷ r) = ap length e ∙ length-append s (colon_sign ∷ r) in omega (arith, k)

pub unquoted_on : (first_text second_text after after_bare : List ℕ) → Unquotes first_text second_text after after_bare → PassesShort first_text second_text after after_bare
unquoted_on first_text second_text after after_bare g stay =
    let s : List ℕ = g.quote ∷ (g.first ∷ g.rest) ++ g.quote ∷ [] in
    record {
      same = λ k.
          put_back first_text second_text (s ++ colon_sign ∷ chars after) ((g.first ∷ g.rest) ++ colon_sign ∷ chars after_bare) g.in_quoted g.in_bare
          (anew.key (quoted_before g.quote (g.first ∷ g.rest) (colon_sign ∷ chars after) g.is_quote g.plain) (anew.word g.parts (colon_ends (chars after_bare))) (same_name g.quote g.first g.rest g.is_quote g.parts g.plain) (anew.colon k));
      fewer = fewer_left first_text second_text after after_bare (key_shorter s (chars first_text) (chars after) g.in_quoted) (let h = key_shorter (g.first ∷ g.rest) (chars second_text) (chars after_bare) g.in_bare in omega (arith, h));
    }

pub quoted_on : (second_text first_text after_bare after : List ℕ) → Unquotes first_text second_text after after_bare → PassesShort second_text first_text after_bare after
quoted_on second_text first_text after_bare after g stay =
    let s : List ℕ = g.quote ∷ (g.first ∷ g.rest) ++ g.quote ∷ [] in
    record {
      same = λ k.
          put_back second_text first_text ((g.first ∷ g.rest) ++ colon_sign ∷ chars after_bare) (s ++ colon_sign ∷ chars after) g.in_bare g.in_quoted
          (anew.key (anew.word g.parts (colon_ends (chars after_bare))) (quoted_before g.quote (g.first ∷ g.rest) (colon_sign ∷ chars after) g.is_quote g.plain) (λ u v e f i j. sym (same_name g.quote g.first g.rest g.is_quote g.parts g.plain v u f e j i)) (anew.colon k));
      fewer = fewer_left second_text first_text after_bare after (key_shorter (g.first ∷ g.rest) (chars second_text) (chars after_bare) g.in_bare) (let h = key_shorter s (chars first_text) (chars after) g.in_quoted in omega (arith, h));
    }

-- the pieces of such a key
pub unquotes : (first_text second_text inside quoted_rest bare_rest quoted_end after after_bare : List ℕ) (q : ℕ) → is_quote q ≡ true → StartsWith first_text q inside → (NotBegun (λ c. c == colon_sign) (chars second_text)) → SharesName inside second_text quoted_rest bare_rest
    → StartsWith quoted_rest q quoted_end → StartsWith quoted_end colon_sign after → StartsWith bare_rest colon_sign after_bare → Unquotes first_text second_text after after_bare
unquotes first_text second_text inside quoted_rest bare_rest quoted_end after after_bare q h a free n b d f = by n.name n.in_left n.in_right n.parts n.plain
  where
    by : (w : List ℕ) → chars inside ≡ w ++ chars quoted_rest → chars second_text ≡ w ++ chars bare_rest → Each is_word_part w → Each is_text_byte w → Unquotes first_text second_text after after_bare
    by [] i j p e = absurd (apart refl (subst (NotBegun (λ c. c == colon_sign)) (j ∙ f.chars) free))
    by (c ∷ w) i j p e = record {
      quote = q;
      first = c;
      rest = w;
      is_quote = h;
      parts = p;
      plain = e;
      in_quoted = a.chars ∙ ap (λ z. q ∷ z) (i ∙ ap (λ z. (c ∷ w) ++ z) (b.chars ∙ ap (λ z. q ∷ z) d.chars) ∙ sym (append_assoc (c ∷ w) (q ∷ []) (colon_sign ∷ chars after)));
      in_bare = j ∙ ap (λ z. (c ∷ w) ++ z) f.chars;
    }

-- ---- blanks, commas and comments

pub left_blank_on : {stay : Bool} (left right after : List ℕ) → IsBlankBefore (chars left) (chars after) → PassesGap stay left right after right
left_blank_on left right after b = record {
  same = λ due k. put_back left right (b.blank ∷ chars after) (chars right) b.split refl (anew.left_blank b.is_blank k);
  fewer = fewer_left left right after right (shorter_by b.blank [] (chars left) (chars after) b.split) (omega arith);
}

pub right_blank_on : {stay : Bool} (left right after : List ℕ) → IsBlankBefore (chars right) (chars after) → PassesGap stay left right left after
right_blank_on left right after b = record {
  same = λ due k. put_back left right (chars left) (b.blank ∷ chars after) refl b.split (anew.right_blank b.is_blank k);
  fewer = fewer_right left right left after (omega arith) (shorter_by b.blank [] (chars right) (chars after) b.split);
}

left_comma_on : (left right after : List ℕ) → StartsWith left comma_sign after → PassesShort left right after right
left_comma_on left right after a stay = record {
  same = λ k. put_back left right (comma_sign ∷ chars after) (chars right) a.chars refl (anew.left_comma k);
  fewer = fewer_left left right after right (shorter_by comma_sign [] (chars left) (chars after) a.chars) (omega arith);
}

right_comma_on : (left right after : List ℕ) → StartsWith right comma_sign after → PassesShort left right left after
right_comma_on left right after a stay = record {
  same = λ k. put_back left right (chars left) (comma_sign ∷ chars after) refl a.chars (anew.right_comma k);
  fewer = fewer_right left right left after (omega arith) (shorter_by comma_sign [] (chars right) (chars after) a.chars);
}

comment_shorter : {comment x r : List ℕ} → IsComment comment x r → length r < length x
comment_shorter (anew.line {s = s} {r = r} e n) = shorter_by 47 (47 ∷ s) (47 ∷ 47 ∷ s ++ r) r refl
comment_shorter (anew.block {s = s} {r = r} i) = shorter_by 47 (42 ∷ s ++ 42 ∷ 47 ∷ []) (47 ∷ 42 ∷ s ++ 42 ∷ 47 ∷ r) r (ap (λ z. 47 ∷ 42 ∷ z) (sym (append_assoc s (42 ∷ 47 ∷ []) r)))

goes : {stay due : Bool} {comment x r : List ℕ} (y : List ℕ) → stay ≡ false → IsComment comment x r → SpelledAnew stay due r y → SpelledAnew stay due x y
goes y a (anew.line e n) k = anew.line_goes a e n k
goes y a (anew.block i) k = anew.block_goes a i k

pub comment_goes : {stay : Bool} {comment : List ℕ} (left right after : List ℕ) → stay ≡ false → IsComment comment (chars left) (chars after) → PassesGap stay left right after right
comment_goes left right after a c = record { same = λ due k. goes (chars right) a c k; fewer = fewer_left left right after right (comment_shorter c) (omega arith) }

seconds : {a b c d : ℕ} {x y : List ℕ} → a ∷ b ∷ x ≡ c ∷ d ∷ y → b ≡ d
seconds e = cc

after_two : {a b c d : ℕ} {x y : List ℕ} → a ∷ b ∷ x ≡ c ∷ d ∷ y → x ≡ y
after_two e = cc

both_stay : {stay due : Bool} {c d x y r q : List ℕ} → stay ≡ true → c ≡ d → IsComment c x r → IsComment d y q → SpelledAnew stay due r q → SpelledAnew stay due x y
both_stay {stay = stay} {due = due} {q = q} a is (anew.line {s = s} {r = r} e n) (anew.line {s = t} f m) k =
    let same : s ≡ t = after_two is in
    subst (λ z. SpelledAnew stay due (47 ∷ 47 ∷ s ++ r) (47 ∷ 47 ∷ z ++ q)) same (anew.line a e n m k)
both_stay a is (anew.line {s = s} e n) (anew.block {s = t} i) k = absurd (neq_from 47 42 refl (seconds is))
both_stay a is (anew.block {s = s} i) (anew.line {s = t} e n) k = absurd (neq_from 42 47 refl (seconds is))
both_stay {stay = stay} {due = due} {q = q} a is (anew.block {s = s} {r = r} i) (anew.block {s = t} j) k =
    let rest : s ++ 42 ∷ 47 ∷ [] ≡ t ++ 42 ∷ 47 ∷ [] = after_two is in
    let same : s ≡ t = append_cancel_right s t (42 ∷ 47 ∷ []) rest in
    subst (λ z. SpelledAnew stay due (47 ∷ 42 ∷ s ++ 42 ∷ 47 ∷ r) (47 ∷ 42 ∷ z ++ 42 ∷ 47 ∷ q)) same (anew.block a i k)

pub comment_stays : {stay : Bool} (left right after after_right comment : List ℕ) → stay ≡ true → IsComment (chars comment) (chars left) (chars after) → Repeats (chars comment) (chars right) (chars after_right)
    → PassesGap stay left right after after_right
comment_stays left right after after_right comment a c again =
    let d = again (chars left) (chars after) c in
    record {
      same = λ due k. both_stay a refl c d k;
      fewer = fewer_left left right after after_right (comment_shorter c) (let h = comment_shorter d in omega (arith, h));
    }

-- a comment stands before a line end too
at_line_end : {comment x r : List ℕ} (y t : List ℕ) → y ≡ comment ++ t → NotBegun is_line_part t → IsComment comment x r → IsComment comment y t
at_line_end y t e n (anew.line {s = s} d m) = subst (λ z. IsComment (47 ∷ 47 ∷ s) z t) (sym e) (anew.line d n)
at_line_end y t e n (anew.block {s = s} i) =
    subst (λ z. IsComment (47 ∷ 42 ∷ s ++ 42 ∷ 47 ∷ []) z t) (sym (e ∙ ap (λ z. 47 ∷ 42 ∷ z) (append_assoc s (42 ∷ 47 ∷ []) t))) (anew.block i)

pub repeats_line : (comment other text rest : List ℕ) (n : ℕ) → comment ≡ other → IsUtf8 text → IsCharBoundary text n → other ≡ take n text → rest ≡ drop n text → NotBegun is_line_part (chars rest)
    → Repeats (chars comment) (chars text) (chars rest)
repeats_line comment other text rest n is u b e f h y t k =
    let cut = (halves_at text n u b).split in
    at_line_end (chars text) (chars rest) (cut ∙ ap₂ (λ p q. chars p ++ chars q) (sym (is ∙ e)) (sym f)) h k

pub repeats_comment : (comment other text rest : List ℕ) → comment ≡ other → IsComment (chars other) (chars text) (chars rest) → Repeats (chars comment) (chars text) (chars rest)
repeats_comment comment other text rest is d y t k = subst (λ z. IsComment z (chars text) (chars rest)) (ap chars (sym is)) d

pub gap_on : {stay : Bool} (left right after after_right : List ℕ) → PassesGap stay left right after after_right → PassesOn stay false left right after after_right
gap_on left right after after_right g = record { same = λ k. g.same false k; fewer = g.fewer }

pub comma_on : (left right after after_right : List ℕ) → PassesComma left right after after_right → PassesShort left right after after_right
comma_on left right after after_right (in_first a) = left_comma_on left right after a
comma_on left right after after_right (in_second a) = right_comma_on left right after_right a

-- ---- tokens that are spelled anew

token_before : {r s : List ℕ} → IsToken s → NotBegun is_word_part r → TokenBefore r s
token_before {r = r} {s = s} (a_word some e) n = word s some e
  where
    word : (s : List ℕ) → s ≢ [] → Each is_word_part s → TokenBefore r s
    word [] some e = absurd (some refl)
    word (c ∷ s) some e = anew.word e n
token_before {r = r} (a_string q t e h k) n = subst (TokenBefore r) (sym e) (anew.string h k)

begun : {s : List ℕ} → IsToken s → (c : ℕ) × (t : List ℕ) × (s ≡ c ∷ t)
begun {s = s} (a_word some e) = by s some
  where
    by : (s : List ℕ) → s ≢ [] → (c : ℕ) × (t : List ℕ) × (s ≡ c ∷ t)
    by [] some = absurd (some refl)
    by (c ∷ t) some = (c, t, refl)
begun (a_string q t e h k) = (q, t, e)

some_token : {s : List ℕ} (r x : List ℕ) → IsToken s → x ≡ s ++ r → length r < length x
some_token r x i is = let (c, t, e) = begun i in shorter_by c t x r (is ∙ ap (λ z. z ++ r) e)

values_on : (left right after after_right s t : List ℕ) → IsToken s → IsToken t → chars left ≡ s ++ chars after → chars right ≡ t ++ chars after_right → NotBegun is_word_part (chars after) → NotBegun is_word_part (chars after_right)
    → SameScalars s t → SameKeys s t → PassesShort left right after after_right
values_on left right after after_right s t a b e f m n same keys stay = record {
  same = λ k. put_back left right (s ++ chars after) (t ++ chars after_right) e f (anew.value (token_before a m) (token_before b n) same keys k);
  fewer = fewer_left left right after after_right (some_token (chars after) (chars left) a e) (let h = some_token (chars after_right) (chars right) b f in omega (arith, h));
}

pub strings_on : (left right after after_right : List ℕ) (x y : CowStr) → cow_bytes x ≡ cow_bytes y → IsStringAt (chars left) x (chars after) → IsStringAt (chars right) y (chars after_right) → PassesShort left right after after_right
strings_on left right after after_right x y is a b =
    let texts : a.text_of ≡ b.text_of = a.is_text ∙ ap chars is ∙ sym b.is_text in
    values_on left right after after_right a.spelled b.spelled (scalar_token (tokens.is_text a.string)) (scalar_token (tokens.is_text b.string)) a.split b.split a.ended b.ended
    (λ t u i j. ap datum_of (one_scalar i (tokens.is_text a.string)) ∙ ap datum.text texts ∙ sym (ap datum_of (one_scalar j (tokens.is_text b.string))))
    (λ u v e f i j. one_key_text i (KeyText.string_key a.string) ∙ texts ∙ sym (one_key_text j (KeyText.string_key b.string)))

-- no key begins as a number does
begins : List ℕ
begins = 43 ∷ 45 ∷ 46 ∷ 48 ∷ 49 ∷ 50 ∷ 51 ∷ 52 ∷ 53 ∷ 54 ∷ 55 ∷ 56 ∷ 57 ∷ []

none_starts : Each (λ d. not (is_identifier_start d)) begins
unfolding begins is_identifier_start general_category value_in general_category_rows
none_starts = char refl (char refl (char refl (char refl (char refl (char refl (char refl (char refl (char refl (char refl (char refl (char refl (char refl no_char))))))))))))

not_so : (b : Bool) → not b ≡ true → b ≡ false
not_so true e = absurd (cc)
not_so false e = refl

head_or_rest : (c d : ℕ) (ds : List ℕ) (b : Bool) → (c == d) ≡ b → not (is_identifier_start d) ≡ true → (list_any (λ d. c == d) ds ≡ true → is_identifier_start c ≡ false) → (b || list_any (λ d. c == d) ds) ≡ true → is_identifier_start c ≡ false
head_or_rest c d ds true is h rest k = ap is_identifier_start (eq_from c d is) ∙ not_so (is_identifier_start d) h
head_or_rest c d ds false is h rest k = rest k

one_of : (c : ℕ) (ds : List ℕ) → Each (λ d. not (is_identifier_start d)) ds → list_any (λ d. c == d) ds ≡ true → is_identifier_start c ≡ false
one_of c [] no_char k = absurd (cc)
one_of c (d ∷ ds) (char h e) k = head_or_rest c d ds (c == d) refl h (one_of c ds e) k

number_one_of : (c : ℕ) → begins_number c ≡ true → list_any (λ d. c == d) begins ≡ true
unfolding begins
number_one_of c h = grind (arith, nat_tests)

number_no_start : (c : ℕ) → begins_number c ≡ true → is_identifier_start c ≡ false
number_no_start c h = one_of c begins none_starts (number_one_of c h)

quote_no_number : (c : ℕ) → begins_number c ≡ true → is_quote c ≡ true → ⊥
quote_no_number c h k = apart k (grind (arith, nat_tests))

no_number_key : {k u s : List ℕ} {f : Bool} (c : ℕ) → begins_number c ≡ true → k ≡ c ∷ s → KeyText k u f → ⊥
no_number_key c h e (KeyText.string_key (quoted {q = q} k i)) = let same : q ≡ c = cc in quote_no_number c h (ap is_quote (sym same) ∙ k)
no_number_key c h e (KeyText.name_key (name (raw_name {c = d} n) k i)) = let same : d ≡ c = cc in apart (ap is_identifier_start (sym same) ∙ k) (number_no_start c h)
no_number_key c h e (KeyText.name_key (name (escaped_name (strings.single x k)) l i)) = let same : 92 ≡ c = cc in apart h (ap begins_number (sym same))
no_number_key c h e (KeyText.name_key (name (escaped_name (strings.surrogates x y a b)) l i)) = let same : 92 ≡ c = cc in apart h (ap begins_number (sym same))

number_no_key : (x s r : List ℕ) → BeginsNumber x → x ≡ s ++ r → IsToken s → (u : List ℕ) (e : Bool) → KeyText s u e → ⊥
number_no_key x s r n e i u f k =
    let (c, t, is) = begun i in
    let same : n.first ≡ c = heads (sym n.split ∙ e ∙ ap (λ z. z ++ r) is) in
    no_number_key c (ap begins_number (sym same) ∙ n.begins) is k
  where
    heads : {a b : ℕ} {y z : List ℕ} → a ∷ y ≡ b ∷ z → a ≡ b
    heads e = cc

numbers_short : (left right after after_right : List ℕ) (x y : Number) → number_of y ≡ number_of x → BeginsNumber (chars left) → IsNumberAt (chars left) x (chars after) → IsNumberAt (chars right) y (chars after_right) → PassesShort left right after after_right
numbers_short left right after after_right x y is begun a b =
    values_on left right after after_right a.spelled b.spelled (scalar_token (tokens.is_number a.number)) (scalar_token (tokens.is_number b.number)) a.split b.split a.ended b.ended
    (λ t u i j. ap datum_of (one_scalar i (tokens.is_number a.number)) ∙ ap datum.number (sym is) ∙ sym (ap datum_of (one_scalar j (tokens.is_number b.number))))
    (λ u v e f i j. absurd (number_no_key (chars left) a.spelled (chars after) begun a.split (scalar_token (tokens.is_number a.number)) u e i))

pub numbers_on : (left right after after_right : List ℕ) → BeginsNumber (chars left) → PassesNumbers left right after after_right → PassesAnew false left right after after_right
numbers_on left right after after_right begun (x, y, is, a, b) =
    let k = numbers_short left right after after_right x y is begun a b in record { same = λ stay. (k stay).same; fewer = (k true).fewer }

pub keys_on : (left right after after_right : List ℕ) (x y : CowStr) → cow_bytes x ≡ cow_bytes y → IsKeyAt (chars left) x (chars after) → IsKeyAt (chars right) y (chars after_right) → PassesAnew true left right after after_right
keys_on left right after after_right x y is a b =
    let texts : a.text_of ≡ b.text_of = a.is_text ∙ ap chars is ∙ sym b.is_text in
    record {
      same = λ stay k.
          put_back left right (a.spelled ++ chars after) (b.spelled ++ chars after_right) a.split b.split
          (anew.key (token_before (key_token a.key) a.ended) (token_before (key_token b.key) b.ended) (λ u v e f i j. one_key_text i a.key ∙ texts ∙ sym (one_key_text j b.key)) k);
      fewer = fewer_left left right after after_right (some_token (chars after) (chars left) (key_token a.key) a.split) (let h = some_token (chars after_right) (chars right) (key_token b.key) b.split in omega (arith, h));
    }

-- nothing is due after a token
pub token_on : (due stay : Bool) (left right after after_right : List ℕ) → due ≡ false → PassesAnew due left right after after_right → PassesOn stay false left right after after_right
token_on due stay left right after after_right is g = record { same = λ k. g.same stay (subst (λ d. SpelledAnew stay d (chars after) (chars after_right)) (sym is) k); fewer = g.fewer }

-- the colon after a key
pub key_on : (due stay : Bool) (left right rest rest_right after after_right : List ℕ) → due ≡ true → PassesAnew due left right rest rest_right → PassesOn stay true rest rest_right after after_right → PassesOn stay false left right after after_right
key_on due stay left right rest rest_right after after_right is g h = record {
  same = λ k. g.same stay (subst (λ d. SpelledAnew stay d (chars rest) (chars rest_right)) (sym is) (h.same k));
  fewer = let i = g.fewer in let j = h.fewer in omega (arith, i, j);
}

-- ---- up to a colon

pub colons_on : {stay : Bool} (left right after after_right : List ℕ) → StartsWith left colon_sign after → StartsWith right colon_sign after_right → PassesOn stay true left right after after_right
colons_on left right after after_right a b = record {
  same = λ k. put_back left right (colon_sign ∷ chars after) (colon_sign ∷ chars after_right) a.chars b.chars (anew.colon k);
  fewer = fewer_left left right after after_right (shorter_by colon_sign [] (chars left) (chars after) a.chars) (let h = shorter_by colon_sign [] (chars right) (chars after_right) b.chars in omega (arith, h));
}

-- what a loop up to a colon has passed
pub record GapsPassed (stay : Bool) (left right after after_right : List ℕ) : Type 0 where
  pub same : SpelledAnew stay true (chars after) (chars after_right) → SpelledAnew stay true (chars left) (chars right)
  pub fewer : left_of after after_right ≤ left_of left right

pub no_gap : {stay : Bool} (left right : List ℕ) → GapsPassed stay left right left right
no_gap left right = record { same = λ k. k; fewer = omega arith }

pub gaps_on : {stay : Bool} (left right mid mid_right after after_right : List ℕ) → GapsPassed stay left right mid mid_right → PassesGap stay mid mid_right after after_right → GapsPassed stay left right after after_right
gaps_on left right mid mid_right after after_right g p = record { same = λ k. g.same (p.same true k); fewer = let h = g.fewer in let i = p.fewer in omega (arith, h, i) }

pub colon_found : {stay : Bool} (left right mid mid_right after after_right : List ℕ) → GapsPassed stay left right mid mid_right → PassesOn stay true mid mid_right after after_right → PassesOn stay true left right after after_right
colon_found left right mid mid_right after after_right g p = record { same = λ k. g.same (p.same k); fewer = let h = g.fewer in let i = p.fewer in omega (arith, h, i) }

-- ---- what calls return

pub blank_before : (text rest : List ℕ) (c : ℕ) → StartsWith text c rest → true ≡ is_blank c → IsBlankBefore (chars text) (chars rest)
blank_before text rest c a h = record { blank = c; is_blank = sym h; split = a.chars }

pub past_none : (text : List ℕ) (r : Option (Bor (List ℕ))) → IsPast colon_sign text r → false ≡ is_some r → NotBegun (λ c. c == colon_sign) (chars text)
past_none text None p e = p
past_none text (Some x) p e = absurd (cc)

pub number_begins : (text rest : List ℕ) (c : ℕ) (b : Bool) → StartsWith text c rest → b ≡ begins_number c → b ≡ true → BeginsNumber (chars text)
number_begins text rest c b a e t = record { first = c; rest = chars rest; split = a.chars; begins = sym e ∙ t }

-- the scanner began at the text's start
unread_at : (text : List ℕ) (old : Cursor) → old ≡ record { input = chars text; unread = chars text } → chars text ≡ old.unread
unread_at text old e = sym (ap (λ (s : Cursor). s.unread) e)

pub string_at : (text rest : List ℕ) (old new : Cursor) (t : CowStr) → IsUtf8 text → old ≡ record { input = chars text; unread = chars text }
    → (s u : List ℕ) × (escape_free : Bool) × Took old s new × Str s u escape_free × ((is_borrowed t ≡ escape_free) × (cow_bytes t ≡ encode_utf8_all u)) → chars rest ≡ new.unread → NotBegun is_word_part (chars rest) → IsStringAt (chars text) t (chars rest)
string_at text rest old new t utf8 begun (s, u, f, took, string, is) left ended =
    let split : chars text ≡ s ++ chars rest = unread_at text old begun ∙ took.split ∙ ap (λ z. s ++ z) (sym left) in
    let scalars = (scalar_halves s (chars rest) (ap all_scalars (sym split) ∙ scalars-chars text utf8)).0 in
    record { spelled = s; text_of = u; escape_free = f; split = split; string = string; is_text = sym (chars-encodes u (text_scalars string scalars)) ∙ ap chars (sym is.1); ended = ended }

pub number_at : (text rest : List ℕ) (old new : Cursor) (n : Number) → old ≡ record { input = chars text; unread = chars text } → (s : List ℕ) × Took old s new × Num s (number_of n) × NotBegun (lengthens s) new.unread → chars rest ≡ new.unread
    → NotBegun is_word_part (chars rest) → IsNumberAt (chars text) n (chars rest)
number_at text rest old new n begun (s, took, num, stops) left ended = record { spelled = s; split = unread_at text old begun ∙ took.split ∙ ap (λ z. s ++ z) (sym left); number = num; ended = ended }

key_spelled : {k r u : List ℕ} {f : Bool} → Key k r u f → KeyText k u f
key_spelled (Key.string_key s) = KeyText.string_key s
key_spelled (Key.name_key i h) = KeyText.name_key i

pub key_at : (text rest : List ℕ) (old new : Cursor) (token : TextToken) (t : CowStr) → IsUtf8 text → old ≡ record { input = chars text; unread = chars text }
    → (s u : List ℕ) × (escape_free : Bool) × Took old s new × Key s new.unread u escape_free × Spells old.input u escape_free token → IsCowOf new.input token t → chars rest ≡ new.unread → NotBegun is_word_part (chars rest) → IsKeyAt (chars text) t (chars rest)
key_at text rest old new token t utf8 begun (s, u, f, took, key, spells) cow left ended =
    let split : chars text ≡ s ++ chars rest = unread_at text old begun ∙ took.split ∙ ap (λ z. s ++ z) (sym left) in
    let unread : chars text ≡ s ++ new.unread = unread_at text old begun ∙ took.split in
    let scalars = key_scalars (chars text) new.unread unread (scalars-chars text utf8) key in
    let bytes = (cow u f (subst (λ z. Spells z u f token) (sym took.same) spells)).1 in
    record { spelled = s; text_of = u; escape_free = f; split = split; key = key_spelled key; is_text = sym (chars-encodes u scalars) ∙ ap chars (sym bytes); ended = ended }
