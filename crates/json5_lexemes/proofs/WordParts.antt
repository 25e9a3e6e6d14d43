-- The tokens of the grammar are words or strings.
use Rattle.std.proofs.Common.{◌≡◌, ◌≢◌, ℕ, Bool, true, false, not, ◌||◌, ◌&&◌, List, [], ◌∷◌, ◌++◌, refl, sym, ap, ◌∙◌, subst, append_assoc, arith}
use Rattle.std.specs.Prelude.{◌==◌}
use lib.Chars.{codes}
use Rattle.std.proofs.lemmas.Bool.{both_ways, not-true, or_parts}
use Rattle.std.proofs.lemmas.Bool.Decides.{nat_tests}
use Rattle.ucd_category.specs.GeneralCategory.{general_category}
use Rattle.ucd_table.specs.Rows.{value_in}
use Rattle.ucd_category.specs.GeneralCategoryRows.{general_category_rows}
use Rattle.json5_grammar.specs.Language.Characters.{is_in, is_blank, is_hex_digit, is_identifier_start, is_identifier_part, slash_sign, comma_sign, backslash, Each, no_char, char}
use Rattle.json5_grammar.specs.Language.Strings.{is_quote, Str, quoted, Items, no_item, raw, escape, Escape, short, nul, byte, unicode, line_end, cr_lf, lone_cr, itself, Unicode, single, surrogates, Hex4, hex4}
use Rattle.json5_grammar.specs.Language.Names.{raw_name, escaped_name, NameParts, no_part, part, Ident, name, goes_on_name}
use Rattle.json5_grammar.specs.Language.Numbers.{Num, Number, is_infinite, is_nan, is_hexadecimal, is_integer, is_decimal, Sign, no_sign, plus, minus, in_run, hex_start}
use Rattle.json5_grammar.specs.Language.Trees.{Tree}
use Rattle.json5_grammar.specs.Language.Values.{KeyText}
use Rattle.json5_grammar.proofs.BlanksRead.{printable_no_blank}
use Rattle.json5_grammar.proofs.CharacterClasses.{blank_no_name, colon_no_name, slash_no_name}
use Rattle.json5_grammar.proofs.CharacterTests.{Each-append, each_weaken}
use Rattle.json5_grammar.proofs.CommonLemmas.{eq_from, neq_from, and_left, and_right}
use Rattle.json5_grammar.proofs.DecimalLiterals.{literal_run}
use Rattle.json5_grammar.proofs.NamesRead.{unicode_head}
use Rattle.json5_grammar.proofs.StringsRead.{raw_fails}
use Rattle.json5_grammar.proofs.ValueHeads.{number_head}
use Rattle.json5_lexemes.specs.SameLexemes.{is_sign, is_word_part}
use Rattle.json5_lexemes.specs.Lexemes.{Quoted}
use Rattle.json5_lexemes.specs.Lexemes as lexemes
use Rattle.json5_lexemes.specs.Tokens.{Scalar, is_null, is_true, is_false, is_number, is_text}
use Rattle.json5_lexemes.specs.Tokens as tokens

-- ---- parts of words

-- printable, and no separator, sign, quote or slash
abbrev pub is_printable_part : ℕ → Bool
is_printable_part c = is_in 33 126 c && not ((c == comma_sign) || (is_sign c || (is_quote c || (c == slash_sign))))

-- such a character is part of a word
pub printable_part : (c : ℕ) → is_printable_part c ≡ true → is_word_part c ≡ true
printable_part c h =
    let p : is_in 33 126 c ≡ true = and_left (is_in 33 126 c) _ h in
    let n = not-true _ (and_right (is_in 33 126 c) _ h) in
    let a = or_parts (c == comma_sign) _ n in
    let b = or_parts (is_sign c) _ a.1 in
    let d = or_parts (is_quote c) (c == slash_sign) b.1 in
    rw (a.0, printable_no_blank c p, b.0, d.0, d.1) refl

abbrev all_printable : List ℕ → Bool
all_printable [] = true
all_printable (c ∷ s) = is_printable_part c && all_printable s

pub each_part : (s : List ℕ) → all_printable s ≡ true → Each is_word_part s
each_part [] h = no_char
each_part (c ∷ s) h = char (printable_part c (and_left (is_printable_part c) (all_printable s) h)) (each_part s (and_right (is_printable_part c) (all_printable s) h))

-- a character of a number is part of a word
pub run_part : (c : ℕ) → in_run c ≡ true → is_word_part c ≡ true
run_part c h = printable_part c (plain c h)
  where
    plain : (c : ℕ) → in_run c ≡ true → is_printable_part c ≡ true
    plain c h = grind (arith, nat_tests)

pub hex_part : (c : ℕ) → is_hex_digit c ≡ true → is_word_part c ≡ true
hex_part c h = printable_part c (plain c h)
  where
    plain : (c : ℕ) → is_hex_digit c ≡ true → is_printable_part c ≡ true
    plain c h = grind (arith, nat_tests)

hex_start_part : (c : ℕ) → hex_start c ≡ true → is_word_part c ≡ true
hex_start_part c h = printable_part c (plain c h)
  where
    plain : (c : ℕ) → hex_start c ≡ true → is_printable_part c ≡ true
    plain c h = grind (arith, nat_tests)

-- ---- parts of names

no_names : (goes_on_name 44 ≡ false) × (goes_on_name 91 ≡ false) × (goes_on_name 93 ≡ false) × (goes_on_name 123 ≡ false) × (goes_on_name 125 ≡ false) × (goes_on_name 34 ≡ false) × (goes_on_name 39 ≡ false)
unfolding is_identifier_start is_identifier_part general_category value_in general_category_rows
no_names = (refl, refl, refl, refl, refl, refl, refl)

name_is_not : (c d : ℕ) → goes_on_name c ≡ true → goes_on_name d ≡ false → (c == d) ≡ false
name_is_not c d h n = by_values (c == d) refl
  where
    by_values : (b : Bool) → (c == d) ≡ b → (c == d) ≡ false
    by_values true e = absurd (both_ways (goes_on_name c) (ap goes_on_name (eq_from c d e) ∙ n) h)
    by_values false e = e

name_no_blank : (c : ℕ) → goes_on_name c ≡ true → is_blank c ≡ false
name_no_blank c h = by_values (is_blank c) refl
  where
    by_values : (b : Bool) → is_blank c ≡ b → is_blank c ≡ false
    by_values true e = absurd (both_ways (goes_on_name c) (blank_no_name c e) h)
    by_values false e = e

-- a character that goes on a name is part of a word
name_part : (c : ℕ) → goes_on_name c ≡ true → is_word_part c ≡ true
name_part c h =
    let is_not : (d : ℕ) → goes_on_name d ≡ false → (c == d) ≡ false = λ d n. name_is_not c d h n in
    rw (is_not 44 no_names.0, name_no_blank c h, is_not 91 no_names.1, is_not 93 no_names.2, is_not 123 no_names.3, is_not 125 no_names.4, is_not 58 colon_no_name, is_not 34 no_names.5, is_not 39 no_names.6, is_not 47 slash_no_name) refl

identifier_part : (c : ℕ) → is_identifier_part c ≡ true → is_word_part c ≡ true
identifier_part c h = name_part c (rw h refl)

identifier_start : (c : ℕ) → is_identifier_start c ≡ true → is_word_part c ≡ true
unfolding is_identifier_part
identifier_start c h = name_part c (rw h refl)

hex4_parts : {h : List ℕ} {n : ℕ} → Hex4 h n → Each is_word_part h
hex4_parts (hex4 e) = each_weaken is_word_part hex_part e

unicode_parts : {e : List ℕ} {n : ℕ} → Unicode e n → Each is_word_part e
unicode_parts (single x s) = Each-append (each_part (92 ∷ 117 ∷ []) refl) (hex4_parts x)
unicode_parts (surrogates {h = h} x y a b) = Each-append (each_part (92 ∷ 117 ∷ []) refl) (Each-append (hex4_parts x) (Each-append (each_part (92 ∷ 117 ∷ []) refl) (hex4_parts y)))

name_parts : {s u : List ℕ} {p : Bool} → NameParts s u p → Each is_word_part s
name_parts no_part = no_char
name_parts (part (raw_name {c = c} n) h i) = char (identifier_part c h) (name_parts i)
name_parts (part (escaped_name u) h i) = Each-append (unicode_parts u) (name_parts i)

ident_parts : {s u : List ℕ} {p : Bool} → Ident s u p → Each is_word_part s
ident_parts (name (raw_name {c = c} n) h i) = char (identifier_start c h) (name_parts i)
ident_parts (name (escaped_name u) h i) = Each-append (unicode_parts u) (name_parts i)

-- ---- parts of numbers

sign_parts : {s : List ℕ} {m : Bool} → Sign s m → Each is_word_part s
sign_parts no_sign = no_char
sign_parts plus = each_part (43 ∷ []) refl
sign_parts minus = each_part (45 ∷ []) refl

number_parts : {s : List ℕ} {n : Number} → Num s n → Each is_word_part s
number_parts (is_infinite g) = Each-append (sign_parts g) (each_part (codes "Infinity") refl)
number_parts (is_nan g) = Each-append (sign_parts g) (each_part (codes "NaN") refl)
number_parts (is_hexadecimal x g h e b) = Each-append (sign_parts g) (char (run_part 48 refl) (char (hex_start_part x h) (each_weaken is_word_part hex_part e)))
number_parts (is_integer g l b) = Each-append (sign_parts g) (each_weaken is_word_part run_part (literal_run l))
number_parts (is_decimal g l n b) = Each-append (sign_parts g) (each_weaken is_word_part run_part (literal_run l))

-- ---- strings

pub hex_in_string : (q c : ℕ) → is_quote q ≡ true → is_hex_digit c ≡ true → (c ≢ q) × (c ≢ backslash)
hex_in_string q c h k = (neq_from c q (apart q c h k).0, neq_from c backslash (apart q c h k).1)
  where
    apart : (q c : ℕ) → is_quote q ≡ true → is_hex_digit c ≡ true → ((c == q) ≡ false) × ((c == backslash) ≡ false)
    apart q c h k = (grind (arith, nat_tests), grind (arith, nat_tests))

pub hex_quoted : {q : ℕ} {d r : List ℕ} → is_quote q ≡ true → Each is_hex_digit d → Quoted q r → Quoted q (d ++ r)
hex_quoted k no_char i = i
hex_quoted {q = q} k (char {c = c} h e) i = let a = hex_in_string q c k h in lexemes.raw a.0 a.1 (hex_quoted k e i)

hex4_quoted : {q n : ℕ} {h r : List ℕ} → is_quote q ≡ true → Hex4 h n → Quoted q r → Quoted q (h ++ r)
hex4_quoted k (hex4 e) i = hex_quoted k e i

line_feed_apart : (q : ℕ) → is_quote q ≡ true → (10 == q) ≡ false
line_feed_apart q h = grind (arith, nat_tests)

unicode_quoted : {q n : ℕ} {e r : List ℕ} → is_quote q ≡ true → Unicode e n → Quoted q r → Quoted q (e ++ r)
unicode_quoted k (single x s) i = lexemes.escape (hex4_quoted k x i)
unicode_quoted {q = q} {r = r} k (surrogates {h = h} {l = l} x y a b) i =
    subst (λ z. Quoted q (92 ∷ 117 ∷ z)) (sym (append_assoc h (92 ∷ 117 ∷ l) r)) (lexemes.escape (hex4_quoted k x (lexemes.escape (hex4_quoted k y i))))

escape_quoted : {q : ℕ} {e v s r : List ℕ} → is_quote q ≡ true → Escape e v s → Quoted q r → Quoted q (e ++ r)
escape_quoted k (short h) i = lexemes.escape i
escape_quoted k (nul h) i = lexemes.escape i
escape_quoted k (byte e) i = lexemes.escape (hex_quoted k e i)
escape_quoted k (unicode u) i = unicode_quoted k u i
escape_quoted k (line_end t n) i = lexemes.escape i
escape_quoted {q = q} k cr_lf i = lexemes.escape (lexemes.raw (neq_from 10 q (line_feed_apart q k)) (λ e. cc) i)
escape_quoted k (lone_cr n) i = lexemes.escape i
escape_quoted k (itself h) i = lexemes.escape i

-- the items of a string up to its last quote
items_quoted : {q : ℕ} {r s u : List ℕ} {p : Bool} → is_quote q ≡ true → Items q r s u p → Quoted q (s ++ q ∷ [])
items_quoted k no_item = lexemes.closes
items_quoted {q = q} k (raw {c = c} h i) = let f = raw_fails q c h in lexemes.raw (neq_from c q f.0) (neq_from c backslash f.1) (items_quoted k i)
items_quoted {q = q} k (escape {e = e} {s = s} x i) = subst (Quoted q) (sym (append_assoc e s (q ∷ []))) (escape_quoted k x (items_quoted k i))

-- ---- tokens

-- s is a number, a literal or a name, or a string
pub data IsToken (s : List ℕ) : Type 0 where
  a_word : s ≢ [] → Each is_word_part s → IsToken s
  a_string : (q : ℕ) (t : List ℕ) → s ≡ q ∷ t → is_quote q ≡ true → Quoted q t → IsToken s

string_token : {s u : List ℕ} {p : Bool} → Str s u p → IsToken s
string_token (quoted {q = q} {s = s} h i) = a_string q (s ++ q ∷ []) refl h (items_quoted h i)

number_token : {s : List ℕ} {n : Number} → Num s n → IsToken s
number_token a = let k = number_head a in a_word (λ e. let both : k.0 ∷ k.1 ≡ [] = sym k.2 ∙ e in cc) (number_parts a)

some_name : {s u : List ℕ} {p : Bool} → Ident s u p → s ≢ []
some_name (name (raw_name n) h i) e = cc
some_name (name {s = s} (escaped_name u) h i) e = let w = unicode_head u in let both : 92 ∷ (w.0 ++ s) ≡ [] = sym (ap (λ z. z ++ s) w.1) ∙ e in cc

-- the spelling of a scalar is a token
pub scalar_token : {s : List ℕ} {t : Tree} → Scalar s t → IsToken s
scalar_token is_null = a_word (λ e. cc) (each_part (codes "null") refl)
scalar_token is_true = a_word (λ e. cc) (each_part (codes "true") refl)
scalar_token is_false = a_word (λ e. cc) (each_part (codes "false") refl)
scalar_token (tokens.is_number n) = number_token n
scalar_token (is_text s) = string_token s

-- the spelling of a key is a token
pub key_token : {k u : List ℕ} {p : Bool} → KeyText k u p → IsToken k
key_token (KeyText.string_key s) = string_token s
key_token (KeyText.name_key i) = a_word (some_name i) (ident_parts i)
