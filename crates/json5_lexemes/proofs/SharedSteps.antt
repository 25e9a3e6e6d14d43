-- Steps over tokens that are in front of two texts, spelled alike.
use Rattle.std.proofs.Common.{◌≡◌, ◌≢◌, ◌<◌, ◌≤◌, ◌+◌, ◌==◌, ℕ, Bool, true, false, List, [], ◌∷◌, ◌++◌, length, take, add-one, refl, sym, ap, ap₂, ◌∙◌, subst, append_assoc, length-append, arith, zero, suc}
use Rattle.std.specs.Prelude.{slice_index}
use Rattle.std.specs.Str.{chars}
use Rattle.std.proofs.lemmas.Bool.Decides.{nat_tests}
use Rattle.std.proofs.lemmas.List.{append_cancel_right}
use Rattle.json5_grammar.specs.Language.Characters.{comma_sign, backslash, NotBegun, Each, no_char, char}
use Rattle.json5_grammar.specs.Language.Strings.{is_quote}
use Rattle.json5_grammar.proofs.CharacterTests.{Each-append, each_weaken}
use Rattle.json5_styles.specs.Json.{is_json_blank}
use Rattle.json5_tokens.specs.Scan.{SkipsAll, StartsWith}
use Rattle.json5_lexemes.specs.Lexemes.{Quoted}
use Rattle.json5_lexemes.specs.Lexemes as lexemes
use Rattle.json5_lexemes.specs.Runs.{IsRun, PassesRun, is_part, is_text_byte, is_word_byte}
use Rattle.json5_lexemes.specs.SameLexemes.{is_sign, is_word_part}
use Rattle.json5_lexemes.specs.SharedTokens.{Escapes, InString, InWord, IsNextPart, IsPart, PassesBlanks, SharesName, SharesToken, cursor, ends_words, is_mark}
use Rattle.json5_lexemes.specs.SharedTokens as part
use Rattle.json5_lexemes.specs.declared.runs.Run.{Run}
use Rattle.json5_lexemes.specs.declared.runs.Run.TheVariants as runs
use Rattle.json5_lexemes.proofs.DocumentLexemes.{blank_separates, not_part, sign_no_part}
use Rattle.json5_lexemes.proofs.PlainFronts.{same_by}
use Rattle.json5_lexemes.proofs.PlainRuns.{blank_is_ascii}
use Rattle.json5_lexemes.proofs.WordParts.{printable_part}

-- ---- blanks

pub no_blanks : (text : List ℕ) → PassesBlanks text text
no_blanks text = record { passed = []; split = refl; each = no_char }

pub blanks_passed : (text rest : List ℕ) → SkipsAll is_json_blank text rest → PassesBlanks text rest
blanks_passed text rest k = record { passed = k.passed; split = k.split; each = k.each }

json_blank : (c : ℕ) → is_json_blank c ≡ true → is_word_part c ≡ false
json_blank c h = not_part c (blank_separates c (grind (arith, nat_tests)))

pub ends_small : (c : ℕ) → ends_words c ≡ true → c < 128
ends_small c h = grind (arith, nat_tests)

-- what ends words is no part of one
pub ends_no_part : (c : ℕ) → ends_words c ≡ true → is_word_part c ≡ false
ends_no_part c h = by (c == comma_sign) refl (is_sign c) refl h
  where
    by : (a : Bool) → (c == comma_sign) ≡ a → (b : Bool) → is_sign c ≡ b → ends_words c ≡ true → is_word_part c ≡ false
    by true e b f h = let is : c ≡ comma_sign = same_by c comma_sign e in subst (λ z. is_word_part z ≡ false) (sym is) (not_part comma_sign refl)
    by false e true f h = sign_no_part c f
    by false e false f h = let blank : is_json_blank c ≡ true = rw (e, f) at h in json_blank c blank

-- ---- tokens

pub mark_shared : (c : ℕ) (left right : List ℕ) → is_mark c ≡ true → SharesToken c left right left right
mark_shared c left right h = record { rest = []; in_left = refl; in_right = refl; is_left = part.mark h; is_right = part.mark h }

pub word_byte : (c : ℕ) → is_word_byte c ≡ true → is_word_part c ≡ true
word_byte c h = printable_part c (grind (arith, nat_tests))

pub dollar : (c : ℕ) → (c == 36) ≡ true → is_word_part c ≡ true
dollar c h = printable_part c (grind (arith, nat_tests))

pub word_begun : (left right : List ℕ) → InWord left right left right
word_begun left right = record { passed = []; in_left = refl; in_right = refl; each = no_char }

word_on : (left right mid mid_right after after_right : List ℕ) → InWord left right mid mid_right → InWord mid mid_right after after_right → InWord left right after after_right
word_on left right mid mid_right after after_right a b = record {
  passed = a.passed ++ b.passed;
  in_left = a.in_left ∙ ap (λ z. a.passed ++ z) b.in_left ∙ sym (append_assoc a.passed b.passed (chars after));
  in_right = a.in_right ∙ ap (λ z. a.passed ++ z) b.in_right ∙ sym (append_assoc a.passed b.passed (chars after_right));
  each = Each-append a.each b.each;
}

word_run : (left right after after_right : List ℕ) → PassesRun runs.Word (cursor left) (cursor right) (cursor after) (cursor after_right) → InWord left right after after_right
word_run left right after after_right p = record { passed = p.passed; in_left = p.in_left; in_right = p.in_right; each = each_weaken is_word_part word_byte p.each }

word_part : (left right after after_right : List ℕ) → IsNextPart left right after after_right → InWord left right after after_right
word_part left right after after_right p = record { passed = p.part ∷ []; in_left = p.in_left; in_right = p.in_right; each = char p.is_part no_char }

pub word_step : (left right rest rest_right run run_right after after_right : List ℕ) → InWord left right rest rest_right → PassesRun runs.Word (cursor rest) (cursor rest_right) (cursor run) (cursor run_right)
    → IsNextPart run run_right after after_right → InWord left right after after_right
word_step left right rest rest_right run run_right after after_right a p k =
    word_on left right rest rest_right after after_right a
    (word_on rest rest_right run run_right after after_right (word_run rest rest_right run run_right p) (word_part run run_right after after_right k))

pub word_smaller : (rest rest_right run run_right after after_right : List ℕ) → PassesRun runs.Word (cursor rest) (cursor rest_right) (cursor run) (cursor run_right) → IsNextPart run run_right after after_right
    → length (chars after) < length (chars rest)
word_smaller rest rest_right run run_right after after_right p k =
    let i : length (chars rest) ≡ length p.passed + length (chars run) = ap length p.in_left ∙ length-append p.passed (chars run) in
    let j : length (chars run) ≡ length (k.part ∷ chars after) = ap length k.in_left in
    omega (arith, i, j)

pub word_done : (c : ℕ) (left right rest rest_right after after_right : List ℕ) → is_word_part c ≡ true → InWord left right rest rest_right
    → PassesRun runs.Word (cursor rest) (cursor rest_right) (cursor after) (cursor after_right) → NotBegun is_word_part (chars after) → NotBegun is_word_part (chars after_right) → SharesToken c left right after after_right
word_done c left right rest rest_right after after_right h a p m n =
    let w = word_on left right rest rest_right after after_right a (word_run rest rest_right after after_right p) in
    record { rest = w.passed; in_left = w.in_left; in_right = w.in_right; is_left = part.word (char h w.each) m; is_right = part.word (char h w.each) n }

pub next_part : (c d : ℕ) (left right after after_right : List ℕ) → StartsWith left c after → StartsWith right d after_right → c ≡ d → is_word_part c ≡ true → IsNextPart left right after after_right
next_part c d left right after after_right a b e h = record { part = c; in_left = a.chars; in_right = b.chars ∙ ap (λ z. z ∷ chars after_right) (sym e); is_part = h }

-- what both runs passed is the same
pub name_shared : (left right after after_right : List ℕ) → PassesRun runs.Text (cursor left) (cursor right) (cursor after) (cursor after_right) → PassesRun runs.Word (cursor left) (cursor right) (cursor after) (cursor after_right)
    → SharesName left right after after_right
name_shared left right after after_right p q =
    let same : q.passed ≡ p.passed = append_cancel_right q.passed p.passed (chars after) (sym q.in_left ∙ p.in_left) in
    record { name = p.passed; in_left = p.in_left; in_right = p.in_right; parts = subst (Each is_word_part) same (each_weaken is_word_part word_byte q.each); plain = p.each }

-- ---- strings

pub string_begun : (q : ℕ) (left right : List ℕ) → InString q left right left right
string_begun q left right = record { passed = []; in_left = refl; in_right = refl; quoted = λ s k. k }

-- one part of a string after another
pub string_on : (q : ℕ) (left right mid mid_right after after_right : List ℕ) → InString q left right mid mid_right → InString q mid mid_right after after_right → InString q left right after after_right
string_on q left right mid mid_right after after_right a b = record {
  passed = a.passed ++ b.passed;
  in_left = a.in_left ∙ ap (λ z. a.passed ++ z) b.in_left ∙ sym (append_assoc a.passed b.passed (chars after));
  in_right = a.in_right ∙ ap (λ z. a.passed ++ z) b.in_right ∙ sym (append_assoc a.passed b.passed (chars after_right));
  quoted = λ s k. subst (Quoted q) (sym (append_assoc a.passed b.passed s)) (a.quoted (b.passed ++ s) (b.quoted s k));
}

text_no_quote : (c q : ℕ) → is_text_byte c ≡ true → is_quote q ≡ true → c ≢ q
text_no_quote c q p k = grind (arith, nat_tests)

text_no_backslash : (c : ℕ) → is_text_byte c ≡ true → c ≢ backslash
text_no_backslash c p = grind (arith, nat_tests)

pub quoted_run : (q : ℕ) (r s : List ℕ) → is_quote q ≡ true → Each is_text_byte r → Quoted q s → Quoted q (r ++ s)
quoted_run q [] s h no_char k = k
quoted_run q (c ∷ r) s h (char p e) k = lexemes.raw (text_no_quote c q p h) (text_no_backslash c p) (quoted_run q r s h e k)

pub string_run : (q : ℕ) (left right after after_right : List ℕ) → is_quote q ≡ true → PassesRun runs.Text (cursor left) (cursor right) (cursor after) (cursor after_right) → InString q left right after after_right
string_run q left right after after_right h p = record { passed = p.passed; in_left = p.in_left; in_right = p.in_right; quoted = λ s k. quoted_run q p.passed s h p.each k }

-- a character
pub string_char : (c q : ℕ) (x y left right : List ℕ) → c ≢ q → c ≢ backslash → StartsWith x c left → StartsWith y c right → InString q x y left right
string_char c q x y left right n m a b = record { passed = c ∷ []; in_left = a.chars; in_right = b.chars; quoted = λ s k. lexemes.raw n m k }

-- a backslash and the next character
pub string_escape : (c d q : ℕ) (x y left right after after_right : List ℕ) → c ≡ backslash → StartsWith x c left → StartsWith y c right → StartsWith left d after → StartsWith right d after_right → InString q x y after after_right
string_escape c d q x y left right after after_right is a b f g = record {
  passed = backslash ∷ d ∷ [];
  in_left = a.chars ∙ ap₂ (λ u v. u ∷ v) is f.chars;
  in_right = b.chars ∙ ap₂ (λ u v. u ∷ v) is g.chars;
  quoted = λ s k. lexemes.escape k;
}

-- the last quote
string_ends : (c q : ℕ) (left right mid mid_right after after_right : List ℕ) → is_quote q ≡ true → c ≡ q → InString q left right mid mid_right → StartsWith mid c after → StartsWith mid_right c after_right
    → SharesToken q left right after after_right
string_ends c q left right mid mid_right after after_right h is a f g = record {
  rest = a.passed ++ q ∷ [];
  in_left = a.in_left ∙ ap (λ z. a.passed ++ z) (f.chars ∙ ap (λ u. u ∷ chars after) is) ∙ sym (append_assoc a.passed (q ∷ []) (chars after));
  in_right = a.in_right ∙ ap (λ z. a.passed ++ z) (g.chars ∙ ap (λ u. u ∷ chars after_right) is) ∙ sym (append_assoc a.passed (q ∷ []) (chars after_right));
  is_left = part.string h (a.quoted (q ∷ []) lexemes.closes);
  is_right = part.string h (a.quoted (q ∷ []) lexemes.closes);
}

pub string_step : (c q : ℕ) (left right rest rest_right run run_right next next_right after after_right : List ℕ) → is_quote q ≡ true → InString q left right rest rest_right
    → PassesRun runs.Text (cursor rest) (cursor rest_right) (cursor run) (cursor run_right) → c ≢ q → StartsWith run c next × StartsWith run_right c next_right → Escapes c next next_right after after_right → InString q left right after after_right
string_step c q left right rest rest_right run run_right next next_right after after_right h a p n (f, g) k =
    string_on q left right rest rest_right after after_right a
    (string_on q rest rest_right run run_right after after_right (string_run q rest rest_right run run_right h p) (k.in_string run run_right q n f g))

pub string_smaller : (c : ℕ) (rest rest_right run run_right next next_right after after_right : List ℕ) → PassesRun runs.Text (cursor rest) (cursor rest_right) (cursor run) (cursor run_right)
    → StartsWith run c next × StartsWith run_right c next_right → Escapes c next next_right after after_right → length (chars after) < length (chars rest)
string_smaller c rest rest_right run run_right next next_right after after_right p (f, g) k =
    let i : length (chars rest) ≡ length p.passed + length (chars run) = ap length p.in_left ∙ length-append p.passed (chars run) in
    let j : length (chars run) ≡ length (c ∷ chars next) = ap length f.chars in
    omega (arith, k.shorter, i, j)

pub string_done : (c q : ℕ) (left right rest rest_right run run_right after after_right : List ℕ) → is_quote q ≡ true → InString q left right rest rest_right
    → PassesRun runs.Text (cursor rest) (cursor rest_right) (cursor run) (cursor run_right) → c ≡ q → StartsWith run c after × StartsWith run_right c after_right → SharesToken q left right after after_right
string_done c q left right rest rest_right run run_right after after_right h a p is (f, g) =
    string_ends c q left right run run_right after after_right h is (string_on q left right rest rest_right run run_right a (string_run q rest rest_right run run_right h p)) f g

pub escape_shorter : (d : ℕ) (left after : List ℕ) → StartsWith left d after → length (chars after) ≤ length (chars left)
escape_shorter d left after f = let j : length (chars left) ≡ length (d ∷ chars after) = ap length f.chars in omega (arith, j)

-- ---- bytes of a run

pub run_more : (r : Run) (x y : List ℕ) (n : ℕ) → IsRun r x y n → n < length x → n < length y → slice_index x n ≡ slice_index y n → is_part r (slice_index x n) ≡ true → IsRun r x y (suc n)
run_more r [] y n k h j e p = absurd (omega (arith, h))
run_more r (a ∷ x) [] n k h j e p = absurd (omega (arith, j))
run_more r (a ∷ x) (b ∷ y) zero k h j e p = record { left = omega (arith, h); right = omega (arith, j); same = ap (λ z. z ∷ []) e; each = char p no_char }
run_more r (a ∷ x) (b ∷ y) (suc n) k h j e p = more (λ i. run_more r x y n i (omega (arith, h)) (omega (arith, j)) e p) k.each k.same
  where
    more : (IsRun r x y n → IsRun r x y (suc n)) → Each (is_part r) (a ∷ take n x) → a ∷ take n x ≡ b ∷ take n y → IsRun r (a ∷ x) (b ∷ y) (suc (suc n))
    more again (char f g) is =
        let first : a ≡ b = cc in
        let rest : take n x ≡ take n y = cc in
        let m = again (record { left = omega (arith, h); right = omega (arith, j); same = rest; each = g }) in
        record { left = omega (arith, h); right = omega (arith, j); same = ap₂ (λ u v. u ∷ v) first m.same; each = char f m.each }

pub run_step : (r : Run) (x y : List ℕ) (m n : ℕ) → m ≡ n + 1 → IsRun r x y n → n < length x → n < length y → slice_index x n ≡ slice_index y n → is_part r (slice_index x n) ≡ true → IsRun r x y m
run_step r x y m n is k h j e p = subst (IsRun r x y) (sym (is ∙ add-one n)) (run_more r x y n k h j e p)
