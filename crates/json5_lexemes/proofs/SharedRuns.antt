-- Runs of bytes that are seen 16 at a time: the lanes that are tested for them, and the characters that they are.
use Rattle.std.proofs.Common.{◌≡◌, ◌≢◌, ◌<◌, ◌≤◌, ◌+◌, ◌==◌, ◌%◌, ◌^◌, ℕ, Bool, true, false, not, cond, eqb, ltb, ◌||◌, ◌&&◌, List, [], ◌∷◌, ◌++◌, length, take, drop, get_or, map, refl, sym, ap, ap₂, ◌∙◌, subst, take-append-drop, arith, zero, suc}
use Rattle.std.specs.Char.{encode_utf8}
use Rattle.std.specs.Str.{chars, IsUtf8, IsAscii, IsCharBoundary, encode_utf8_all}
use Rattle.std.specs.List.{prefix_len}
use Rattle.std.proofs.lemmas.Bool.Decides.{nat_tests}
use Rattle.std.proofs.lemmas.List.Sums.{prefix_len-le-length}
use Rattle.std.proofs.lemmas.List.{length-map, length-append}
use Rattle.std.proofs.lemmas.Simd.{mask_l-mod}
use Rattle.std.proofs.lemmas.Str.{IsUtf8-take, IsUtf8-from_ascii, chars-append, chars-IsAscii, encodes-chars, length-encode, len_utf8_bounds}
use lib.Bits.{bit_and, bit_or}
use lib.Lanes.{chunk, mask_l, zip2, top}
use Rattle.json5_grammar.specs.Language.Characters.{Each, no_char, char}
use Rattle.json5_tokens.proofs.ByteSearch.{hit, other, below}
use Rattle.json5_tokens.proofs.RunBoundaries.{OfChars, of_ascii, line_chars, star_chars}
use Rattle.json5_tokens.specs.ByteRuns.{is_in_line, is_line_part, is_no_star}
use Rattle.json5_tokens.specs.Cursor.{Cursor}
use Rattle.json5_lexemes.specs.declared.runs.Run.{Run}
use Rattle.json5_lexemes.specs.declared.runs.Run.TheVariants as runs
use Rattle.json5_lexemes.specs.Runs.{is_word_byte, is_text_byte, is_part, is_char, code, codes, is_zero, is_set, IsRun, PassesRun, PassesSeparators, is_common_separator, ends_separators}

-- ---- lanes

abbrev flag : Bool → ℕ
flag b = cond b 255 0

or_flag : (a b : Bool) → bit_or (flag a) (flag b) ≡ flag (a || b)
or_flag true true = refl
or_flag true false = refl
or_flag false true = refl
or_flag false false = refl

and_flag : (a b : Bool) → bit_and (flag (not a)) (flag (not b)) ≡ flag (not (a || b))
and_flag true true = refl
and_flag true false = refl
and_flag false true = refl
and_flag false false = refl

top_flag : (a : Bool) → top 7 (flag a) ≡ a
top_flag true = refl
top_flag false = refl

or_more : {n : ℕ} (a b : Bool) → n ≡ flag a → bit_or n (flag b) ≡ flag (a || b)
or_more a b e = ap (λ z. bit_or z (flag b)) e ∙ or_flag a b

and_more : {n : ℕ} (a b : Bool) → n ≡ flag (not a) → bit_and n (flag (not b)) ≡ flag (not (a || b))
and_more a b e = ap (λ z. bit_and z (flag (not b))) e ∙ and_flag a b

twice : (b : Bool) → b ≡ not (not b)
twice true = refl
twice false = refl

none_of_three : (a b c : Bool) → ((a || b) || c) ≡ not (not a && (not b && not c))
none_of_three true true true = refl
none_of_three true true false = refl
none_of_three true false true = refl
none_of_three true false false = refl
none_of_three false true true = refl
none_of_three false true false = refl
none_of_three false false true = refl
none_of_three false false false = refl

three_flags : (a b c : Bool) → bit_or (bit_or (flag a) (flag b)) (flag c) ≡ flag (not (not a && (not b && not c)))
three_flags a b c = or_more (a || b) c (or_flag a b) ∙ ap flag (none_of_three a b c)

seven_flags : (a b c d e f g : Bool) → bit_or (bit_or (bit_or (bit_or (bit_or (bit_or (flag a) (flag b)) (flag c)) (flag d)) (flag e)) (flag f)) (flag g) ≡ flag (not (not ((((((a || b) || c) || d) || e) || f) || g)))
seven_flags a b c d e f g =
    or_more (((((a || b) || c) || d) || e) || f) g (or_more ((((a || b) || c) || d) || e) f (or_more (((a || b) || c) || d) e (or_more ((a || b) || c) d (or_more (a || b) c (or_flag a b)))))
    ∙ ap flag (twice ((((((a || b) || c) || d) || e) || f) || g))

pub word_lane : (x : ℕ) → bit_or (bit_or (bit_or (bit_or (bit_or (bit_or (below x 40) (below 122 x)) (hit x 44)) (hit x 47)) (hit x 58)) (hit x 91)) (hit x 93) ≡ flag (not (is_part runs.Word x))
word_lane x = seven_flags (ltb x 40) (ltb 122 x) (x == 44) (x == 47) (x == 58) (x == 91) (x == 93)

pub text_lane : (x : ℕ) → bit_or (bit_or (hit x 34) (hit x 39)) (hit x 92) ≡ flag (not (is_part runs.Text x))
text_lane x = three_flags (x == 34) (x == 39) (x == 92)

pub line_lane : (x : ℕ) → bit_or (bit_or (hit x 10) (hit x 13)) (hit x 226) ≡ flag (not (is_part runs.Line x))
line_lane x = three_flags (x == 10) (x == 13) (x == 226)

pub block_lane : (x : ℕ) → hit x 42 ≡ flag (not (is_part runs.Block x))
block_lane x = ap flag (twice (x == 42))

pub separator_lane : (x : ℕ) → top 7 (bit_and (bit_and (bit_and (bit_and (other x 32) (other x 9)) (other x 10)) (other x 13)) (other x 44)) ≡ ends_separators x
separator_lane x =
    ap (top 7) (and_more ((((x == 32) || (x == 9)) || (x == 10)) || (x == 13)) (x == 44) (and_more (((x == 32) || (x == 9)) || (x == 10)) (x == 13) (and_more ((x == 32) || (x == 9)) (x == 10) (and_flag (x == 32) (x == 9)))))
    ∙ top_flag (ends_separators x)

-- ---- the mask of two texts

lane_code : (s t : Bool) → top 7 (bit_or (flag s) (flag t)) ≡ is_set (cond (s || t) 1 0)
lane_code true true = refl
lane_code true false = refl
lane_code false true = refl
lane_code false false = refl

lanes : (r : Run) (f : ℕ → ℕ) → ((x : ℕ) → f x ≡ flag (not (is_part r x))) → (l m : List ℕ) → map (top 7) (zip2 bit_or (zip2 other l m) (map f l)) ≡ map is_set (codes r l m)
lanes r f each [] m = refl
lanes r f each (a ∷ l) [] = refl
lanes r f each (a ∷ l) (b ∷ m) = ap₂ (λ x xs. x ∷ xs) (ap (λ z. top 7 (bit_or (other a b) z)) (each a) ∙ lane_code (not (a == b)) (not (is_part r a))) (lanes r f each l m)

length-codes : (r : Run) (l m : List ℕ) → length (codes r l m) ≤ length l
length-codes r [] m = omega arith
length-codes r (a ∷ l) [] = omega arith
length-codes r (a ∷ l) (b ∷ m) = let k = length-codes r l m in omega (arith, k)

pub ends_masked : (r s : Run) (f : ℕ → ℕ) (l m : List ℕ) {w : List ℕ} → r ≡ s → length l ≤ 64 → w ≡ map f l → ((x : ℕ) → f x ≡ flag (not (is_part s x)))
    → mask_l (map (top 7) (zip2 bit_or (zip2 other l m) w)) % 2 ^ 64 ≡ mask_l (map is_set (codes r l m))
ends_masked r s f l m is short e each =
    ap (λ z. mask_l (map (top 7) (zip2 bit_or (zip2 other l m) z)) % 2 ^ 64) e ∙ ap (λ z. mask_l z % 2 ^ 64) (lanes r f (subst (λ z. (x : ℕ) → f x ≡ flag (not (is_part z x))) (sym is) each) l m)
    ∙ mask_l-mod (map is_set (codes r l m)) 64 (omega (arith, length-map (codes r l m) is_set, length-codes r l m, short))

-- ---- 16 bytes of two texts

drop_codes : (r : Run) (i : ℕ) (x y : List ℕ) → drop i (codes r x y) ≡ codes r (drop i x) (drop i y)
drop_codes r zero x y = refl
drop_codes r (suc i) [] y = refl
drop_codes r (suc i) (a ∷ x) [] = none (drop i x)
  where
    none : (z : List ℕ) → [] ≡ codes r z []
    none [] = refl
    none (c ∷ z) = refl
drop_codes r (suc i) (a ∷ x) (b ∷ y) = drop_codes r i x y

take_codes : (r : Run) (n : ℕ) (x y : List ℕ) → take n (codes r x y) ≡ codes r (take n x) (take n y)
take_codes r zero x y = refl
take_codes r (suc n) [] y = refl
take_codes r (suc n) (a ∷ x) [] = refl
take_codes r (suc n) (a ∷ x) (b ∷ y) = ap (λ z. code r a b ∷ z) (take_codes r n x y)

pub chunk_codes : (r : Run) (i n : ℕ) (x y : List ℕ) → codes r (chunk i n x) (chunk i n y) ≡ chunk i n (codes r x y)
chunk_codes r i n x y = sym (take_codes r n (drop i x) (drop i y)) ∙ ap (take n) (sym (drop_codes r i x y))

pub codes_reach : (r : Run) (n : ℕ) (x y : List ℕ) → n ≤ length x → n ≤ length y → n ≤ length (codes r x y)
codes_reach r zero x y h k = omega arith
codes_reach r (suc n) [] y h k = absurd (omega (arith, h))
codes_reach r (suc n) (a ∷ x) [] h k = absurd (omega (arith, k))
codes_reach r (suc n) (a ∷ x) (b ∷ y) h k = let z = codes_reach r n x y (omega (arith, h)) (omega (arith, k)) in omega (arith, z)

pub zero_or_set : (n : ℕ) → is_zero n ≡ not (is_set n)
zero_or_set n = twice (is_zero n)

-- ---- the run

goes_on : (s t : Bool) (n m : ℕ) → suc n ≤ cond (is_zero (cond (not s || not t) 1 0)) (1 + m) 0 → (s ≡ true) × ((t ≡ true) × (n ≤ m))
goes_on true true n m h = (refl, (refl, omega (arith, h)))
goes_on true false n m h = absurd (omega (arith, h))
goes_on false true n m h = absurd (omega (arith, h))
goes_on false false n m h = absurd (omega (arith, h))

pub shared : (r : Run) (x y : List ℕ) (n : ℕ) → n ≤ prefix_len is_zero (codes r x y) → IsRun r x y n
shared r x y zero h = record { left = omega arith; right = omega arith; same = refl; each = no_char }
shared r [] y (suc n) h = absurd (omega (arith, h))
shared r (a ∷ x) [] (suc n) h = absurd (omega (arith, h))
shared r (a ∷ x) (b ∷ y) (suc n) h =
    let (s, (t, le)) = goes_on (a == b) (is_part r a) n (prefix_len is_zero (codes r x y)) h in
    let k = shared r x y n le in
    let is : a ≡ b = grind (arith, nat_tests, s) in
    record {
      left = omega (arith, k.left);
      right = omega (arith, k.right);
      same = ap₂ (λ z zs. z ∷ zs) is k.same;
      each = char t k.each;
    }

-- ---- its characters

each_back : {p : ℕ → Bool} (xs ys : List ℕ) → Each p (xs ++ ys) → Each p ys
each_back [] ys e = e
each_back (x ∷ xs) ys (char h e) = each_back xs ys e

each_counted : {p : ℕ → Bool} {xs : List ℕ} → Each p xs → prefix_len p xs ≡ length xs
each_counted no_char = refl
each_counted (char h e) = let k = each_counted e in rw h (omega (arith, k))

each_of : (p q : ℕ → Bool) → OfChars p q → (cs : List ℕ) → Each p (encode_utf8_all cs) → Each q cs
each_of p q a [] e = no_char
each_of p q a (c ∷ cs) e = char (decide (q c) refl) (each_of p q a cs (each_back (encode_utf8 c) (encode_utf8_all cs) e))
  where
    decide : (b : Bool) → q c ≡ b → q c ≡ true
    decide true h = h
    decide false h =
        let none = a.first c (encode_utf8_all cs) h in
        let all : prefix_len p (encode_utf8 c ++ encode_utf8_all cs) ≡ length (encode_utf8 c ++ encode_utf8_all cs) = each_counted e in
        absurd (omega (arith, none, all, length-append (encode_utf8 c) (encode_utf8_all cs), length-encode c, (len_utf8_bounds c).0))

word_low : (c : ℕ) → is_word_byte c ≡ true → c < 128
word_low c h = grind (arith, nat_tests)

word_ascii : (xs : List ℕ) → Each is_word_byte xs → IsAscii xs
word_ascii [] no_char i = omega arith
word_ascii (c ∷ xs) (char h e) zero = word_low c h
word_ascii (c ∷ xs) (char h e) (suc i) = word_ascii xs e i

text_fails : (c : ℕ) → is_text_byte c ≡ false → c < 128
text_fails c h = grind (arith, nat_tests)

text_chars : OfChars is_text_byte is_text_byte
text_chars = of_ascii is_text_byte text_fails

by_chars : (p q : ℕ → Bool) → OfChars p q → (x : List ℕ) → IsUtf8 x → Each p x → Each q (chars x)
by_chars p q a x u e = each_of p q a (chars x) (subst (Each p) (sym (encodes-chars x u)) e)

each_char : (r : Run) (x : List ℕ) → IsUtf8 x → Each (is_part r) x → Each (is_char r) (chars x)
each_char runs.Word x u e = subst (Each is_word_byte) (sym (chars-IsAscii x (word_ascii x e))) e
each_char runs.Text x u e = by_chars is_text_byte is_text_byte text_chars x u e
each_char runs.Line x u e = by_chars is_in_line is_line_part line_chars x u e
each_char runs.Block x u e = by_chars is_no_star is_no_star star_chars x u e

cut : (x : List ℕ) (n : ℕ) → IsUtf8 x → IsCharBoundary x n → chars x ≡ chars (take n x) ++ chars (drop n x)
cut x n u b = ap chars (sym (take-append-drop n x)) ∙ chars-append (take n x) (drop n x) (IsUtf8-take x n u b)

pub passes : (r : Run) (x y : List ℕ) (n : ℕ) (left right after after_right : Cursor) → IsRun r x y n → IsUtf8 x → IsUtf8 y → IsCharBoundary x n → IsCharBoundary y n → left.unread ≡ chars x → right.unread ≡ chars y
    → after.unread ≡ chars (drop n x) → after_right.unread ≡ chars (drop n y) → PassesRun r left right after after_right
passes r x y n left right after after_right k u v b d e f g h = record {
  passed = chars (take n x);
  each = each_char r (take n x) (IsUtf8-take x n u b) k.each;
  in_left = e ∙ cut x n u b ∙ ap (λ z. chars (take n x) ++ z) (sym g);
  in_right = f ∙ cut y n v d ∙ ap (λ z. chars z ++ chars (drop n y)) (sym k.same) ∙ ap (λ z. chars (take n x) ++ z) (sym h);
}

pub passes_none : (r : Run) (left right : Cursor) → PassesRun r left right left right
passes_none r left right = record { passed = []; each = no_char; in_left = refl; in_right = refl }

-- ---- blanks and commas

pub separator_or_none : (x : ℕ) → is_common_separator x ≡ not (ends_separators x)
separator_or_none x = twice (is_common_separator x)

pub one_space : (x : List ℕ) → 0 < length x → get_or x 0 0 ≡ 32 → 1 ≤ prefix_len is_common_separator x
one_space [] h e = absurd (omega (arith, h))
one_space (c ∷ x) h e = let is : c ≡ 32 = e in rw is (omega arith)

front_each : (p : ℕ → Bool) (x : List ℕ) (n : ℕ) → n ≤ prefix_len p x → Each p (take n x)
front_each p x zero h = no_char
front_each p [] (suc n) h = absurd (omega (arith, h))
front_each p (c ∷ x) (suc n) h = decide (p c) refl (λ k. front_each p x n k)
  where
    decide : (b : Bool) → p c ≡ b → (n ≤ prefix_len p x → Each p (take n x)) → Each p (c ∷ take n x)
    decide true e more = char e (more (let k : suc n ≤ cond true (1 + prefix_len p x) 0 = subst (λ b. suc n ≤ cond b (1 + prefix_len p x) 0) e h in omega (arith, k)))
    decide false e more = absurd (let k : suc n ≤ cond false (1 + prefix_len p x) 0 = subst (λ b. suc n ≤ cond b (1 + prefix_len p x) 0) e h in omega (arith, k))

separator_low : (c : ℕ) → is_common_separator c ≡ true → c < 128
separator_low c h = grind (arith, nat_tests)

separators_ascii : (xs : List ℕ) → Each is_common_separator xs → IsAscii xs
separators_ascii [] no_char i = omega arith
separators_ascii (c ∷ xs) (char h e) zero = separator_low c h
separators_ascii (c ∷ xs) (char h e) (suc i) = separators_ascii xs e i

pub passes_separators : (x : List ℕ) (n : ℕ) (old new : Cursor) → n ≤ prefix_len is_common_separator x → old.unread ≡ chars x → new.unread ≡ chars (drop n x) → PassesSeparators old new
passes_separators x n old new h a b =
    let each = front_each is_common_separator x n h in
    let ascii = separators_ascii (take n x) each in
    record {
      passed = take n x;
      each = each;
      split = a ∙ ap chars (sym (take-append-drop n x)) ∙ chars-append (take n x) (drop n x) (IsUtf8-from_ascii (take n x) ascii) ∙ ap (λ z. z ++ chars (drop n x)) (chars-IsAscii (take n x) ascii) ∙ ap (λ z. take n x ++ z) (sym b);
    }

pub passes_no_separator : (old : Cursor) → PassesSeparators old old
passes_no_separator old = record { passed = []; each = no_char; split = refl }
