-- What a plain text goes on with, by its first character, and after each token.
use Rattle.std.proofs.Common.{◌≡◌, ◌≢◌, ℕ, Bool, true, false, not, ◌||◌, ◌⊎◌, inl, inr, List, [], ◌∷◌, ◌++◌, refl, sym, ◌∙◌, subst, append_assoc, arith}
use Rattle.std.specs.Prelude.{◌==◌}
use Rattle.std.proofs.lemmas.Bool.{both_ways}
use Rattle.std.proofs.lemmas.Bool.Decides.{nat_tests}
use lib.Chars.{codes}
use Rattle.json5_grammar.specs.Language.Blanks.{Inside}
use Rattle.json5_grammar.specs.Language.Characters.{is_in, is_blank, is_digit, slash_sign, star_sign, backslash, NotBegun, Each, no_char, char}
use Rattle.json5_grammar.specs.Language.Numbers.{Integer, lone_zero, nonzero, in_run}
use Rattle.json5_grammar.specs.Language.Strings.{is_quote}
use Rattle.json5_grammar.proofs.BlanksRead.{printable_no_blank}
use Rattle.json5_grammar.proofs.CharacterTests.{Each-append, each_weaken, digit_in_run, e_in_run, nonzero_digit}
use Rattle.json5_grammar.proofs.CommonLemmas.{neq_from}
use Rattle.json5_styles.specs.Json.{is_json_blank, is_unescaped, JsonChars, no_char as json_end, unescaped, letter, code, JsonString, quoted, json_number, Minus, no_minus, minus, Fraction, no_fraction, fraction, Exponent, no_exponent, exponent, ExponentSign, no_sign, sign}
use Rattle.json5_lexemes.specs.Lexemes.{Quoted}
use Rattle.json5_lexemes.specs.Lexemes as lexemes
use Rattle.json5_lexemes.specs.SameLexemes.{is_separator, is_sign, is_word_part, is_line_part}
use Rattle.json5_lexemes.specs.Plain.{JsonWord, is_null, is_true, is_false, is_number, is_opening, is_closing, Plain}
use Rattle.json5_lexemes.specs.Plain as plain
use Rattle.json5_lexemes.specs.declared.plain.Last.{Last}
use Rattle.json5_lexemes.specs.declared.plain.Last.TheVariants as last
use Rattle.json5_lexemes.proofs.OneList.{quote_apart, each_head, one_string, one_block, one_run}
use Rattle.json5_lexemes.proofs.WordParts.{each_part, run_part, hex_quoted}

-- ---- what JSON's tokens consist of

digits_parts : {s : List ℕ} → Each is_digit s → Each is_word_part s
digits_parts e = each_weaken is_word_part (λ c h. run_part c (digit_in_run c h)) e

integer_parts : {s : List ℕ} → Integer s → Each is_word_part s
integer_parts lone_zero = each_part (48 ∷ []) refl
integer_parts (nonzero {c = c} h e) = char (run_part c (digit_in_run c (nonzero_digit c h))) (digits_parts e)

minus_parts : {s : List ℕ} → Minus s → Each is_word_part s
minus_parts no_minus = no_char
minus_parts minus = each_part (45 ∷ []) refl

fraction_parts : {s : List ℕ} → Fraction s → Each is_word_part s
fraction_parts no_fraction = no_char
fraction_parts (fraction e) = Each-append (each_part (46 ∷ []) refl) (digits_parts e)

sign_parts : {s : List ℕ} → ExponentSign s → Each is_word_part s
sign_parts no_sign = no_char
sign_parts (sign {c = c} h) = char (one c h) no_char
  where
    one : (c : ℕ) → ((c == 43) || (c == 45)) ≡ true → is_word_part c ≡ true
    one c h = run_part c (in_run_sign c h)
      where
        in_run_sign : (c : ℕ) → ((c == 43) || (c == 45)) ≡ true → in_run c ≡ true
        in_run_sign c h = grind (arith, nat_tests)

exponent_parts : {s : List ℕ} → Exponent s → Each is_word_part s
exponent_parts no_exponent = no_char
exponent_parts (exponent {c = c} h g e) = char (run_part c (e_in_run c h)) (Each-append (sign_parts g) (digits_parts e))

-- a number or a literal of JSON is a word
pub word_parts : {s : List ℕ} → JsonWord s → Each is_word_part s
word_parts is_null = each_part (codes "null") refl
word_parts is_true = each_part (codes "true") refl
word_parts is_false = each_part (codes "false") refl
word_parts (is_number (json_number m i f e)) = Each-append (minus_parts m) (Each-append (integer_parts i) (Each-append (fraction_parts f) (exponent_parts e)))

-- it has a character
pub no_empty_word : {s : List ℕ} → JsonWord s → s ≢ []
no_empty_word is_null e = cc
no_empty_word is_true e = cc
no_empty_word is_false e = cc
no_empty_word (is_number (json_number {m = m} {f = f} {e = x} a i b d)) e = no_empty_number m f x i e
  where
    no_empty_number : (m f x : List ℕ) {i : List ℕ} → Integer i → m ++ (i ++ (f ++ x)) ≢ []
    no_empty_number [] f x lone_zero e = cc
    no_empty_number [] f x (nonzero h d) e = cc
    no_empty_number (c ∷ m) f x i e = cc

json_blank : (c : ℕ) → is_json_blank c ≡ true → is_blank c ≡ true
json_blank c h = grind (arith, nat_tests)

json_chars_quoted : {s : List ℕ} → JsonChars s → Quoted 34 (s ++ 34 ∷ [])
json_chars_quoted json_end = lexemes.closes
json_chars_quoted (unescaped {c = c} h s) = lexemes.raw (apart c h).0 (apart c h).1 (json_chars_quoted s)
  where
    apart : (c : ℕ) → is_unescaped c ≡ true → (c ≢ 34) × (c ≢ backslash)
    apart c h = (grind (arith, nat_tests), grind (arith, nat_tests))
json_chars_quoted (letter h s) = lexemes.escape (json_chars_quoted s)
json_chars_quoted (code {a = a} {b = b} {c = c} {d = d} {s = s} e k) = lexemes.escape (hex_quoted {d = a ∷ b ∷ c ∷ d ∷ []} refl e (json_chars_quoted k))

-- ---- by the first character

-- the rest of a string after its first quote, and what follows it
pub record StringThen (k : Bool) (r : List ℕ) : Type 0 where
  pub chars : List ℕ
  pub left : List ℕ
  pub is_json : JsonChars chars
  pub split : r ≡ chars ++ 34 ∷ left
  pub plain : Plain k last.Text left

-- a number or a literal that begins with c, and what follows it
pub record WordThen (k : Bool) (c : ℕ) (r : List ℕ) : Type 0 where
  pub more : List ℕ
  pub left : List ℕ
  pub is_word : JsonWord (c ∷ more)
  pub split : r ≡ more ++ left
  pub stops : NotBegun is_word_part left
  pub plain : Plain k last.Word left

-- the rest of a comment after its first slash, and what follows it
pub record LineThen (k : Bool) (l : Last) (r : List ℕ) : Type 0 where
  pub text : List ℕ
  pub left : List ℕ
  pub is_line : Each is_line_part text
  pub split : r ≡ slash_sign ∷ text ++ left
  pub stops : NotBegun is_line_part left
  pub plain : Plain k l left

pub record BlockThen (k : Bool) (l : Last) (r : List ℕ) : Type 0 where
  pub text : List ℕ
  pub left : List ℕ
  pub is_block : Inside text
  pub split : r ≡ star_sign ∷ text ++ star_sign ∷ slash_sign ∷ left
  pub plain : Plain k l left

abbrev pub CommentThen : Bool → Last → List ℕ → Type 0
CommentThen k l r = (k ≡ true) × (LineThen k l r ⊎ BlockThen k l r)

abbrev pub either : Bool → Type 0 → Type 0 → Type 0
either true A B = A
either false A B = B

-- what has to hold of what follows c
abbrev pub Asks : Bool → Last → ℕ → List ℕ → Type 0
Asks k l c r = either (is_json_blank c) (Plain k l r) (either (is_word_part c) (WordThen k c r) (either (is_opening c) (Plain k last.Sign r)
    (either (is_closing c) ((l ≢ last.Comma) × Plain k last.Sign r) (either (c == 44) (Plain k last.Comma r) (either (c == 58) ((l ≡ last.Text) × Plain k last.Sign r)
    (either (c == 47) (CommentThen k l r) (either (c == 34) (StringThen k r) ⊥)))))))

-- a sign or a quote is no blank and no part of a word
record Apart (c : ℕ) : Type 0 where
  no_blank : is_json_blank c ≡ false
  no_part : is_word_part c ≡ false

separator_no_part : (c : ℕ) → is_separator c ≡ true → is_word_part c ≡ false
separator_no_part c h = rw h refl

sign_no_part : (c : ℕ) → is_sign c ≡ true → is_word_part c ≡ false
sign_no_part c h = by_separator (is_separator c) (is_sign c) (is_quote c || (c == slash_sign)) h
  where
    by_separator : (a b d : Bool) → b ≡ true → not (a || (b || d)) ≡ false
    by_separator true b d h = refl
    by_separator false b d h = rw h refl

blank_separates : (c : ℕ) → is_blank c ≡ true → is_separator c ≡ true
blank_separates c h = by_comma (c == 44) (is_blank c) h
  where
    by_comma : (a b : Bool) → b ≡ true → (a || b) ≡ true
    by_comma true b h = refl
    by_comma false b h = h

opening_apart : (c : ℕ) → is_opening c ≡ true → Apart c
opening_apart c h = record { no_blank = blank c h; no_part = sign_no_part c (is c h) }
  where
    blank : (c : ℕ) → is_opening c ≡ true → is_json_blank c ≡ false
    blank c h = grind (arith, nat_tests)

    is : (c : ℕ) → is_opening c ≡ true → is_sign c ≡ true
    is c h = grind (arith, nat_tests)

record ClosingApart (c : ℕ) : Type 0 where
  apart : Apart c
  no_opening : is_opening c ≡ false

closing_apart : (c : ℕ) → is_closing c ≡ true → ClosingApart c
closing_apart c h = record { apart = record { no_blank = blank c h; no_part = sign_no_part c (is c h) }; no_opening = none c h }
  where
    blank : (c : ℕ) → is_closing c ≡ true → is_json_blank c ≡ false
    blank c h = grind (arith, nat_tests)

    is : (c : ℕ) → is_closing c ≡ true → is_sign c ≡ true
    is c h = grind (arith, nat_tests)

    none : (c : ℕ) → is_closing c ≡ true → is_opening c ≡ false
    none c h = grind (arith, nat_tests)

colon_no_part : is_word_part 58 ≡ false
colon_no_part = sign_no_part 58 refl

slash_no_part : is_word_part 47 ≡ false
slash_no_part = rw (printable_no_blank 47 refl) refl

quote_no_part : (q : ℕ) → is_quote q ≡ true → is_word_part q ≡ false
quote_no_part q h = let a = quote_apart q h in rw (a.0, a.1, h) refl

part_no_json_blank : (c : ℕ) → is_word_part c ≡ true → is_json_blank c ≡ false
part_no_json_blank c h = by_value (is_json_blank c) refl
  where
    by_value : (b : Bool) → is_json_blank c ≡ b → is_json_blank c ≡ false
    by_value true e = absurd (both_ways (is_word_part c) (separator_no_part c (blank_separates c (json_blank c e))) h)
    by_value false e = e

-- a plain text asks so
pub asked : {k : Bool} {l : Last} {x : List ℕ} (c : ℕ) (r : List ℕ) → Plain k l x → x ≡ c ∷ r → Asks k l c r
asked {k = k} {l = l} c r plain.ends e = absurd (cc)
asked {k = k} {l = l} c r (plain.blank {c = d} {r = s} h p) e =
    let head : d ≡ c = cc in
    let tail : s ≡ r = cc in
    let b : is_json_blank c ≡ true = subst (λ z. is_json_blank z ≡ true) head h in
    rw b (subst (Plain k l) tail p)
asked {k = k} {l = l} c r (plain.line {x = x} {r = s} a i n p) e =
    let head : c ≡ 47 = cc in
    let tail : r ≡ 47 ∷ x ++ s = cc in
    subst (λ z. Asks k l z r) (sym head) (rw slash_no_part (a, inl (record { text = x; left = s; is_line = i; split = tail; stops = n; plain = p })))
asked {k = k} {l = l} c r (plain.block {x = x} {r = s} a i p) e =
    let head : c ≡ 47 = cc in
    let tail : r ≡ 42 ∷ x ++ 42 ∷ 47 ∷ s = cc in
    subst (λ z. Asks k l z r) (sym head) (rw slash_no_part (a, inr (record { text = x; left = s; is_block = i; split = tail; plain = p })))
asked {k = k} {l = l} c r (plain.opens {c = d} {r = s} h p) e =
    let head : d ≡ c = cc in
    let tail : s ≡ r = cc in
    let b : is_opening c ≡ true = subst (λ z. is_opening z ≡ true) head h in
    let a = opening_apart c b in
    rw (a.no_blank, a.no_part, b) (subst (Plain k last.Sign) tail p)
asked {k = k} {l = l} c r (plain.closes {c = d} {r = s} n h p) e =
    let head : d ≡ c = cc in
    let tail : s ≡ r = cc in
    let b : is_closing c ≡ true = subst (λ z. is_closing z ≡ true) head h in
    let a = closing_apart c b in
    rw (a.apart.no_blank, a.apart.no_part, a.no_opening, b) (n, subst (Plain k last.Sign) tail p)
asked {k = k} {l = l} c r (plain.comma {r = s} p) e =
    let head : c ≡ 44 = cc in
    let tail : s ≡ r = cc in
    subst (λ z. Asks k l z r) (sym head) (subst (Plain k last.Comma) tail p)
asked {k = k} c r (plain.colon {r = s} p) e =
    let head : c ≡ 58 = cc in
    let tail : s ≡ r = cc in
    subst (λ z. Asks k last.Text z r) (sym head) (rw colon_no_part (refl, subst (Plain k last.Sign) tail p))
asked {k = k} {l = l} c r (plain.word {s = s} {r = t} w n p) e = word_asked s w (word_parts w) e
  where
    word_asked : (s : List ℕ) → JsonWord s → Each is_word_part s → s ++ t ≡ c ∷ r → Asks k l c r
    word_asked [] w i e = absurd (no_empty_word w refl)
    word_asked (d ∷ s) w i e =
        let head : d ≡ c = cc in
        let tail : r ≡ s ++ t = cc in
        let b : is_word_part c ≡ true = subst (λ z. is_word_part z ≡ true) head (each_head i) in
        rw (part_no_json_blank c b, b) (record { more = s; left = t; is_word = subst (λ z. JsonWord (z ∷ s)) head w; split = tail; stops = n; plain = p })
asked {k = k} {l = l} c r (plain.string {s = s} {r = t} (quoted {s = u} j) p) e =
    let head : c ≡ 34 = cc in
    let tail : r ≡ (u ++ 34 ∷ []) ++ t = cc in
    subst (λ z. Asks k l z r) (sym head) (rw (quote_no_part 34 refl) (record { chars = u; left = t; is_json = j; split = tail ∙ append_assoc u (34 ∷ []) t; plain = p }))

-- ---- after each token

sign_no_json_blank : (c : ℕ) → is_sign c ≡ true → is_json_blank c ≡ false
sign_no_json_blank c h = grind (arith, nat_tests)

-- a blank is no bracket, comma, colon, slash or quote
record BlankApart (c : ℕ) : Type 0 where
  no_part : is_word_part c ≡ false
  no_opening : is_opening c ≡ false
  no_closing : is_closing c ≡ false
  no_comma : (c == 44) ≡ false
  no_colon : (c == 58) ≡ false
  no_slash : (c == 47) ≡ false
  no_quote : (c == 34) ≡ false

blank_apart : (c : ℕ) → is_blank c ≡ true → BlankApart c
blank_apart c h =
    let n = not_printable (is_in 33 126 c) refl in record {
      no_part = separator_no_part c (blank_separates c h);
      no_opening = opening c n;
      no_closing = closing c n;
      no_comma = grind (arith, nat_tests, n);
      no_colon = grind (arith, nat_tests, n);
      no_slash = grind (arith, nat_tests, n);
      no_quote = grind (arith, nat_tests, n);
    }
  where
    not_printable : (b : Bool) → is_in 33 126 c ≡ b → is_in 33 126 c ≡ false
    not_printable true e = absurd (both_ways (is_blank c) (printable_no_blank c e) h)
    not_printable false e = e

    opening : (c : ℕ) → is_in 33 126 c ≡ false → is_opening c ≡ false
    opening c n = grind (arith, nat_tests)

    closing : (c : ℕ) → is_in 33 126 c ≡ false → is_closing c ≡ false
    closing c n = grind (arith, nat_tests)

-- two texts whose first characters differ
pub heads_apart : (c d : ℕ) (x y : List ℕ) → (c == d) ≡ false → c ∷ x ≡ d ∷ y → ⊥
heads_apart c d x y h e = let same : c ≡ d = cc in neq_from c d h same

pub same_tail : (c : ℕ) (x y : List ℕ) → c ∷ x ≡ c ∷ y → x ≡ y
same_tail c x y e = cc

module _ {k : Bool} {l : Last} where
  pub plain_blank : (c : ℕ) {r : List ℕ} → is_blank c ≡ true → Plain k l (c ∷ r) → (is_json_blank c ≡ true) × Plain k l r
  plain_blank c {r = r} h p = by_value (is_json_blank c) refl
    where
      by_value : (b : Bool) → is_json_blank c ≡ b → (is_json_blank c ≡ true) × Plain k l r
      by_value true e = let a : Asks k l c r = asked c r p refl in (e, rw e at a)
      by_value false e =
          let a = blank_apart c h in
          let q : Asks k l c r = asked c r p refl in
          absurd (rw (e, a.no_part, a.no_opening, a.no_closing, a.no_comma, a.no_colon, a.no_slash, a.no_quote) at q)

  pub plain_open : (c : ℕ) {r : List ℕ} → is_opening c ≡ true → Plain k l (c ∷ r) → Plain k last.Sign r
  plain_open c {r = r} h p = let a = opening_apart c h in let q : Asks k l c r = asked c r p refl in rw (a.no_blank, a.no_part, h) at q

  pub plain_close : (c : ℕ) {r : List ℕ} → is_closing c ≡ true → Plain k l (c ∷ r) → (l ≢ last.Comma) × Plain k last.Sign r
  plain_close c {r = r} h p = let a = closing_apart c h in let q : Asks k l c r = asked c r p refl in rw (a.apart.no_blank, a.apart.no_part, a.no_opening, h) at q

  pub plain_comma : {r : List ℕ} → Plain k l (44 ∷ r) → Plain k last.Comma r
  plain_comma {r = r} p = asked 44 r p refl

  pub plain_colon : {r : List ℕ} → Plain k l (58 ∷ r) → (l ≡ last.Text) × Plain k last.Sign r
  plain_colon {r = r} p = let q : Asks k l 58 r = asked 58 r p refl in rw colon_no_part at q

  pub plain_slash : {r : List ℕ} → Plain k l (47 ∷ r) → CommentThen k l r
  plain_slash {r = r} p = let q : Asks k l 47 r = asked 47 r p refl in rw slash_no_part at q

  pub plain_line : {x r : List ℕ} → Each is_line_part x → NotBegun is_line_part r → Plain k l (47 ∷ 47 ∷ x ++ r) → (k ≡ true) × Plain k l r
  plain_line {x = x} {r = r} e n p = let a = plain_slash p in (a.0, by_kind a.1)
    where
      by_kind : LineThen k l (47 ∷ x ++ r) ⊎ BlockThen k l (47 ∷ x ++ r) → Plain k l r
      by_kind (inl a) =
          let tails = same_tail 47 (x ++ r) (a.text ++ a.left) a.split in
          let same = one_run r a.left e n a.is_line a.stops tails in
          subst (Plain k l) (sym same.1) a.plain
      by_kind (inr a) = absurd (heads_apart 47 42 (x ++ r) _ refl a.split)

  pub plain_block : {x r : List ℕ} → Inside x → Plain k l (47 ∷ 42 ∷ x ++ 42 ∷ 47 ∷ r) → (k ≡ true) × Plain k l r
  plain_block {x = x} {r = r} i p = let a = plain_slash p in (a.0, by_kind a.1)
    where
      by_kind : LineThen k l (42 ∷ x ++ 42 ∷ 47 ∷ r) ⊎ BlockThen k l (42 ∷ x ++ 42 ∷ 47 ∷ r) → Plain k l r
      by_kind (inl a) = absurd (heads_apart 42 47 (x ++ 42 ∷ 47 ∷ r) _ refl a.split)
      by_kind (inr a) =
          let tails = same_tail 42 (x ++ 42 ∷ 47 ∷ r) (a.text ++ 42 ∷ 47 ∷ a.left) a.split in
          let same = one_block r a.left i a.is_block tails in
          subst (Plain k l) (sym same.1) a.plain

  pub plain_word : {s r : List ℕ} → s ≢ [] → Each is_word_part s → NotBegun is_word_part r → Plain k l (s ++ r) → JsonWord s × Plain k last.Word r
  plain_word {s = []} some e n p = absurd (some refl)
  plain_word {s = c ∷ w} {r = r} some (char h e) n p =
      let q : Asks k l c (w ++ r) = asked c (w ++ r) p refl in
      let a : WordThen k c (w ++ r) = rw (part_no_json_blank c h, h) at q in
      let same = one_run r a.left e n (more_parts a.is_word) a.stops a.split in
      (subst (λ z. JsonWord (c ∷ z)) (sym same.0) a.is_word, subst (Plain k last.Word) (sym same.1) a.plain)
    where
      more_parts : {c : ℕ} {s : List ℕ} → JsonWord (c ∷ s) → Each is_word_part s
      more_parts w = tail (word_parts w)
        where
          tail : {c : ℕ} {s : List ℕ} → Each is_word_part (c ∷ s) → Each is_word_part s
          tail (char h e) = e

  pub plain_quote : {r : List ℕ} → Plain k l (34 ∷ r) → StringThen k r
  plain_quote {r = r} p = let q : Asks k l 34 r = asked 34 r p refl in rw (quote_no_part 34 refl) at q

  no_single_quote : {r : List ℕ} → Plain k l (39 ∷ r) → ⊥
  no_single_quote {r = r} p = let q : Asks k l 39 r = asked 39 r p refl in rw (quote_no_part 39 refl) at q

  pub plain_string : (q : ℕ) {s r : List ℕ} → is_quote q ≡ true → Quoted q s → Plain k l (q ∷ s ++ r) → JsonString (q ∷ s) × Plain k last.Text r
  plain_string q {s = s} {r = r} h i p = by_quote (q == 34) refl
    where
      double : (b : ℕ) → b ≡ 34 → Quoted b s → Plain k l (b ∷ s ++ r) → JsonString (b ∷ s) × Plain k last.Text r
      double b e i p =
          let a = plain_quote (subst (λ z. Plain k l (z ∷ s ++ r)) e p) in
          let same = one_string r a.left refl (subst (λ z. Quoted z s) e i) (json_chars_quoted a.is_json) (a.split ∙ sym (append_assoc a.chars (34 ∷ []) a.left)) in
          (subst (λ z. JsonString (z ∷ s)) (sym e) (subst (λ z. JsonString (34 ∷ z)) (sym same.0) (quoted a.is_json)), subst (Plain k last.Text) (sym same.1) a.plain)

      single : (b : ℕ) → is_quote b ≡ true → (b == 34) ≡ false → b ≡ 39
      single b h e = grind (arith, nat_tests)

      by_quote : (b : Bool) → (q == 34) ≡ b → JsonString (q ∷ s) × Plain k last.Text r
      by_quote true e = let is : q ≡ 34 = grind arith in double q is i p
      by_quote false e = absurd (no_single_quote (subst (λ z. Plain k l (z ∷ s ++ r)) (single q h e) p))

-- what is plain without comments is plain
pub bare_plain : {l : Last} {x : List ℕ} → Plain false l x → Plain true l x
bare_plain plain.ends = plain.ends
bare_plain (plain.blank h p) = plain.blank h (bare_plain p)
bare_plain (plain.line a e n p) = absurd (cc)
bare_plain (plain.block a i p) = absurd (cc)
bare_plain (plain.opens h p) = plain.opens h (bare_plain p)
bare_plain (plain.closes n h p) = plain.closes n h (bare_plain p)
bare_plain (plain.comma p) = plain.comma (bare_plain p)
bare_plain (plain.colon p) = plain.colon (bare_plain p)
bare_plain (plain.word w n p) = plain.word w n (bare_plain p)
bare_plain (plain.string s p) = plain.string s (bare_plain p)
