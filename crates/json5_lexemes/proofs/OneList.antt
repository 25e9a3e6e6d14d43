-- A text has one list of lexemes, but for blanks at the ends of `//` comments: it is found character by character.
use Rattle.std.proofs.Common.{◌≡◌, ℕ, Bool, true, false, not, ◌||◌, List, [], ◌∷◌, ◌++◌, map, refl, sym, ap, ◌∙◌, append_assoc, arith}
use Rattle.std.specs.Prelude.{◌==◌, if◌then◌else◌}
use Rattle.std.proofs.lemmas.Bool.Decides.{nat_tests}
use Rattle.json5_grammar.specs.Language.Blanks.{Inside}
use Rattle.json5_grammar.specs.Language.Blanks as blanks
use Rattle.json5_grammar.specs.Language.Characters.{is_in, is_blank, comma_sign, slash_sign, star_sign, backslash, NotBegun, Each, no_char, char}
use Rattle.json5_grammar.specs.Language.Strings.{is_quote}
use Rattle.json5_grammar.proofs.BlanksRead.{printable_no_blank}
use Rattle.json5_grammar.proofs.CommonLemmas.{not_eq, same_char, and_right}
use Rattle.json5_grammar.proofs.StringsRead.{quote_no_backslash}
use Rattle.json5_grammar.proofs.CharacterTests.{Each-append, each_weaken, front_all, rest_all}
use Rattle.json5_grammar.specs.Model.ReadNumbers.{front_of, rest_of}
use Rattle.std.proofs.lemmas.List.{append_cancel_left}
use Rattle.json5_lexemes.specs.SameLexemes.{is_separator, is_sign, is_word_part, is_line_part}
use Rattle.json5_lexemes.specs.Lexemes.{Lexemes, Quoted, is_line_blank}
use Rattle.json5_lexemes.specs.Lexemes as lexemes
use Rattle.json5_lexemes.specs.Tokens.{trimmed, settled}

-- ---- the classes of characters are apart

-- a bracket or a colon is no separator
pub sign_apart : (c : ℕ) → is_sign c ≡ true → is_separator c ≡ false
sign_apart c h = let k = others c h in rw (k.0, printable_no_blank c k.1) refl
  where
    others : (c : ℕ) → is_sign c ≡ true → ((c == comma_sign) ≡ false) × (is_in 33 126 c ≡ true)
    others c h = (grind (arith, nat_tests), grind (arith, nat_tests))

-- a quote is neither
pub quote_apart : (c : ℕ) → is_quote c ≡ true → (is_separator c ≡ false) × (is_sign c ≡ false)
quote_apart c h = let k = others c h in (rw (k.0, printable_no_blank c k.1) refl, k.2)
  where
    others : (c : ℕ) → is_quote c ≡ true → ((c == comma_sign) ≡ false) × (is_in 33 126 c ≡ true) × (is_sign c ≡ false)
    others c h = (grind (arith, nat_tests), grind (arith, nat_tests), grind (arith, nat_tests))

-- a quote is no slash
pub quote_no_slash : (q : ℕ) → is_quote q ≡ true → (q == slash_sign) ≡ false
quote_no_slash q h = grind (arith, nat_tests)

-- a slash is no separator
pub slash_apart : is_separator slash_sign ≡ false
slash_apart = rw (printable_no_blank slash_sign refl) refl

-- part of a word is none of these
pub part_apart : (c : ℕ) → is_word_part c ≡ true → (is_separator c ≡ false) × (is_sign c ≡ false) × (is_quote c ≡ false) × ((c == slash_sign) ≡ false)
part_apart c h = by_parts (is_separator c) (is_sign c) (is_quote c) (c == slash_sign) h
  where
    by_parts : (a b d e : Bool) → not (a || (b || (d || e))) ≡ true → (a ≡ false) × (b ≡ false) × (d ≡ false) × (e ≡ false)
    by_parts true b d e h = absurd (cc)
    by_parts false true d e h = absurd (cc)
    by_parts false false true e h = absurd (cc)
    by_parts false false false true h = absurd (cc)
    by_parts false false false false h = (refl, refl, refl, refl)

-- the first character passes the test
pub each_head : {p : ℕ → Bool} {c : ℕ} {s : List ℕ} → Each p (c ∷ s) → p c ≡ true
each_head (char h e) = h

-- and so do the others
each_tail : {p : ℕ → Bool} {c : ℕ} {s : List ℕ} → Each p (c ∷ s) → Each p s
each_tail (char h e) = e

-- ---- the lexemes of a text

-- where in a text
data Mode : Type 0 where
  between : Mode
  -- a number, a literal or a name
  word : Mode
  -- a string in the quotes q
  string : ℕ → Mode
  -- the same, after a backslash
  escaped : ℕ → Mode
  -- after the first slash of a comment
  slash : Mode
  line : Mode
  block : Mode
  -- after a star in such a comment
  star : Mode

-- c is put before the first lexeme
abbrev put : ℕ → List (List ℕ) → List (List ℕ)
put c [] = []
put c (l ∷ ls) = (c ∷ l) ∷ ls

-- c is between two lexemes, or begins one
abbrev begin : ℕ → (Mode → List (List ℕ)) → List (List ℕ)
begin c k = if is_separator c then k between else if is_sign c then (c ∷ []) ∷ k between else if is_quote c then put c (k (string c)) else if c == slash_sign then put c (k slash) else put c (k word)

abbrev in_block : ℕ → (Mode → List (List ℕ)) → List (List ℕ)
in_block c k = if c == star_sign then k star else put c (k block)

abbrev step : Mode → ℕ → (Mode → List (List ℕ)) → List (List ℕ)
step between c k = begin c k
step word c k = if is_word_part c then put c (k word) else [] ∷ begin c k
step (string q) c k = if c == q then (c ∷ []) ∷ k between else if c == backslash then put c (k (escaped q)) else put c (k (string q))
step (escaped q) c k = put c (k (string q))
step slash c k = if c == slash_sign then put c (k line) else put c (k block)
step line c k = if is_line_part c then put c (k line) else [] ∷ begin c k
step block c k = in_block c k
step star c k = if c == slash_sign then [] ∷ k between else put star_sign (in_block c k)

abbrev at_end : Mode → List (List ℕ)
at_end between = []
at_end _ = [] ∷ []

-- from the mode on, the rest of a lexeme and those after it; blanks at the end of a `//` comment are its own
abbrev read : List ℕ → Mode → List (List ℕ)
read [] m = at_end m
read (c ∷ r) m = step m c (λ n. read r n)

-- ---- each kind of lexeme is read

begin_sign : (c : ℕ) (k : Mode → List (List ℕ)) → is_sign c ≡ true → begin c k ≡ (c ∷ []) ∷ k between
begin_sign c k h = rw (sign_apart c h, h) refl

begin_quote : (c : ℕ) (k : Mode → List (List ℕ)) → is_quote c ≡ true → begin c k ≡ put c (k (string c))
begin_quote c k h = let a = quote_apart c h in rw (a.0, a.1, h) refl

begin_slash : (k : Mode → List (List ℕ)) → begin slash_sign k ≡ put slash_sign (k slash)
begin_slash k = rw slash_apart refl

begin_word : (c : ℕ) (k : Mode → List (List ℕ)) → is_word_part c ≡ true → begin c k ≡ put c (k word)
begin_word c k h = let a = part_apart c h in rw (a.0, a.1, a.2, a.3) refl

word_read : {w : List ℕ} (r : List ℕ) → Each is_word_part w → NotBegun is_word_part r → read (w ++ r) word ≡ w ∷ read r between
word_read [] no_char n = refl
word_read (c ∷ r) no_char n = rw n refl
word_read r (char {c = c} p e) n = rw p (ap (put c) (word_read r e n))

string_read : {q : ℕ} {s : List ℕ} (r : List ℕ) → (backslash == q) ≡ false → Quoted q s → read (s ++ r) (string q) ≡ s ∷ read r between
string_read {q = q} r h lexemes.closes = rw (same_char q) refl
string_read {q = q} r h (lexemes.raw {c = c} m n s) = rw (not_eq c q m, not_eq c backslash n) (ap (put c) (string_read r h s))
string_read {q = q} r h (lexemes.escape {c = c} s) = rw h (ap (λ z. put backslash (put c z)) (string_read r h s))

line_read : {x : List ℕ} (r : List ℕ) → Each is_line_part x → NotBegun is_line_part r → read (x ++ r) line ≡ x ∷ read r between
line_read [] no_char n = refl
line_read (c ∷ r) no_char n = rw n refl
line_read r (char {c = c} p e) n = rw p (ap (put c) (line_read r e n))

mutual
  block_read : {x : List ℕ} (r : List ℕ) → Inside x → read (x ++ star_sign ∷ slash_sign ∷ r) block ≡ x ∷ read r between
  block_read r blanks.ends = refl
  block_read r (blanks.star n i) = star_read r i n
  block_read r (blanks.other {c = c} n i) = rw (not_eq c star_sign n) (ap (put c) (block_read r i))

  star_read : {x : List ℕ} (r : List ℕ) → Inside x → NotBegun (λ c. c == slash_sign) x → read (x ++ star_sign ∷ slash_sign ∷ r) star ≡ (star_sign ∷ x) ∷ read r between
  star_read r blanks.ends n = refl
  star_read r (blanks.star m i) n = ap (put star_sign) (star_read r i m)
  star_read r (blanks.other {c = c} m i) n = rw (n, not_eq c star_sign m) (ap (λ z. put star_sign (put c z)) (block_read r i))

-- ---- where each ends

-- a string ends at one place
pub one_string : {q : ℕ} {s t : List ℕ} (r u : List ℕ) → is_quote q ≡ true → Quoted q s → Quoted q t → s ++ r ≡ t ++ u → (s ≡ t) × (r ≡ u)
one_string {q = q} {s = s} {t = t} r u h a b e =
    let k = quote_no_backslash q h in
    let both : s ∷ read r between ≡ t ∷ read u between = sym (string_read r k a) ∙ ap (λ z. read z (string q)) e ∙ string_read u k b in
    let same : s ≡ t = cc in
    (same, append_cancel_left t r u (ap (λ z. z ++ r) (sym same) ∙ e))

-- and so does a `/* */` comment
pub one_block : {s t : List ℕ} (r u : List ℕ) → Inside s → Inside t → s ++ star_sign ∷ slash_sign ∷ r ≡ t ++ star_sign ∷ slash_sign ∷ u → (s ≡ t) × (r ≡ u)
one_block {s = s} {t = t} r u a b e =
    let both : s ∷ read r between ≡ t ∷ read u between = sym (block_read r a) ∙ ap (λ z. read z block) e ∙ block_read u b in
    let same : s ≡ t = cc in
    let rests : star_sign ∷ slash_sign ∷ r ≡ star_sign ∷ slash_sign ∷ u = append_cancel_left t (star_sign ∷ slash_sign ∷ r) (star_sign ∷ slash_sign ∷ u) (ap (λ z. z ++ star_sign ∷ slash_sign ∷ r) (sym same) ∙ e) in
    (same, cc)

-- and so does what consists of such characters
pub one_run : {p : ℕ → Bool} {s t : List ℕ} (r u : List ℕ) → Each p s → NotBegun p r → Each p t → NotBegun p u → s ++ r ≡ t ++ u → (s ≡ t) × (r ≡ u)
one_run {p = p} {s = s} {t = t} r u a n b m e =
    (sym (front_all r a n) ∙ ap (front_of p) e ∙ front_all u b m, sym (rest_all r a n) ∙ ap (rest_of p) e ∙ rest_all u b m)

-- ---- blanks at the end of a `//` comment

none_left : {b : List ℕ} → Each is_line_blank b → trimmed b ≡ []
none_left no_char = refl
none_left (char p e) = rw (p, none_left e) refl

-- more blanks at the end make no difference
trimmed_more : (x : List ℕ) {b : List ℕ} → Each is_line_blank b → trimmed (x ++ b) ≡ trimmed x
trimmed_more [] e = none_left e
trimmed_more (c ∷ x) e = rw (trimmed_more x e) refl

-- ---- a text has one list of lexemes

abbrev settle : List (List ℕ) → List (List ℕ)
settle ls = map settled ls

-- what is no comment stays as it is
pub settled_word : (c : ℕ) (s : List ℕ) → (c == slash_sign) ≡ false → settled (c ∷ s) ≡ c ∷ s
settled_word c [] h = refl
settled_word c (d ∷ s) h = rw h refl

line_settled : (x r : List ℕ) {b : List ℕ} → Each is_line_part x → Each is_line_blank b → NotBegun is_line_part r
    → settle (read (slash_sign ∷ slash_sign ∷ x ++ (b ++ r)) between) ≡ settled (slash_sign ∷ slash_sign ∷ x) ∷ settle (read r between)
line_settled x r {b = b} e f n =
    let whole : read (x ++ (b ++ r)) line ≡ (x ++ b) ∷ read r between =
    ap (λ z. read z line) (sym (append_assoc x b r)) ∙ line_read r (Each-append e (each_weaken is_line_part (λ c h. and_right (is_blank c) (is_line_part c) h) f)) n in
    ap settle (begin_slash (λ n. read (slash_sign ∷ x ++ (b ++ r)) n) ∙ ap (λ z. put slash_sign (put slash_sign z)) whole)
    ∙ ap (λ z. (slash_sign ∷ slash_sign ∷ z) ∷ settle (read r between)) (trimmed_more x f)

-- any list of the text's lexemes is the list that is read, but for blanks at the ends of `//` comments
found : {x : List ℕ} {ls : List (List ℕ)} → Lexemes x ls → settle (read x between) ≡ settle ls
found lexemes.no_lexeme = refl
found (lexemes.separator p s) = rw p (found s)
found (lexemes.sign {c = c} {r = r} p s) = ap settle (begin_sign c (λ n. read r n) p) ∙ ap (λ z. (c ∷ []) ∷ z) (found s)
found (lexemes.word {c = c} {w = w} {r = r} e n s) =
    ap settle (begin_word c (λ n. read (w ++ r) n) (each_head e) ∙ ap (put c) (word_read r (each_tail e) n)) ∙ ap (λ z. settled (c ∷ w) ∷ z) (found s)
found (lexemes.string {q = q} {s = t} {r = r} p i s) =
    ap settle (begin_quote q (λ n. read (t ++ r) n) p ∙ ap (put q) (string_read r (quote_no_backslash q p) i)) ∙ ap (λ z. settled (q ∷ t) ∷ z) (found s)
found (lexemes.line {x = x} {r = r} e f n s) = line_settled x r e f n ∙ ap (λ z. settled (slash_sign ∷ slash_sign ∷ x) ∷ z) (found s)
found (lexemes.block {x = x} {r = r} i s) =
    ap settle (begin_slash (λ n. read (star_sign ∷ x ++ star_sign ∷ slash_sign ∷ r) n) ∙ ap (λ z. put slash_sign (put star_sign z)) (block_read r i)) ∙ ap (λ z. settled (slash_sign ∷ star_sign ∷ x) ∷ z) (found s)

-- so any two lists of one text are the same
pub one_list : (x : List ℕ) (l m : List (List ℕ)) → Lexemes x l → Lexemes x m → map settled l ≡ map settled m
one_list x l m a b = sym (found a) ∙ found b
