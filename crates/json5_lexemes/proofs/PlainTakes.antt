-- What takes the rest of a string, an escape, a comment or a word leaves one rest.
use denote.Ref.{Bor}
use Rattle.std.proofs.Common.{◌≡◌, ◌≢◌, ◌<◌, ◌≤◌, ℕ, Bool, true, false, inl, inr, Option, Some, None, List, [], ◌∷◌, ◌++◌, refl, sym, ap, ◌∙◌, subst, append_assoc, arith, length, length-append}
use Rattle.std.specs.Prelude.{◌==◌, ◌↔◌}
use Rattle.std.specs.Str.{chars}
use Rattle.std.proofs.lemmas.Bool.{both_ways}
use Rattle.std.proofs.lemmas.Bool.Decides.{nat_tests}
use Rattle.json5_grammar.specs.Language.Blanks.{Inside}
use Rattle.json5_grammar.specs.Language.Blanks as blanks
use Rattle.json5_tokens.specs.ByteRuns as bytes
use Rattle.json5_grammar.proofs.CharacterTests.{Each-append, each_weaken}
use Rattle.json5_grammar.specs.Language.Characters.{is_terminator, is_hex_digit, NotBegun, Each, no_char, char}
use Rattle.json5_styles.specs.Json.{is_unescaped, is_escape_letter, JsonChars, no_char as json_end, unescaped, letter, code}
use Rattle.json5_tokens.specs.Scan.{SkipsAll}
use Rattle.json5_lexemes.specs.SameLexemes.{is_line_part}
use Rattle.json5_lexemes.specs.PlainSteps.{TakesString, TakesHex, TakesCode, TakesEscape, TakesWord, TakesLine, TakesBlock, TakesComment, Leaves, LeavesWith, IsPast}
use Rattle.json5_lexemes.specs.PlainSteps as steps
use Rattle.json5_lexemes.specs.declared.plain.Last.{Last}
use Rattle.json5_grammar.proofs.CommonLemmas.{neq_from}
use Rattle.json5_lexemes.proofs.OneList.{one_run}
use Rattle.json5_lexemes.proofs.PlainTokens.{heads_apart}

-- what is left of one text is left of the other
pub leaves_by : (P Q : List ℕ → List ℕ → Type 0) (x y : List ℕ) (result : Option (Bor (List ℕ))) → ((r : List ℕ) → P (chars x) r ↔ Q (chars y) r) → Leaves Q y result → Leaves P x result
leaves_by P Q x y None o n = λ r t. n r ((o r).0 t)
leaves_by P Q x y (Some rest) o n = λ r. (λ t. (n r).0 ((o r).0 t), λ e. (o r).1 ((n r).1 e))

-- the same, with what came last
pub leaves_with_by : (P Q : List ℕ → List ℕ → Type 0) (m : Last) (x : List ℕ) (result : Option (Last × Bor (List ℕ))) → ((r : List ℕ) → P (chars x) r ↔ Q (chars x) r) → LeavesWith Q m x result → LeavesWith P m x result
leaves_with_by P Q m x None o n = λ r t. n r ((o r).0 t)
leaves_with_by P Q m x (Some p) o (is, n) = (is, λ r. (λ t. (n r).0 ((o r).0 t), λ e. (o r).1 ((n r).1 e)))

-- the rest of a string by its first character
data StringView (c : ℕ) (x r : List ℕ) : Type 0 where
  ends : c ≡ 34 → r ≡ x → StringView c x r
  goes_on : is_unescaped c ≡ true → TakesString x r → StringView c x r
  escapes : c ≡ 92 → (y : List ℕ) → TakesEscape x y → TakesString y r → StringView c x r

string_view : {s : List ℕ} (c : ℕ) (x r : List ℕ) → JsonChars s → c ∷ x ≡ s ++ 34 ∷ r → StringView c x r
string_view c x r json_end e = ends (cc) (cc)
string_view c x r (unescaped {c = d} {s = s} h k) e =
    let same : d ≡ c = cc in
    goes_on (subst (λ z. is_unescaped z ≡ true) same h) (s, k, cc)
string_view c x r (letter {c = d} {s = s} h k) e = escapes (cc) (s ++ 34 ∷ r) (steps.letter d h (cc)) (s, k, refl)
string_view c x r (code {a = a} {b = b} {c = f} {d = d} {s = s} h k) e = escapes (cc) (s ++ 34 ∷ r) (steps.code (a ∷ b ∷ f ∷ d ∷ (s ++ 34 ∷ r)) (cc) (a, b, f, d, h, refl)) (s, k, refl)

quote_escaped : is_unescaped 34 ≡ false
quote_escaped = refl

backslash_escaped : is_unescaped 92 ≡ false
backslash_escaped = refl

-- a character that is in front by equation
unescaped_as : (c d : ℕ) → c ≡ d → is_unescaped d ≡ false → is_unescaped c ≡ true → ⊥
unescaped_as c d e f h = both_ways (is_unescaped d) f (subst (λ z. is_unescaped z ≡ true) e h)

pub string_ends : (x r : List ℕ) → TakesString (34 ∷ x) r ↔ (r ≡ x)
string_ends x r = (λ (s, k, e). by_view (string_view 34 x r k e), λ e. ([], json_end, ap (λ z. 34 ∷ z) (sym e)))
  where
    by_view : StringView 34 x r → r ≡ x
    by_view (ends h e) = e
    by_view (goes_on h t) = absurd (both_ways (is_unescaped 34) quote_escaped h)
    by_view (escapes h y t u) = absurd (neq_from 34 92 refl h)

pub string_goes_on : (c : ℕ) (x r : List ℕ) → is_unescaped c ≡ true → TakesString (c ∷ x) r ↔ TakesString x r
string_goes_on c x r n = (λ (s, k, e). by_view (string_view c x r k e), λ (s, k, e). (c ∷ s, unescaped n k, ap (λ z. c ∷ z) e))
  where
    by_view : StringView c x r → TakesString x r
    by_view (ends h e) = absurd (unescaped_as c 34 h quote_escaped n)
    by_view (goes_on h t) = t
    by_view (escapes h y t u) = absurd (unescaped_as c 92 h backslash_escaped n)

pub string_run : (s x r : List ℕ) → Each is_unescaped s → TakesString (s ++ x) r ↔ TakesString x r
string_run [] x r no_char = (λ t. t, λ t. t)
string_run (c ∷ s) x r (char h e) =
    let a = string_goes_on c (s ++ x) r h in
    let b = string_run s x r e in
    (λ t. b.0 (a.0 t), λ t. a.1 (b.1 t))

pub string_past_escape : (x y r : List ℕ) → ((z : List ℕ) → TakesEscape x z ↔ (z ≡ y)) → TakesString (92 ∷ x) r ↔ TakesString y r
string_past_escape x y r o = (λ (s, k, e). by_view (string_view 92 x r k e), λ t. back ((o y).1 refl) t)
  where
    by_view : StringView 92 x r → TakesString y r
    by_view (ends h e) = absurd (neq_from 92 34 refl h)
    by_view (goes_on h t) = absurd (both_ways (is_unescaped 92) backslash_escaped h)
    by_view (escapes h z t u) = subst (λ v. TakesString v r) ((o z).0 t) u

    back : TakesEscape x y → TakesString y r → TakesString (92 ∷ x) r
    back (steps.letter c h e) (s, k, f) = (92 ∷ c ∷ s, letter h k, ap (λ z. 92 ∷ z) (e ∙ ap (λ z. c ∷ z) f))
    back (steps.code w e (a, b, c, d, h, g)) (s, k, f) =
        (92 ∷ 117 ∷ a ∷ b ∷ c ∷ d ∷ s, code h k, ap (λ z. 92 ∷ z) (e ∙ ap (λ z. 117 ∷ z) g ∙ ap (λ z. 117 ∷ a ∷ b ∷ c ∷ d ∷ z) f))

pub string_no_escape : (x r : List ℕ) → ((z : List ℕ) → TakesEscape x z → ⊥) → TakesString (92 ∷ x) r → ⊥
string_no_escape x r n (s, k, e) = by_view (string_view 92 x r k e)
  where
    by_view : StringView 92 x r → ⊥
    by_view (ends h e) = neq_from 92 34 refl h
    by_view (goes_on h t) = both_ways (is_unescaped 92) backslash_escaped h
    by_view (escapes h z t u) = n z t

pub string_stops : (c : ℕ) (x r : List ℕ) → is_unescaped c ≡ false → c ≢ 34 → c ≢ 92 → TakesString (c ∷ x) r → ⊥
string_stops c x r n q b (s, k, e) = by_view (string_view c x r k e)
  where
    by_view : StringView c x r → ⊥
    by_view (ends h e) = q h
    by_view (goes_on h t) = both_ways (is_unescaped c) n h
    by_view (escapes h z t u) = b h

pub no_string : (r : List ℕ) → TakesString [] r → ⊥
no_string r ([], k, e) = cc
no_string r (c ∷ s, k, e) = cc

-- a string ends where no run and no escape is
pub string_closes : (x : List ℕ) (result : Option (Bor (List ℕ))) → NotBegun is_unescaped (chars x) → NotBegun (λ d. d == 92) (chars x) → IsPast 34 x result → Leaves TakesString x result
string_closes x None n b q = λ r t. none (chars x) n b q r t
  where
    none : (y : List ℕ) → NotBegun is_unescaped y → NotBegun (λ d. d == 92) y → NotBegun (λ d. d == 34) y → (r : List ℕ) → TakesString y r → ⊥
    none [] n b q r t = no_string r t
    none (c ∷ y) n b q r t = string_stops c y r n (neq_from c 34 q) (neq_from c 92 b) t
string_closes x (Some rest) n b q = λ r. subst (λ z. TakesString z r ↔ (r ≡ chars rest.now)) (sym q.chars) (string_ends (chars rest.now) r)

-- a run that was passed
pub passed_run : (x y r : List ℕ) → SkipsAll is_unescaped x y → TakesString (chars x) r ↔ TakesString (chars y) r
passed_run x y r s = subst (λ z. TakesString z r ↔ TakesString (chars y) r) (sym s.split) (string_run s.passed (chars y) r s.each)

-- an escape is not empty
escape_shorter : (x r : List ℕ) → TakesEscape x r → length r < length x
escape_shorter x r (steps.letter c h e) = let k = ap length e in omega (arith, k)
escape_shorter x r (steps.code y e (a, b, c, d, h, f)) = let k = ap length e in let j = ap length f in omega (arith, k, j)

skipped_shorter : {p : ℕ → Bool} (x y : List ℕ) → SkipsAll p x y → length (chars y) ≤ length (chars x)
skipped_shorter x y s = let k = ap length s.split ∙ length-append s.passed (chars y) in omega (arith, k)

-- a character, an escape and a run
pub shorter_by : (x y w v : List ℕ) (c : ℕ) → chars x ≡ c ∷ chars y → ((r : List ℕ) → TakesEscape (chars y) r ↔ (r ≡ chars w)) → SkipsAll is_unescaped w v → length (chars v) < length (chars x)
shorter_by x y w v c e o s =
    let k = ap length e in
    let j = escape_shorter (chars y) (chars w) ((o (chars w)).1 refl) in
    let i = skipped_shorter w v s in
    omega (arith, k, j, i)

-- ---- escapes

pub no_escape : (r : List ℕ) → TakesEscape [] r → ⊥
no_escape r (steps.letter c h e) = cc
no_escape r (steps.code y e t) = cc

letter_no_u : (c : ℕ) → is_escape_letter c ≡ true → c ≢ 117
letter_no_u c h = grind (arith, nat_tests)

pub escape_letter : (c : ℕ) (x r : List ℕ) → is_escape_letter c ≡ true → TakesEscape (c ∷ x) r ↔ (r ≡ x)
escape_letter c x r n = (by_kind, λ e. steps.letter c n (ap (λ z. c ∷ z) (sym e)))
  where
    by_kind : TakesEscape (c ∷ x) r → r ≡ x
    by_kind (steps.letter d h e) = cc
    by_kind (steps.code y e t) = let is : c ≡ 117 = cc in absurd (letter_no_u c n is)

pub escape_code : (x r : List ℕ) → TakesEscape (117 ∷ x) r ↔ TakesCode x r
escape_code x r = (by_kind, λ t. steps.code x refl t)
  where
    by_kind : TakesEscape (117 ∷ x) r → TakesCode x r
    by_kind (steps.letter d h e) = let is : d ≡ 117 = cc in absurd (letter_no_u d h is)
    by_kind (steps.code y e t) = let same : y ≡ x = cc in subst (λ z. TakesCode z r) same t

pub escape_stops : (c : ℕ) (x r : List ℕ) → is_escape_letter c ≡ false → c ≢ 117 → TakesEscape (c ∷ x) r → ⊥
escape_stops c x r n u (steps.letter d h e) = let is : d ≡ c = cc in both_ways (is_escape_letter c) n (subst (λ z. is_escape_letter z ≡ true) is h)
escape_stops c x r n u (steps.code y e t) = let is : c ≡ 117 = cc in u is

-- ---- hexadecimal digits

pub no_hex : (r : List ℕ) → TakesHex [] r → ⊥
no_hex r (c, h, e) = cc

pub hex_ends : (c : ℕ) (x r : List ℕ) → is_hex_digit c ≡ true → TakesHex (c ∷ x) r ↔ (r ≡ x)
hex_ends c x r n = (λ (d, h, e). cc, λ e. (c, n, ap (λ z. c ∷ z) (sym e)))

pub hex_stops : (c : ℕ) (x r : List ℕ) → is_hex_digit c ≡ false → TakesHex (c ∷ x) r → ⊥
hex_stops c x r n (d, h, e) = let is : d ≡ c = cc in both_ways (is_hex_digit c) n (subst (λ z. is_hex_digit z ≡ true) is h)

-- what is left of a code is left of its digits, one after another
pub code_first : (x r : List ℕ) → TakesCode x r → (y : List ℕ) × TakesHex x y
code_first x r (a, b, c, d, char h e, f) = (b ∷ c ∷ d ∷ r, (a, h, f))

pub code_second : (x y r : List ℕ) → ((z : List ℕ) → TakesHex x z ↔ (z ≡ y)) → TakesCode x r → (z : List ℕ) × TakesHex y z
code_second x y r o (a, b, c, d, char h (char i e), f) = let same = (o (b ∷ c ∷ d ∷ r)).0 (a, h, f) in (c ∷ d ∷ r, (b, i, sym same))

pub code_third : (x y w r : List ℕ) → ((z : List ℕ) → TakesHex x z ↔ (z ≡ y)) → ((z : List ℕ) → TakesHex y z ↔ (z ≡ w)) → TakesCode x r → (z : List ℕ) × TakesHex w z
code_third x y w r o p (a, b, c, d, char h (char i (char j e)), f) =
    let one = (o (b ∷ c ∷ d ∷ r)).0 (a, h, f) in
    let two = (p (c ∷ d ∷ r)).0 (b, i, sym one) in
    (d ∷ r, (c, j, sym two))

pub code_last : (x y w v r : List ℕ) → ((z : List ℕ) → TakesHex x z ↔ (z ≡ y)) → ((z : List ℕ) → TakesHex y z ↔ (z ≡ w)) → ((z : List ℕ) → TakesHex w z ↔ (z ≡ v)) → TakesCode x r ↔ TakesHex v r
code_last x y w v r o p q = (there, λ t. back ((o y).1 refl) ((p w).1 refl) ((q v).1 refl) t)
  where
    there : TakesCode x r → TakesHex v r
    there (a, b, c, d, char h (char i (char j (char k e))), f) =
        let one = (o (b ∷ c ∷ d ∷ r)).0 (a, h, f) in
        let two = (p (c ∷ d ∷ r)).0 (b, i, sym one) in
        let three = (q (d ∷ r)).0 (c, j, sym two) in
        (d, k, sym three)

    back : TakesHex x y → TakesHex y w → TakesHex w v → TakesHex v r → TakesCode x r
    back (a, h, e) (b, i, f) (c, j, g) (d, k, l) =
        (a, b, c, d, char h (char i (char j (char k no_char))), e ∙ ap (λ z. a ∷ z) (f ∙ ap (λ z. b ∷ z) (g ∙ ap (λ z. c ∷ z) l)))

-- ---- comments

pub line_one : (x r u : List ℕ) → TakesLine x r → TakesLine x u → r ≡ u
line_one x r u (s, e, n, a) (t, f, m, b) = (one_run r u e n f m (sym a ∙ b)).1

-- characters that end no line
surely_in_line : (c : ℕ) → bytes.is_line_part c ≡ true → is_line_part c ≡ true
surely_in_line c h = grind (arith, nat_tests)

pub line_run : (x y r : List ℕ) → SkipsAll bytes.is_line_part x y → TakesLine (chars y) r → TakesLine (chars x) r
line_run x y r s (t, e, n, f) =
    (s.passed ++ t, Each-append (each_weaken is_line_part surely_in_line s.each) e, n, s.split ∙ ap (λ z. s.passed ++ z) f ∙ sym (append_assoc s.passed t r))

pub line_goes_on : (x y : List ℕ) (c : ℕ) (r : List ℕ) → chars x ≡ c ∷ chars y → is_terminator c ≡ false → TakesLine (chars y) r → TakesLine (chars x) r
line_goes_on x y c r e h (t, f, n, g) = (c ∷ t, char (rw h refl) f, n, e ∙ ap (λ z. c ∷ z) g)

-- a character and a run
pub skipped_less : {p : ℕ → Bool} (x y w : List ℕ) (c : ℕ) → chars x ≡ c ∷ chars y → SkipsAll p y w → length (chars w) < length (chars x)
skipped_less x y w c e s = let k = ap length e in let j = skipped_shorter y w s in omega (arith, k, j)

-- a `/* */` comment by its first character
data BlockView (c : ℕ) (x r : List ℕ) : Type 0 where
  ends : c ≡ 42 → x ≡ 47 ∷ r → BlockView c x r
  goes_on : (c ≡ 42 → NotBegun (λ d. d == 47) x) → TakesBlock x r → BlockView c x r

block_view : {s : List ℕ} (c : ℕ) (x r : List ℕ) → Inside s → c ∷ x ≡ s ++ 42 ∷ 47 ∷ r → BlockView c x r
block_view c x r blanks.ends e = ends (cc) (cc)
block_view c x r (blanks.star {s = s} n i) e =
    let tail : x ≡ s ++ 42 ∷ 47 ∷ r = cc in
    goes_on (λ h. subst (NotBegun (λ d. d == 47)) (sym tail) (before s n)) (s, i, tail)
  where
    before : (s : List ℕ) → NotBegun (λ d. d == 47) s → NotBegun (λ d. d == 47) (s ++ 42 ∷ 47 ∷ r)
    before [] n = refl
    before (d ∷ s) n = n
block_view c x r (blanks.other {c = d} {s = s} n i) e = let same : d ≡ c = cc in goes_on (λ h. absurd (n (same ∙ h))) (s, i, cc)

pub no_block : (r : List ℕ) → TakesBlock [] r → ⊥
no_block r ([], i, e) = cc
no_block r (c ∷ s, i, e) = cc

pub block_ends : (c : ℕ) (x r : List ℕ) → c ≡ 42 → TakesBlock (c ∷ 47 ∷ x) r ↔ (r ≡ x)
block_ends c x r is = (λ (s, i, e). by_view (block_view c (47 ∷ x) r i e), λ e. ([], blanks.ends, ap (λ z. z ∷ 47 ∷ x) is ∙ ap (λ z. 42 ∷ 47 ∷ z) (sym e)))
  where
    by_view : BlockView c (47 ∷ x) r → r ≡ x
    by_view (ends h e) = cc
    by_view (goes_on h t) = let k : (47 == 47) ≡ false = h is in absurd (cc)

pub block_goes_on : (c : ℕ) (x r : List ℕ) → (c ≡ 42 → NotBegun (λ d. d == 47) x) → TakesBlock (c ∷ x) r ↔ TakesBlock x r
block_goes_on c x r n = (λ (s, i, e). by_view (block_view c x r i e), λ (s, i, e). by_star (c == 42) refl s i e)
  where
    no_slash : x ≡ 47 ∷ r → NotBegun (λ d. d == 47) x → ⊥
    no_slash e k = let m : (47 == 47) ≡ false = subst (NotBegun (λ d. d == 47)) e k in cc

    by_view : BlockView c x r → TakesBlock x r
    by_view (ends h e) = absurd (no_slash e (n h))
    by_view (goes_on h t) = t

    inner : (s : List ℕ) → NotBegun (λ d. d == 47) (s ++ 42 ∷ 47 ∷ r) → NotBegun (λ d. d == 47) s
    inner [] k = tt
    inner (d ∷ s) k = k

    by_star : (b : Bool) → (c == 42) ≡ b → (s : List ℕ) → Inside s → x ≡ s ++ 42 ∷ 47 ∷ r → TakesBlock (c ∷ x) r
    by_star true h s i e =
        let is : c ≡ 42 = grind arith in
        (42 ∷ s, blanks.star (inner s (subst (NotBegun (λ d. d == 47)) e (n is))) i, ap (λ z. z ∷ x) is ∙ ap (λ z. 42 ∷ z) e)
    by_star false h s i e = (c ∷ s, blanks.other (neq_from c 42 h) i, ap (λ z. c ∷ z) e)

-- a run without a star
pub block_run : (x y r : List ℕ) → SkipsAll bytes.is_no_star x y → TakesBlock (chars x) r ↔ TakesBlock (chars y) r
block_run x y r s = subst (λ z. TakesBlock z r ↔ TakesBlock (chars y) r) (sym s.split) (without s.passed s.each)
  where
    no_star : (c : ℕ) → bytes.is_no_star c ≡ true → c ≢ 42
    no_star c h = grind (arith, nat_tests)

    without : (s : List ℕ) → Each bytes.is_no_star s → TakesBlock (s ++ chars y) r ↔ TakesBlock (chars y) r
    without [] no_char = (λ t. t, λ t. t)
    without (c ∷ s) (char h e) =
        let a = block_goes_on c (s ++ chars y) r (λ is. absurd (no_star c h is)) in
        let b = without s e in
        (λ t. b.0 (a.0 t), λ t. a.1 (b.1 t))

pub block_there : (x y w r : List ℕ) (c : ℕ) → chars x ≡ c ∷ chars y → c ≡ 42 → chars y ≡ 47 ∷ chars w → TakesBlock (chars x) r ↔ (r ≡ chars w)
block_there x y w r c e is f = subst (λ z. TakesBlock z r ↔ (r ≡ chars w)) (sym (e ∙ ap (λ z. c ∷ z) f)) (block_ends c (chars w) r is)

pub no_comment : (r : List ℕ) → TakesComment [] r → ⊥
no_comment r (inl (y, e, t)) = cc
no_comment r (inr (y, e, t)) = cc

pub comment_line : (x y r : List ℕ) → TakesLine x y → TakesComment (47 ∷ x) r ↔ (r ≡ y)
comment_line x y r l = (by_kind, λ e. inl (x, refl, subst (TakesLine x) (sym e) l))
  where
    by_kind : TakesComment (47 ∷ x) r → r ≡ y
    by_kind (inl (z, e, t)) = let same : z ≡ x = cc in line_one x r y (subst (λ v. TakesLine v r) same t) l
    by_kind (inr (z, e, t)) = absurd (heads_apart 47 42 x z refl e)

pub comment_block : (x r : List ℕ) → TakesComment (42 ∷ x) r ↔ TakesBlock x r
comment_block x r = (by_kind, λ t. inr (x, refl, t))
  where
    by_kind : TakesComment (42 ∷ x) r → TakesBlock x r
    by_kind (inl (z, e, t)) = absurd (heads_apart 42 47 x z refl e)
    by_kind (inr (z, e, t)) = let same : z ≡ x = cc in subst (λ v. TakesBlock v r) same t

pub comment_stops : (c : ℕ) (x r : List ℕ) → (c == 47) ≡ false → (c == 42) ≡ false → TakesComment (c ∷ x) r → ⊥
comment_stops c x r n m (inl (z, e, t)) = heads_apart c 47 x z n e
comment_stops c x r n m (inr (z, e, t)) = heads_apart c 42 x z m e
