-- Rows of blanks.
use Rattle.std.proofs.Common.{◌≡◌, ◌∙◌, ℕ, zero, suc, ◌+◌, ◌-◌, ◌<◌, ◌≤◌, Bool, true, false, if◌then◌else◌, List, [], ◌∷◌, ◌++◌, length, take, drop, replicate, sym, ap, subst, arith, append_assoc, append-nil}
use Rattle.std.specs.Str.{chars, IsAscii, IsCharBoundary}
use Rattle.std.proofs.lemmas.List.{length-replicate, replicate-append-replicate, take-replicate}
use Rattle.std.proofs.lemmas.Str.{chars-nil, chars-IsAscii, IsCharBoundary-from_ascii}
use Rattle.std.proofs.lemmas.Str.Ascii.{IsAscii-nil, IsAscii-cons}
use Rattle.json5_write.proofs.PiecesWritten.{chars_comma}
use Rattle.json5_styles.specs.Blanks.{blank_of}
use Rattle.json5_styles.specs.Styles.{comma_if}
use Rattle.json5_styles.specs.declared.lines.Blank.{Blank}
use Rattle.json5_styles.specs.declared.lines.Blank.TheVariants as blank

blank_small : (b : Blank) → blank_of b < 128
blank_small blank.Space = omega arith
blank_small blank.Tab = omega arith

all_ascii : (c n : ℕ) → c < 128 → IsAscii (replicate n c)
all_ascii c zero h = IsAscii-nil
all_ascii c (suc n) h = IsAscii-cons c _ h (all_ascii c n h)

chars_blanks : (b : Blank) (n : ℕ) → chars (replicate n (blank_of b)) ≡ replicate n (blank_of b)
chars_blanks b n = chars-IsAscii (replicate n (blank_of b)) (all_ascii (blank_of b) n (blank_small b))

pub cut : (n c : ℕ) → 256 < n → replicate n c ≡ replicate 256 c ++ replicate (n - 256) c
cut n c h = ap (λ k. replicate k c) (omega arith) ∙ sym (replicate-append-replicate 256 (n - 256) c)

-- a comma, a line feed and so many blanks
abbrev after_comma : Blank → ℕ → List ℕ
after_comma b n = 44 ∷ 10 ∷ replicate n (blank_of b)

line_ascii : (b : Blank) (n : ℕ) → IsAscii (10 ∷ replicate n (blank_of b))
line_ascii b n = IsAscii-cons 10 (replicate n (blank_of b)) (omega arith) (all_ascii (blank_of b) n (blank_small b))

comma_ascii : (b : Blank) (n : ℕ) → IsAscii (after_comma b n)
comma_ascii b n = IsAscii-cons 44 (10 ∷ replicate n (blank_of b)) (omega arith) (line_ascii b n)

length_line : (b : Blank) (n : ℕ) → length (after_comma b n) ≡ 2 + n
length_line b n = let k : length (replicate n (blank_of b)) ≡ n = length-replicate n (blank_of b) in omega (arith, k)

shorter_line : (b : Blank) (n : ℕ) → n ≤ 256 → take (2 + n) (after_comma b 256) ≡ after_comma b n
shorter_line b n h = let two : 2 + n ≡ suc (suc n) = omega arith in ap (λ k. take k (after_comma b 256)) two ∙ ap (λ l. 44 ∷ 10 ∷ l) (take-replicate n 256 (blank_of b) h)

pub boundary : (b : Blank) (s : List ℕ) (n : ℕ) → s ≡ after_comma b 256 → n ≤ 256 → IsCharBoundary s (2 + n)
boundary b s n e h = subst (λ t. IsCharBoundary t (2 + n)) (sym e) (IsCharBoundary-from_ascii (after_comma b 256) (2 + n) (comma_ascii b 256) (let k = length_line b 256 in omega (arith, k, h)))

pub front : (b : Blank) (s part : List ℕ) (n : ℕ) → s ≡ after_comma b 256 → part ≡ take (2 + n) s → n ≤ 256 → part ≡ after_comma b n
front b s part n e f h = f ∙ ap (take (2 + n)) e ∙ shorter_line b n h

pub with_comma : (b : Blank) (due : Bool) (part : List ℕ) (n : ℕ) → due ≡ true → part ≡ after_comma b n → chars part ≡ comma_if due ++ 10 ∷ replicate n (blank_of b)
with_comma b true part n h e = ap chars e ∙ chars-IsAscii (after_comma b n) (comma_ascii b n)
with_comma b false part n h e = absurd (cc)

pub without_comma : (b : Blank) (due : Bool) (part rest : List ℕ) (n : ℕ) → due ≡ false → part ≡ after_comma b n → rest ≡ drop 1 part → chars rest ≡ comma_if due ++ 10 ∷ replicate n (blank_of b)
without_comma b true part rest n h e f = absurd (cc)
without_comma b false part rest n h e f = ap chars (f ∙ ap (drop 1) e) ∙ chars-IsAscii (10 ∷ replicate n (blank_of b)) (line_ascii b n)

pub blanks_alone : (b : Blank) (part rest : List ℕ) (n : ℕ) → part ≡ after_comma b n → rest ≡ drop 2 part → chars rest ≡ replicate n (blank_of b)
blanks_alone b part rest n e f = ap chars (f ∙ ap (drop 2) e) ∙ chars_blanks b n

-- ---- the row of 256 blanks

pub row_boundary : (b : Blank) (s : List ℕ) (n : ℕ) → s ≡ replicate 256 (blank_of b) → n ≤ 256 → IsCharBoundary s n
row_boundary b s n e h =
    let k = length-replicate 256 (blank_of b) in
    subst (λ t. IsCharBoundary t n) (sym e) (IsCharBoundary-from_ascii (replicate 256 (blank_of b)) n (all_ascii (blank_of b) 256 (blank_small b)) (omega (arith, k, h)))

pub row_front : (b : Blank) (s part : List ℕ) (n : ℕ) → s ≡ replicate 256 (blank_of b) → part ≡ take n s → n ≤ 256 → chars part ≡ replicate n (blank_of b)
row_front b s part n e f h = ap chars (f ∙ ap (take n) e ∙ take-replicate n 256 (blank_of b) h) ∙ chars_blanks b n

-- ---- a line's pieces

-- the piece without a comma or the one with it
chosen : (due : Bool) (first next t : List ℕ) → chars first ≡ t → chars next ≡ 44 ∷ t → chars (if due then next else first) ≡ comma_if due ++ t
chosen true first next t e f = f
chosen false first next t e f = e

rows : (b shown count : ℕ) → shown ≤ count → replicate shown b ++ replicate (count - shown) b ≡ replicate count b
rows b shown count h = replicate-append-replicate shown (count - shown) b ∙ ap (λ k. replicate k b) (omega (arith, h))

pub shown_line : (b shown count : ℕ) (due : Bool) (first next : List ℕ) → shown ≤ count → chars first ≡ 10 ∷ replicate shown b → chars next ≡ 44 ∷ 10 ∷ replicate shown b
    → chars (if due then next else first) ++ replicate (count - shown) b ≡ comma_if due ++ 10 ∷ replicate count b
shown_line b shown count due first next h e f =
    ap (λ l. l ++ replicate (count - shown) b) (chosen due first next (10 ∷ replicate shown b) e f)
    ∙ append_assoc (comma_if due) (10 ∷ replicate shown b) (replicate (count - shown) b)
    ∙ ap (λ l. comma_if due ++ 10 ∷ l) (rows b shown count h)

pub comma_alone : (due : Bool) → chars (if due then 44 ∷ [] else []) ++ [] ≡ comma_if due ++ []
comma_alone due = ap (λ l. l ++ []) (chosen due [] (44 ∷ []) [] chars-nil chars_comma ∙ append-nil (comma_if due))

-- no blank is left to put
pub no_more : (a : List ℕ) (n b : ℕ) → n ≡ 0 → a ≡ a ++ replicate n b
no_more a n b h = sym (ap (λ k. a ++ replicate k b) h ∙ append-nil a)
