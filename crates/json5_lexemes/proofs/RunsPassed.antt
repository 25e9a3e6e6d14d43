-- Runs that are passed over in both texts, and blanks and commas in one.
use Rattle.std.proofs.Common.{◌≡◌, ◌≢◌, ◌<◌, ◌+◌, ◌==◌, ℕ, Bool, true, false, not, ◌||◌, List, [], ◌∷◌, ◌++◌, length, refl, sym, ap, ◌∙◌, subst, length-append, arith}
use Rattle.std.proofs.lemmas.Bool.Decides.{nat_tests}
use Rattle.std.specs.Char.{encode_utf8, IsScalar}
use Rattle.std.specs.Str.{chars, IsUtf8}
use Rattle.std.proofs.lemmas.Str.{IsUtf8-append, IsUtf8-encode, chars_past_char}
use Rattle.json5_grammar.specs.Language.Characters.{is_in, is_terminator, star_sign, backslash, Each, no_char, char}
use Rattle.json5_grammar.specs.Language.Strings.{is_quote}
use Rattle.json5_grammar.proofs.BlanksRead.{printable_no_blank}
use Rattle.json5_tokens.specs.Cursor.{Cursor}
use Rattle.json5_lexemes.specs.SameLexemes.{Same, Within, is_separator, is_sign, is_word_part, is_line_part}
use Rattle.json5_lexemes.specs.SameLexemes as same
use Rattle.json5_lexemes.specs.SameSteps.{IsFollowed, PassesWithin}
use Rattle.json5_lexemes.specs.declared.runs.Run.{Run}
use Rattle.json5_lexemes.specs.declared.runs.Run.TheVariants as runs
use Rattle.json5_lexemes.specs.Runs.{is_char, is_common_separator, PassesRun, PassesSeparators}

pub char_taken : (x rest : List ℕ) (next c : ℕ) → IsScalar c → next ≡ c → IsUtf8 rest → x ≡ encode_utf8 next ++ rest → chars x ≡ c ∷ chars rest
char_taken x rest next c scalar is utf8 e =
    let f : x ≡ encode_utf8 c ++ rest = e ∙ ap (λ z. encode_utf8 z ++ rest) is in
    chars_past_char x rest c (subst IsUtf8 (sym f) (IsUtf8-append (encode_utf8 c) rest (IsUtf8-encode c scalar) utf8)) f

-- ---- the same within a lexeme

-- a character of the run in both texts makes no difference within w
abbrev pub TakesChar : Run → Within → Type 0
TakesChar r w = (move : Bool) (c : ℕ) (x y : List ℕ) → is_char r c ≡ true → Same move w x y → Same move w (c ∷ x) (c ∷ y)

word_part : (c : ℕ) → is_char runs.Word c ≡ true → is_word_part c ≡ true
word_part c p = let b = printable_no_blank c (grind (arith, nat_tests)) in rw b (others c p)
  where
    others : (c : ℕ) → is_char runs.Word c ≡ true → not (((c == 44) || false) || (is_sign c || (is_quote c || (c == 47)))) ≡ true
    others c p = grind (arith, nat_tests)

text_no_quote : (c q : ℕ) → is_char runs.Text c ≡ true → is_quote q ≡ true → c ≢ q
text_no_quote c q p k = grind (arith, nat_tests)

text_no_backslash : (c : ℕ) → is_char runs.Text c ≡ true → c ≢ backslash
text_no_backslash c p = grind (arith, nat_tests)

line_no_end : (c : ℕ) → is_char runs.Line c ≡ true → is_terminator c ≡ false
line_no_end c p = grind (arith, nat_tests)

block_no_star : (c : ℕ) → is_char runs.Block c ≡ true → c ≢ star_sign
block_no_star c p = grind (arith, nat_tests)

pub in_word : TakesChar runs.Word Within.word
in_word m c x y p s = same.word_goes_on (word_part c p) s

pub in_string : (q : ℕ) → is_quote q ≡ true → TakesChar runs.Text (Within.string q)
in_string q k m c x y p s = same.raw (text_no_quote c q p k) (text_no_backslash c p) s

pub in_line : TakesChar runs.Line Within.line
in_line m c x y p s = same.line_goes_on (line_no_end c p) s

pub in_block : TakesChar runs.Block Within.block
in_block m c x y p s = same.block_goes_on (block_no_star c p) s

run_on : (r : Run) (w : Within) → TakesChar r w → (move : Bool) (cs x y : List ℕ) → Each (is_char r) cs → Same move w x y → Same move w (cs ++ x) (cs ++ y)
run_on r w step m [] x y no_char s = s
run_on r w step m (c ∷ cs) x y (char p e) s = step m c (cs ++ x) (cs ++ y) p (run_on r w step m cs x y e s)

-- a run after a step within w
pub followed_run : (r : Run) (w v : Within) (left right mid mid_right after after_right : Cursor) → TakesChar r v → IsFollowed w left right v mid mid_right → PassesRun r mid mid_right after after_right
    → IsFollowed w left right v after after_right
followed_run r w v left right mid mid_right after after_right step f p =
    let k : length mid.unread ≡ length p.passed + length after.unread = ap length p.in_left ∙ length-append p.passed after.unread in
    record {
      same = λ m h. f.same m (subst (λ z. Same m v z mid_right.unread) (sym p.in_left) (subst (λ z. Same m v (p.passed ++ after.unread) z) (sym p.in_right) (run_on r v step m p.passed after.unread after_right.unread p.each h)));
      shorter = omega (arith, f.shorter, k);
    }

-- ---- blanks and commas

either_is : {P : Type 0} (a b : Bool) → (a || b) ≡ true → (a ≡ true → P) → (b ≡ true → P) → P
either_is true b h f g = f refl
either_is false b h f g = g h

at : (n c : ℕ) → is_separator n ≡ true → (c == n) ≡ true → is_separator c ≡ true
at n c k e = let is : c ≡ n = grind (arith, nat_tests) in subst (λ z. is_separator z ≡ true) (sym is) k

separator_char : (c : ℕ) → is_common_separator c ≡ true → is_separator c ≡ true
separator_char c h =
    either_is ((((c == 32) || (c == 9)) || (c == 10)) || (c == 13)) (c == 44) h
    (λ i. either_is (((c == 32) || (c == 9)) || (c == 10)) (c == 13) i (λ j. either_is ((c == 32) || (c == 9)) (c == 10) j (λ k. either_is (c == 32) (c == 9) k (at 32 c refl) (at 9 c refl)) (at 10 c refl)) (at 13 c refl))
    (at 44 c refl)

left_separators : {move : Bool} (s x y : List ℕ) → Each is_common_separator s → Same move Within.between x y → Same move Within.between (s ++ x) y
left_separators [] x y no_char k = k
left_separators (c ∷ s) x y (char p e) k = same.left_separator (separator_char c p) (left_separators s x y e k)

right_separators : {move : Bool} (s x y : List ℕ) → Each is_common_separator s → Same move Within.between x y → Same move Within.between x (s ++ y)
right_separators [] x y no_char k = k
right_separators (c ∷ s) x y (char p e) k = same.right_separator (separator_char c p) (right_separators s x y e k)

-- more blanks and commas
pub passed_separators : (old mid new : Cursor) → PassesWithin Within.between old mid → PassesSeparators mid new → PassesWithin Within.between old new
passed_separators old mid new p s =
    let k : length mid.unread ≡ length s.passed + length new.unread = ap length s.split ∙ length-append s.passed new.unread in
    record {
      left = λ m y h. p.left m y (subst (λ z. Same m Within.between z y) (sym s.split) (left_separators s.passed new.unread y s.each h));
      right = λ m x h. p.right m x (subst (λ z. Same m Within.between x z) (sym s.split) (right_separators s.passed x new.unread s.each h));
      shorter = omega (arith, p.shorter, k);
    }

pub passed_nothing : (w : Within) (old : Cursor) → PassesWithin w old old
passed_nothing w old = record { left = λ m y h. h; right = λ m x h. h; shorter = omega arith }

pub followed_nothing : (w : Within) (left right : Cursor) → IsFollowed w left right w left right
followed_nothing w left right = record { same = λ m h. h; shorter = omega arith }
