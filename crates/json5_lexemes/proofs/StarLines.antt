-- The lines of star comments, whose blanks in front may differ.
use Rattle.std.proofs.Common.{◌≡◌, ◌≢◌, ◌==◌, ℕ, Bool, true, false, List, [], ◌∷◌, ◌++◌, refl, sym, ap, ◌∙◌, subst, append_assoc, arith}
use Rattle.std.proofs.lemmas.Bool.{both_ways}
use Rattle.std.proofs.lemmas.Bool.Decides.{nat_tests}
use Rattle.json5_grammar.specs.Language.Blanks.{Inside}
use Rattle.json5_grammar.specs.Language.Blanks as blanks
use Rattle.json5_grammar.specs.Language.Characters.{is_blank, is_terminator, carriage_return, line_feed, slash_sign, star_sign, NotBegun, Each, no_char, char}
use Rattle.json5_grammar.proofs.BlanksRead.{printable_no_blank}
use Rattle.json5_grammar.proofs.CommonLemmas.{and_left}
use Rattle.json5_lexemes.specs.AlikeLexemes.{SameLines, HaveAlikeLexemes}
use Rattle.json5_lexemes.specs.AlikeLexemes as pairs
use Rattle.json5_lexemes.specs.Lexemes.{is_line_blank}
use Rattle.json5_lexemes.specs.SameLexemes.{AtStar, is_line_part}

-- the end of a star comment follows, with the same lines
pub record GoesStars (move : Bool) (x y : List ℕ) : Type 0 where
  pub left_token : List ℕ
  pub right_token : List ℕ
  pub left_rest : List ℕ
  pub right_rest : List ℕ
  pub is_left : x ≡ left_token ++ star_sign ∷ slash_sign ∷ left_rest
  pub is_right : y ≡ right_token ++ star_sign ∷ slash_sign ∷ right_rest
  pub inside_left : Inside left_token
  pub inside_right : Inside right_token
  pub lines : SameLines left_token right_token
  pub rest : HaveAlikeLexemes move left_rest right_rest

-- blanks in front of a line, and then the end of the star comment
pub record GoesFront (move : Bool) (x y : List ℕ) : Type 0 where
  pub left_blanks : List ℕ
  pub right_blanks : List ℕ
  pub left_line : List ℕ
  pub right_line : List ℕ
  pub is_left : x ≡ left_blanks ++ left_line
  pub is_right : y ≡ right_blanks ++ right_line
  pub each_left : Each is_line_blank left_blanks
  pub each_right : Each is_line_blank right_blanks
  pub at_left : AtStar left_line
  pub at_right : AtStar right_line
  pub line : GoesStars move left_line right_line

pub stars_ended : (move : Bool) (x y : List ℕ) → HaveAlikeLexemes move x y → GoesStars move (star_sign ∷ slash_sign ∷ x) (star_sign ∷ slash_sign ∷ y)
stars_ended move x y h = record {
  left_token = [];
  right_token = [];
  left_rest = x;
  right_rest = y;
  is_left = refl;
  is_right = refl;
  inside_left = blanks.ends;
  inside_right = blanks.ends;
  lines = pairs.ends;
  rest = h;
}

-- the same character in front
in_front : (move : Bool) (c : ℕ) (x y : List ℕ) (g : GoesStars move x y) → Inside (c ∷ g.left_token) → Inside (c ∷ g.right_token) → SameLines (c ∷ g.left_token) (c ∷ g.right_token) → GoesStars move (c ∷ x) (c ∷ y)
in_front move c x y g i j l = record {
  left_token = c ∷ g.left_token;
  right_token = c ∷ g.right_token;
  left_rest = g.left_rest;
  right_rest = g.right_rest;
  is_left = ap (λ z. c ∷ z) g.is_left;
  is_right = ap (λ z. c ∷ z) g.is_right;
  inside_left = i;
  inside_right = j;
  lines = l;
  rest = g.rest;
}

pub stars_more : (move : Bool) (c : ℕ) (x y : List ℕ) → c ≢ star_sign → is_terminator c ≡ false → GoesStars move x y → GoesStars move (c ∷ x) (c ∷ y)
stars_more move c x y n t g = in_front move c x y g (blanks.other n g.inside_left) (blanks.other n g.inside_right) (pairs.goes_on t g.lines)

abbrev NoSlash : List ℕ → Type 0
NoSlash = NotBegun (λ c. c == slash_sign)

-- the token begins with no slash either
no_slash : (x token rest : List ℕ) → x ≡ token ++ rest → NoSlash x → NoSlash token
no_slash x [] rest e n = tt
no_slash x (c ∷ s) rest e n = let k : NoSlash (c ∷ s ++ rest) = subst NoSlash e n in k

-- and so it is in the other text
no_slash_either : {x y : List ℕ} → SameLines x y → NoSlash x → NoSlash y
no_slash_either pairs.ends n = tt
no_slash_either (pairs.goes_on t l) n = n
no_slash_either (pairs.line t a b p q l) n = n
no_slash_either (pairs.crlf l) n = refl

pub star_more : (move : Bool) (x y : List ℕ) → NoSlash x → GoesStars move x y → GoesStars move (star_sign ∷ x) (star_sign ∷ y)
star_more move x y n g =
    let left : NoSlash g.left_token = no_slash x g.left_token (star_sign ∷ slash_sign ∷ g.left_rest) g.is_left n in
    in_front move star_sign x y g (blanks.star left g.inside_left) (blanks.star (no_slash_either g.lines left) g.inside_right) (pairs.goes_on refl g.lines)

-- ---- lines

terminator_no_star : (c : ℕ) → is_terminator c ≡ true → c ≢ star_sign
terminator_no_star c t e = grind (arith, nat_tests)

-- a blank is no star
blank_no_star : (c : ℕ) → is_line_blank c ≡ true → c ≢ star_sign
blank_no_star c b e = both_ways (is_blank star_sign) (printable_no_blank star_sign refl) (subst (λ z. is_blank z ≡ true) e (and_left (is_blank c) (is_line_part c) b))

blanks_inside : (b s : List ℕ) → Each is_line_blank b → Inside s → Inside (b ++ s)
blanks_inside [] s no_char i = i
blanks_inside (c ∷ b) s (char p e) i = blanks.other (blank_no_star c p) (blanks_inside b s e i)

-- what begins with a star at most goes on with a token of which the same holds
token_at_star : (x token rest : List ℕ) → x ≡ token ++ rest → AtStar x → AtStar token
token_at_star x [] rest e a = tt
token_at_star x (c ∷ s) rest e a = let k : AtStar (c ∷ s ++ rest) = subst AtStar e a in k

pub lines_more : (move : Bool) (c : ℕ) (x y : List ℕ) → is_terminator c ≡ true → GoesFront move x y → GoesStars move (c ∷ x) (c ∷ y)
lines_more move c x y t f =
    let g = f.line in
    let n = terminator_no_star c t in
    record {
      left_token = c ∷ f.left_blanks ++ g.left_token;
      right_token = c ∷ f.right_blanks ++ g.right_token;
      left_rest = g.left_rest;
      right_rest = g.right_rest;
      is_left = ap (λ z. c ∷ z) (f.is_left ∙ ap (λ z. f.left_blanks ++ z) g.is_left ∙ sym (append_assoc f.left_blanks g.left_token (star_sign ∷ slash_sign ∷ g.left_rest)));
      is_right = ap (λ z. c ∷ z) (f.is_right ∙ ap (λ z. f.right_blanks ++ z) g.is_right ∙ sym (append_assoc f.right_blanks g.right_token (star_sign ∷ slash_sign ∷ g.right_rest)));
      inside_left = blanks.other n (blanks_inside f.left_blanks g.left_token f.each_left g.inside_left);
      inside_right = blanks.other n (blanks_inside f.right_blanks g.right_token f.each_right g.inside_right);
      lines = pairs.line t f.each_left f.each_right (token_at_star f.left_line g.left_token (star_sign ∷ slash_sign ∷ g.left_rest) g.is_left f.at_left)
          (token_at_star f.right_line g.right_token (star_sign ∷ slash_sign ∷ g.right_rest) g.is_right f.at_right) g.lines;
      rest = g.rest;
    }

-- the token begins with the LF that its text begins with
lf_first : (x token rest : List ℕ) → line_feed ∷ x ≡ token ++ star_sign ∷ rest → (s : List ℕ) × (token ≡ line_feed ∷ s)
lf_first x [] rest e = let k : line_feed ≡ star_sign = cc in absurd (cc)
lf_first x (c ∷ s) rest e = let k : c ≡ line_feed = cc in (s, ap (λ z. z ∷ s) k)

crlf_lines : (s x y : List ℕ) → x ≡ line_feed ∷ s → SameLines x y → SameLines (carriage_return ∷ x) (carriage_return ∷ y)
crlf_lines s x y e l = subst (λ z. SameLines (carriage_return ∷ z) (carriage_return ∷ y)) (sym e) (pairs.crlf (subst (λ z. SameLines z y) e l))

pub crlf_more : (move : Bool) (x y : List ℕ) → GoesStars move (line_feed ∷ x) y → GoesStars move (carriage_return ∷ line_feed ∷ x) (carriage_return ∷ y)
crlf_more move x y g =
    let (s, is) = lf_first x g.left_token (slash_sign ∷ g.left_rest) g.is_left in
    let n : carriage_return ≢ star_sign = terminator_no_star carriage_return refl in
    in_front move carriage_return (line_feed ∷ x) y g (blanks.other n g.inside_left) (blanks.other n g.inside_right) (crlf_lines s g.left_token g.right_token is g.lines)

-- ---- blanks in front

pub front_begun : (move : Bool) (x y : List ℕ) → AtStar x → AtStar y → GoesStars move x y → GoesFront move x y
front_begun move x y a b g = record {
  left_blanks = [];
  right_blanks = [];
  left_line = x;
  right_line = y;
  is_left = refl;
  is_right = refl;
  each_left = no_char;
  each_right = no_char;
  at_left = a;
  at_right = b;
  line = g;
}

pub left_more : (move : Bool) (c : ℕ) (x y : List ℕ) → is_line_blank c ≡ true → GoesFront move x y → GoesFront move (c ∷ x) y
left_more move c x y b f = record {
  left_blanks = c ∷ f.left_blanks;
  right_blanks = f.right_blanks;
  left_line = f.left_line;
  right_line = f.right_line;
  is_left = ap (λ z. c ∷ z) f.is_left;
  is_right = f.is_right;
  each_left = char b f.each_left;
  each_right = f.each_right;
  at_left = f.at_left;
  at_right = f.at_right;
  line = f.line;
}

pub right_more : (move : Bool) (c : ℕ) (x y : List ℕ) → is_line_blank c ≡ true → GoesFront move x y → GoesFront move x (c ∷ y)
right_more move c x y b f = record {
  left_blanks = f.left_blanks;
  right_blanks = c ∷ f.right_blanks;
  left_line = f.left_line;
  right_line = f.right_line;
  is_left = f.is_left;
  is_right = ap (λ z. c ∷ z) f.is_right;
  each_left = f.each_left;
  each_right = char b f.each_right;
  at_left = f.at_left;
  at_right = f.at_right;
  line = f.line;
}
