-- Texts that are the same lexeme by lexeme have lists of lexemes that are alike.
use Rattle.std.proofs.Common.{◌≡◌, ◌==◌, ℕ, Bool, true, false, List, [], ◌∷◌, ◌++◌, refl, sym, ap, ◌∙◌, subst}
use Rattle.json5_grammar.specs.Language.Blanks.{Inside}
use Rattle.json5_grammar.specs.Language.Blanks as blanks
use Rattle.json5_grammar.specs.Language.Characters.{is_blank, is_terminator, slash_sign, star_sign, backslash, NotBegun, Each, no_char, char}
use Rattle.json5_grammar.specs.Language.Strings.{is_quote}
use Rattle.json5_lexemes.specs.AlikeLexemes.{AreAlike, HaveAlikeLexemes}
use Rattle.json5_lexemes.specs.AlikeLexemes as pairs
use Rattle.json5_lexemes.specs.SameLexemes.{Same, Within, is_separator, is_sign, is_word_part, is_line_part}
use Rattle.json5_lexemes.specs.SameLexemes as same
use Rattle.json5_lexemes.specs.Lexemes.{Lexemes, Quoted, HaveSameLexemes, is_line_blank}
use Rattle.json5_lexemes.specs.Lexemes as lexemes
use Rattle.json5_lexemes.proofs.StarLines.{GoesStars, GoesFront, stars_ended, stars_more, star_more, lines_more, crlf_more, front_begun, left_more, right_more}

-- the same in both texts, and then what has lexemes that are alike
record Goes (move : Bool) (IsToken : List ℕ → Type 0) (Stops : List ℕ → Type 0) (x y : List ℕ) : Type 0 where
  token : List ℕ
  left_rest : List ℕ
  right_rest : List ℕ
  is_left : x ≡ token ++ left_rest
  is_right : y ≡ token ++ right_rest
  is_token : IsToken token
  left_stops : Stops left_rest
  right_stops : Stops right_rest
  rest : HaveAlikeLexemes move left_rest right_rest

-- blanks at the end of a line in each text
record GoesBlank (move : Bool) (x y : List ℕ) : Type 0 where
  left_blanks : List ℕ
  right_blanks : List ℕ
  left_rest : List ℕ
  right_rest : List ℕ
  is_left : x ≡ left_blanks ++ left_rest
  is_right : y ≡ right_blanks ++ right_rest
  each_left : Each is_line_blank left_blanks
  each_right : Each is_line_blank right_blanks
  left_stops : NotBegun is_line_part left_rest
  right_stops : NotBegun is_line_part right_rest
  rest : HaveAlikeLexemes move left_rest right_rest

-- the same part of a comment, and then blanks at the end of the line
record GoesLine (move : Bool) (x y : List ℕ) : Type 0 where
  token : List ℕ
  left_rest : List ℕ
  right_rest : List ℕ
  is_left : x ≡ token ++ left_rest
  is_right : y ≡ token ++ right_rest
  is_token : Each is_line_part token
  blanks_left : GoesBlank move left_rest right_rest

-- a comment's end follows
record GoesBlock (move : Bool) (x y : List ℕ) : Type 0 where
  token : List ℕ
  left_rest : List ℕ
  right_rest : List ℕ
  is_left : x ≡ token ++ star_sign ∷ slash_sign ∷ left_rest
  is_right : y ≡ token ++ star_sign ∷ slash_sign ∷ right_rest
  is_token : Inside token
  rest : HaveAlikeLexemes move left_rest right_rest

abbrev Anywhere : List ℕ → Type 0
Anywhere r = Unit {0}

abbrev Spells : Bool → Within → List ℕ → List ℕ → Type 0
Spells move Within.between x y = HaveAlikeLexemes move x y
Spells move Within.word x y = Goes move (Each is_word_part) (NotBegun is_word_part) x y
Spells move (Within.string q) x y = Goes move (Quoted q) Anywhere x y
Spells move Within.slash x y = HaveAlikeLexemes move (slash_sign ∷ x) (slash_sign ∷ y)
Spells move Within.line x y = GoesLine move x y
Spells move Within.line_blanks x y = GoesBlank move x y
Spells move Within.block x y = GoesBlock move x y
Spells move Within.stars x y = GoesStars move x y
Spells move Within.front x y = GoesFront move x y

-- the same lexeme in front of lists that are alike
with_lexeme : (move : Bool) (x y l left_rest right_rest : List ℕ) (h : HaveAlikeLexemes move left_rest right_rest) → Lexemes x (l ∷ h.left_lexemes) → Lexemes y (l ∷ h.right_lexemes) → HaveAlikeLexemes move x y
with_lexeme move x y l left_rest right_rest h a b = record { left_lexemes = l ∷ h.left_lexemes; right_lexemes = l ∷ h.right_lexemes; left = a; right = b; alike = pairs.same h.alike }

-- the first character is in front of what goes on
goes_more : (move : Bool) (P Q : List ℕ → Type 0) (c : ℕ) (x y : List ℕ) → ((s : List ℕ) → P s → P (c ∷ s)) → Goes move P Q x y → Goes move P Q (c ∷ x) (c ∷ y)
goes_more move P Q c x y more g = record {
  token = c ∷ g.token;
  left_rest = g.left_rest;
  right_rest = g.right_rest;
  is_left = ap (λ z. c ∷ z) g.is_left;
  is_right = ap (λ z. c ∷ z) g.is_right;
  is_token = more g.token g.is_token;
  left_stops = g.left_stops;
  right_stops = g.right_stops;
  rest = g.rest;
}

word_whole : (move : Bool) (c : ℕ) (x y : List ℕ) → is_word_part c ≡ true → Goes move (Each is_word_part) (NotBegun is_word_part) x y → HaveAlikeLexemes move (c ∷ x) (c ∷ y)
word_whole move c x y p g =
    with_lexeme move (c ∷ x) (c ∷ y) (c ∷ g.token) g.left_rest g.right_rest g.rest
    (subst (λ z. Lexemes (c ∷ z) ((c ∷ g.token) ∷ g.rest.left_lexemes)) (sym g.is_left) (lexemes.word (char p g.is_token) g.left_stops g.rest.left))
    (subst (λ z. Lexemes (c ∷ z) ((c ∷ g.token) ∷ g.rest.right_lexemes)) (sym g.is_right) (lexemes.word (char p g.is_token) g.right_stops g.rest.right))

string_whole : (move : Bool) (q : ℕ) (x y : List ℕ) → is_quote q ≡ true → Goes move (Quoted q) Anywhere x y → HaveAlikeLexemes move (q ∷ x) (q ∷ y)
string_whole move q x y p g =
    with_lexeme move (q ∷ x) (q ∷ y) (q ∷ g.token) g.left_rest g.right_rest g.rest
    (subst (λ z. Lexemes (q ∷ z) ((q ∷ g.token) ∷ g.rest.left_lexemes)) (sym g.is_left) (lexemes.string p g.is_token g.rest.left))
    (subst (λ z. Lexemes (q ∷ z) ((q ∷ g.token) ∷ g.rest.right_lexemes)) (sym g.is_right) (lexemes.string p g.is_token g.rest.right))

line_whole : (move : Bool) (x y : List ℕ) → GoesLine move x y → HaveAlikeLexemes move (slash_sign ∷ slash_sign ∷ x) (slash_sign ∷ slash_sign ∷ y)
line_whole move x y g =
    let b = g.blanks_left in
    with_lexeme move (slash_sign ∷ slash_sign ∷ x) (slash_sign ∷ slash_sign ∷ y) (slash_sign ∷ slash_sign ∷ g.token) b.left_rest b.right_rest b.rest
    (subst (λ z. Lexemes (slash_sign ∷ slash_sign ∷ z) ((slash_sign ∷ slash_sign ∷ g.token) ∷ b.rest.left_lexemes)) (sym (g.is_left ∙ ap (λ z. g.token ++ z) b.is_left)) (lexemes.line g.is_token b.each_left b.left_stops b.rest.left))
    (subst (λ z. Lexemes (slash_sign ∷ slash_sign ∷ z) ((slash_sign ∷ slash_sign ∷ g.token) ∷ b.rest.right_lexemes)) (sym (g.is_right ∙ ap (λ z. g.token ++ z) b.is_right)) (lexemes.line g.is_token b.each_right b.right_stops b.rest.right))

block_whole : (move : Bool) (x y : List ℕ) → GoesBlock move x y → HaveAlikeLexemes move (slash_sign ∷ star_sign ∷ x) (slash_sign ∷ star_sign ∷ y)
block_whole move x y g =
    with_lexeme move (slash_sign ∷ star_sign ∷ x) (slash_sign ∷ star_sign ∷ y) (slash_sign ∷ star_sign ∷ g.token) g.left_rest g.right_rest g.rest
    (subst (λ z. Lexemes (slash_sign ∷ star_sign ∷ z) ((slash_sign ∷ star_sign ∷ g.token) ∷ g.rest.left_lexemes)) (sym g.is_left) (lexemes.block g.is_token g.rest.left))
    (subst (λ z. Lexemes (slash_sign ∷ star_sign ∷ z) ((slash_sign ∷ star_sign ∷ g.token) ∷ g.rest.right_lexemes)) (sym g.is_right) (lexemes.block g.is_token g.rest.right))

stars_whole : (move : Bool) (x y : List ℕ) → move ≡ true → GoesStars move x y → HaveAlikeLexemes move (slash_sign ∷ star_sign ∷ x) (slash_sign ∷ star_sign ∷ y)
stars_whole move x y may g = record {
  left_lexemes = (slash_sign ∷ star_sign ∷ g.left_token) ∷ g.rest.left_lexemes;
  right_lexemes = (slash_sign ∷ star_sign ∷ g.right_token) ∷ g.rest.right_lexemes;
  left = subst (λ z. Lexemes (slash_sign ∷ star_sign ∷ z) ((slash_sign ∷ star_sign ∷ g.left_token) ∷ g.rest.left_lexemes)) (sym g.is_left) (lexemes.block g.inside_left g.rest.left);
  right = subst (λ z. Lexemes (slash_sign ∷ star_sign ∷ z) ((slash_sign ∷ star_sign ∷ g.right_token) ∷ g.rest.right_lexemes)) (sym g.is_right) (lexemes.block g.inside_right g.rest.right);
  alike = pairs.star_comment may g.lines g.rest.alike;
}

block_more : (move : Bool) (c : ℕ) (x y : List ℕ) (g : GoesBlock move x y) → Inside (c ∷ g.token) → GoesBlock move (c ∷ x) (c ∷ y)
block_more move c x y g i = record { token = c ∷ g.token; left_rest = g.left_rest; right_rest = g.right_rest; is_left = ap (λ z. c ∷ z) g.is_left; is_right = ap (λ z. c ∷ z) g.is_right; is_token = i; rest = g.rest }

-- the token begins with no slash either
no_slash : (x token rest : List ℕ) → x ≡ token ++ rest → NotBegun (λ c. c == slash_sign) x → NotBegun (λ c. c == slash_sign) token
no_slash x [] rest e n = tt
no_slash x (c ∷ s) rest e n = let k : NotBegun (λ c. c == slash_sign) (c ∷ s ++ rest) = subst (NotBegun (λ c. c == slash_sign)) e n in k

line_blank : (c : ℕ) → is_blank c ≡ true → is_terminator c ≡ false → is_line_blank c ≡ true
line_blank c b t = rw (b, t) refl

line_part : (c : ℕ) → is_terminator c ≡ false → is_line_part c ≡ true
line_part c t = rw t refl

spelled : (move : Bool) {w : Within} {x y : List ℕ} → Same move w x y → Spells move w x y
spelled move same.ends = record { left_lexemes = []; right_lexemes = []; left = lexemes.no_lexeme; right = lexemes.no_lexeme; alike = pairs.no_lexeme }
spelled move (same.left_separator {c} {x} {y} p s) = let h = spelled move s in record { left_lexemes = h.left_lexemes; right_lexemes = h.right_lexemes; left = lexemes.separator p h.left; right = h.right; alike = h.alike }
spelled move (same.right_separator {c} {x} {y} p s) = let h = spelled move s in record { left_lexemes = h.left_lexemes; right_lexemes = h.right_lexemes; left = h.left; right = lexemes.separator p h.right; alike = h.alike }
spelled move (same.sign {c} {x} {y} p s) = let h = spelled move s in with_lexeme move (c ∷ x) (c ∷ y) (c ∷ []) x y h (lexemes.sign p h.left) (lexemes.sign p h.right)
spelled move (same.word_begins {c} {x} {y} p s) = word_whole move c x y p (spelled move s)
spelled move (same.word_goes_on {c} {x} {y} p s) = goes_more move (Each is_word_part) (NotBegun is_word_part) c x y (λ z e. char p e) (spelled move s)
spelled move (same.word_ends {x} {y} m n s) = record { token = []; left_rest = x; right_rest = y; is_left = refl; is_right = refl; is_token = no_char; left_stops = m; right_stops = n; rest = spelled move s }
spelled move (same.string_begins {q} {x} {y} p s) = string_whole move q x y p (spelled move s)
spelled move (same.raw {q} {c} {x} {y} m n s) = goes_more move (Quoted q) Anywhere c x y (λ z e. lexemes.raw m n e) (spelled move s)
spelled move (same.escape {q} {c} {x} {y} s) =
    let g = spelled move s in
    record {
      token = backslash ∷ c ∷ g.token;
      left_rest = g.left_rest;
      right_rest = g.right_rest;
      is_left = ap (λ z. backslash ∷ c ∷ z) g.is_left;
      is_right = ap (λ z. backslash ∷ c ∷ z) g.is_right;
      is_token = lexemes.escape g.is_token;
      left_stops = tt;
      right_stops = tt;
      rest = g.rest;
    }
spelled move (same.string_ends {q} {x} {y} s) = record { token = q ∷ []; left_rest = x; right_rest = y; is_left = refl; is_right = refl; is_token = lexemes.closes; left_stops = tt; right_stops = tt; rest = spelled move s }
spelled move (same.comment_begins s) = spelled move s
spelled move (same.line_begins {x} {y} s) = line_whole move x y (spelled move s)
spelled move (same.line_goes_on {c} {x} {y} t s) =
    let g = spelled move s in
    record { token = c ∷ g.token; left_rest = g.left_rest; right_rest = g.right_rest; is_left = ap (λ z. c ∷ z) g.is_left; is_right = ap (λ z. c ∷ z) g.is_right; is_token = char (line_part c t) g.is_token; blanks_left = g.blanks_left }
spelled move (same.line_blanks_begin {x} {y} s) = record { token = []; left_rest = x; right_rest = y; is_left = refl; is_right = refl; is_token = no_char; blanks_left = spelled move s }
spelled move (same.left_blank {c} {x} {y} b t s) =
    let g = spelled move s in
    record {
      left_blanks = c ∷ g.left_blanks;
      right_blanks = g.right_blanks;
      left_rest = g.left_rest;
      right_rest = g.right_rest;
      is_left = ap (λ z. c ∷ z) g.is_left;
      is_right = g.is_right;
      each_left = char (line_blank c b t) g.each_left;
      each_right = g.each_right;
      left_stops = g.left_stops;
      right_stops = g.right_stops;
      rest = g.rest;
    }
spelled move (same.right_blank {c} {x} {y} b t s) =
    let g = spelled move s in
    record {
      left_blanks = g.left_blanks;
      right_blanks = c ∷ g.right_blanks;
      left_rest = g.left_rest;
      right_rest = g.right_rest;
      is_left = g.is_left;
      is_right = ap (λ z. c ∷ z) g.is_right;
      each_left = g.each_left;
      each_right = char (line_blank c b t) g.each_right;
      left_stops = g.left_stops;
      right_stops = g.right_stops;
      rest = g.rest;
    }
spelled move (same.line_ends {x} {y} m n s) = record { left_blanks = []; right_blanks = []; left_rest = x; right_rest = y; is_left = refl; is_right = refl; each_left = no_char; each_right = no_char; left_stops = m; right_stops = n; rest = spelled move s }
spelled move (same.block_begins {x} {y} s) = block_whole move x y (spelled move s)
spelled move (same.block_goes_on {c} {x} {y} n s) = let g = spelled move s in block_more move c x y g (blanks.other n g.is_token)
spelled move (same.star {x} {y} n s) = let g = spelled move s in block_more move star_sign x y g (blanks.star (no_slash x g.token (star_sign ∷ slash_sign ∷ g.left_rest) g.is_left n) g.is_token)
spelled move (same.block_ends {x} {y} s) = record { token = []; left_rest = x; right_rest = y; is_left = refl; is_right = refl; is_token = blanks.ends; rest = spelled move s }
spelled move (same.stars_begin {x} {y} may s) = stars_whole move x y may (spelled move s)
spelled move (same.stars_go_on {c} {x} {y} n t s) = stars_more move c x y n t (spelled move s)
spelled move (same.star_within {x} {y} n s) = star_more move x y n (spelled move s)
spelled move (same.stars_end {x} {y} s) = stars_ended move x y (spelled move s)
spelled move (same.stars_line {c} {x} {y} t s) = lines_more move c x y t (spelled move s)
spelled move (same.stars_crlf {x} {y} s) = crlf_more move x y (spelled move s)
spelled move (same.left_front {c} {x} {y} b t s) = left_more move c x y (line_blank c b t) (spelled move s)
spelled move (same.right_front {c} {x} {y} b t s) = right_more move c x y (line_blank c b t) (spelled move s)
spelled move (same.front_ends {x} {y} a b s) = front_begun move x y a b (spelled move s)

-- texts that are the same lexeme by lexeme have lists of lexemes that are alike
pub alike_lists : (move : Bool) (x y : List ℕ) → Same move Within.between x y → HaveAlikeLexemes move x y
alike_lists move x y s = spelled move s

-- where star comments don't move, lists that are alike are the same
one_list : {l m : List (List ℕ)} → AreAlike false l m → l ≡ m
one_list pairs.no_lexeme = refl
one_list (pairs.same {l} a) = ap (λ z. l ∷ z) (one_list a)
one_list (pairs.star_comment may lines a) = absurd (cc)

pub same_lists : (x y : List ℕ) → HaveAlikeLexemes false x y → HaveSameLexemes x y
same_lists x y h = record { lexemes = h.left_lexemes; left = h.left; right = subst (Lexemes y) (sym (one_list h.alike)) h.right }
