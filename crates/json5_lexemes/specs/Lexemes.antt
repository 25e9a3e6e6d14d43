-- The lexemes of a text: its tokens, as they are spelled, and its comments. Blanks and commas are no lexemes here.
-- A promise rests on this.
use Rattle.std.specs.Prelude.{◌≡◌, ◌≢◌, ℕ, Bool, true, ◌&&◌, List, [], ◌∷◌, ◌++◌}
use Rattle.json5_grammar.specs.Language.Blanks.{Inside}
use Rattle.json5_grammar.specs.Language.Characters.{is_blank, slash_sign, star_sign, backslash, NotBegun, Each}
use Rattle.json5_grammar.specs.Language.Strings.{is_quote}
use Rattle.json5_lexemes.specs.SameLexemes.{is_separator, is_sign, is_word_part, is_line_part}

-- a blank that ends no line
abbrev pub is_line_blank : ℕ → Bool
is_line_blank c = is_blank c && is_line_part c

-- the rest of a string after its first quote q: up to the first q that follows no backslash of an escape
pub data Quoted (q : ℕ) : List ℕ → Type 0 where
  closes : Quoted q (q ∷ [])
  raw : {c : ℕ} {s : List ℕ} → c ≢ q → c ≢ backslash → Quoted q s → Quoted q (c ∷ s)
  escape : {c : ℕ} {s : List ℕ} → Quoted q s → Quoted q (backslash ∷ c ∷ s)

-- the lexemes of a text, one after another
pub data Lexemes : List ℕ → List (List ℕ) → Type 0 where
  no_lexeme : Lexemes [] []
  separator : {c : ℕ} {r : List ℕ} {ls : List (List ℕ)} → is_separator c ≡ true → Lexemes r ls → Lexemes (c ∷ r) ls
  -- a bracket or a colon
  sign : {c : ℕ} {r : List ℕ} {ls : List (List ℕ)} → is_sign c ≡ true → Lexemes r ls → Lexemes (c ∷ r) ((c ∷ []) ∷ ls)
  -- a number, a literal or a name, as long as it can be
  word : {c : ℕ} {w r : List ℕ} {ls : List (List ℕ)} → Each is_word_part (c ∷ w) → NotBegun is_word_part r → Lexemes r ls → Lexemes (c ∷ w ++ r) ((c ∷ w) ∷ ls)
  string : {q : ℕ} {s r : List ℕ} {ls : List (List ℕ)} → is_quote q ≡ true → Quoted q s → Lexemes r ls → Lexemes (q ∷ s ++ r) ((q ∷ s) ∷ ls)
  -- a `//` comment, but for blanks b at its end
  line : {x b r : List ℕ} {ls : List (List ℕ)} → Each is_line_part x → Each is_line_blank b → NotBegun is_line_part r → Lexemes r ls
      → Lexemes (slash_sign ∷ slash_sign ∷ x ++ (b ++ r)) ((slash_sign ∷ slash_sign ∷ x) ∷ ls)
  block : {x r : List ℕ} {ls : List (List ℕ)} → Inside x → Lexemes r ls
      → Lexemes (slash_sign ∷ star_sign ∷ x ++ star_sign ∷ slash_sign ∷ r) ((slash_sign ∷ star_sign ∷ x) ∷ ls)

-- both texts have these lexemes
pub record HaveSameLexemes (x y : List ℕ) : Type 0 where
  pub lexemes : List (List ℕ)
  pub left : Lexemes x lexemes
  pub right : Lexemes y lexemes
