-- Two texts whose lexemes are the same, but for the blanks in front of the lines of star comments, where these may move.
-- A promise rests on this.
use Rattle.std.specs.Prelude.{◌≡◌, ℕ, Bool, true, false, List, [], ◌∷◌, ◌++◌}
use Rattle.json5_grammar.specs.Language.Characters.{is_terminator, carriage_return, line_feed, slash_sign, star_sign, Each}
use Rattle.json5_lexemes.specs.Lexemes.{Lexemes, is_line_blank}
use Rattle.json5_lexemes.specs.SameLexemes.{AtStar}

-- the rests of two star comments: each further line begins with a star, behind blanks, and without these blanks both are the same
pub data SameLines : List ℕ → List ℕ → Type 0 where
  ends : SameLines [] []
  goes_on : {c : ℕ} {x y : List ℕ} → is_terminator c ≡ false → SameLines x y → SameLines (c ∷ x) (c ∷ y)
  line : {c : ℕ} {a b x y : List ℕ} → is_terminator c ≡ true → Each is_line_blank a → Each is_line_blank b → AtStar x → AtStar y → SameLines x y → SameLines (c ∷ a ++ x) (c ∷ b ++ y)
  -- the LF after a CR ends no further line
  crlf : {x y : List ℕ} → SameLines (line_feed ∷ x) y → SameLines (carriage_return ∷ line_feed ∷ x) (carriage_return ∷ y)

-- one after another, the lexemes are the same, or star comments with the same lines if these may move
pub data AreAlike (move : Bool) : List (List ℕ) → List (List ℕ) → Type 0 where
  no_lexeme : AreAlike move [] []
  same : {l : List ℕ} {ls ms : List (List ℕ)} → AreAlike move ls ms → AreAlike move (l ∷ ls) (l ∷ ms)
  star_comment : {x y : List ℕ} {ls ms : List (List ℕ)} → move ≡ true → SameLines x y → AreAlike move ls ms
      → AreAlike move ((slash_sign ∷ star_sign ∷ x) ∷ ls) ((slash_sign ∷ star_sign ∷ y) ∷ ms)

-- the texts have lexemes that are alike
pub record HaveAlikeLexemes (move : Bool) (x y : List ℕ) : Type 0 where
  pub left_lexemes : List (List ℕ)
  pub right_lexemes : List (List ℕ)
  pub left : Lexemes x left_lexemes
  pub right : Lexemes y right_lexemes
  pub alike : AreAlike move left_lexemes right_lexemes
