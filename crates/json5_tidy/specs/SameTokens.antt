-- Two texts that have the same tokens, commas and comments, and blanks between them.
-- Private.
use Rattle.std.specs.Prelude.{◌≡◌, ℕ, true, List, [], ◌∷◌, ◌++◌}
use Rattle.std.specs.Str.{chars}
use Rattle.json5_grammar.specs.Language.Blanks.{Inside}
use Rattle.json5_grammar.specs.Language.Characters.{is_blank, comma_sign, slash_sign, star_sign, NotBegun, Each}
use Rattle.json5_grammar.specs.Language.Strings.{is_quote}
use Rattle.json5_styles.specs.Json.{is_json_blank}
use Rattle.json5_lexemes.specs.Lexemes.{Quoted}
use Rattle.json5_lexemes.specs.SameLexemes.{is_sign, is_word_part, is_line_part}

-- x and y have the same tokens, commas and comments. Between them x has blanks, and y has JSON's
pub data SameTokens : List ℕ → List ℕ → Type 0 where
  ends : SameTokens [] []
  left_blank : {c : ℕ} {x y : List ℕ} → is_blank c ≡ true → SameTokens x y → SameTokens (c ∷ x) y
  right_blank : {c : ℕ} {x y : List ℕ} → is_json_blank c ≡ true → SameTokens x y → SameTokens x (c ∷ y)
  comma : {x y : List ℕ} → SameTokens x y → SameTokens (comma_sign ∷ x) (comma_sign ∷ y)
  -- a bracket or a colon
  sign : {c : ℕ} {x y : List ℕ} → is_sign c ≡ true → SameTokens x y → SameTokens (c ∷ x) (c ∷ y)
  -- a number, a literal or a name, which ends in both
  word : {c : ℕ} {w x y : List ℕ} → Each is_word_part (c ∷ w) → NotBegun is_word_part x → NotBegun is_word_part y → SameTokens x y → SameTokens (c ∷ w ++ x) (c ∷ w ++ y)
  string : {q : ℕ} {s x y : List ℕ} → is_quote q ≡ true → Quoted q s → SameTokens x y → SameTokens (q ∷ s ++ x) (q ∷ s ++ y)
  line : {s x y : List ℕ} → Each is_line_part s → NotBegun is_line_part x → NotBegun is_line_part y → SameTokens x y
      → SameTokens (slash_sign ∷ slash_sign ∷ s ++ x) (slash_sign ∷ slash_sign ∷ s ++ y)
  block : {s x y : List ℕ} → Inside s → SameTokens x y → SameTokens (slash_sign ∷ star_sign ∷ s ++ star_sign ∷ slash_sign ∷ x) (slash_sign ∷ star_sign ∷ s ++ star_sign ∷ slash_sign ∷ y)

-- the same of texts in bytes
abbrev pub HaveSameTokens : (x y : List ℕ) → Type 0
HaveSameTokens x y = SameTokens (chars x) (chars y)
