-- The comments of a text.
-- A promise rests on this.
use Rattle.std.specs.Prelude.{◌≡◌, ◌==◌, ◌||◌, not, ℕ, Bool, true, List, [], ◌∷◌, ◌++◌}
use Rattle.json5_grammar.specs.Language.Blanks.{Inside}
use Rattle.json5_grammar.specs.Language.Characters.{slash_sign, star_sign, NotBegun, Each}
use Rattle.json5_grammar.specs.Language.Strings.{is_quote}
use Rattle.json5_lexemes.specs.Lexemes.{Quoted}
use Rattle.json5_lexemes.specs.SameLexemes.{is_line_part}

-- a character that begins neither a string nor a comment
abbrev pub begins_neither : ℕ → Bool
begins_neither c = not (is_quote c || (c == slash_sign))

-- the comments of a text, in their order and to the letter. A string holds none. A `//` comment ends before the line
-- terminator
pub data Comments : List ℕ → List (List ℕ) → Type 0 where
  nothing : Comments [] []
  other : {c : ℕ} {r : List ℕ} {cs : List (List ℕ)} → begins_neither c ≡ true → Comments r cs → Comments (c ∷ r) cs
  string : {q : ℕ} {s r : List ℕ} {cs : List (List ℕ)} → is_quote q ≡ true → Quoted q s → Comments r cs → Comments (q ∷ s ++ r) cs
  line : {x r : List ℕ} {cs : List (List ℕ)} → Each is_line_part x → NotBegun is_line_part r → Comments r cs
      → Comments (slash_sign ∷ slash_sign ∷ x ++ r) ((slash_sign ∷ slash_sign ∷ x) ∷ cs)
  block : {x r : List ℕ} {cs : List (List ℕ)} → Inside x → Comments r cs
      → Comments (slash_sign ∷ star_sign ∷ x ++ star_sign ∷ slash_sign ∷ r) ((slash_sign ∷ star_sign ∷ x ++ star_sign ∷ slash_sign ∷ []) ∷ cs)

-- both texts have these comments
pub record HaveSameComments (x y : List ℕ) : Type 0 where
  pub comments : List (List ℕ)
  pub left : Comments x comments
  pub right : Comments y comments

-- the text has no comment
abbrev pub HasNoComment : List ℕ → Type 0
HasNoComment x = Comments x []
