-- The pieces of what stands between two tokens: blanks, line ends and comments.
-- A promise rests on this.
use denote.Ref.{Bor}
use Rattle.std.specs.Prelude.{◌≡◌, ◌==◌, ℕ, true, List, ◌∷◌, ◌++◌, Option, MatchOption}
use Rattle.std.specs.Str.{chars}
use Rattle.json5_grammar.specs.Language.Blanks.{Inside}
use Rattle.json5_grammar.specs.Language.Characters.{is_terminator, slash_sign, star_sign, carriage_return, line_feed, NotBegun, Each}
use Rattle.json5_lexemes.specs.Lexemes.{is_line_blank}
use Rattle.json5_lexemes.specs.SameLexemes.{is_line_part}
use Rattle.json5_lexemes.specs.declared.pieces.Piece.{Piece}
use Rattle.json5_lexemes.specs.declared.pieces.Piece.TheVariants as piece

-- x begins with a line terminator, or CR LF, and r follows it
pub data TakesLineEnd : List ℕ → List ℕ → Type 0 where
  terminator : {c : ℕ} {r : List ℕ} → is_terminator c ≡ true → (c ≡ carriage_return → NotBegun (λ d. d == line_feed) r) → TakesLineEnd (c ∷ r) r
  cr_lf : {r : List ℕ} → TakesLineEnd (carriage_return ∷ line_feed ∷ r) r

-- x begins with this piece, and r follows it
pub data IsPiece : Piece → List ℕ → List ℕ → Type 0 where
  blank : {c : ℕ} {r : List ℕ} → is_line_blank c ≡ true → IsPiece piece.Blank (c ∷ r) r
  line_end : {x r : List ℕ} → TakesLineEnd x r → IsPiece piece.LineEnd x r
  line : {x r : List ℕ} → Each is_line_part x → NotBegun is_line_part r → IsPiece piece.Line (slash_sign ∷ slash_sign ∷ x ++ r) r
  block : {x r : List ℕ} → Inside x → IsPiece piece.Block (slash_sign ∷ star_sign ∷ x ++ star_sign ∷ slash_sign ∷ r) r

-- no piece is in front
abbrev pub NoPiece : List ℕ → Type 0
NoPiece x = (p : Piece) (r : List ℕ) → IsPiece p x r → ⊥

-- the piece in front and what follows it; None where there is none
abbrev pub PassesPiece : List ℕ → Option (Piece × Bor (List ℕ)) → Type 0
PassesPiece x result = MatchOption result (NoPiece x) (λ p. IsPiece p.0 x (chars p.1.now))

-- the next piece was passed; nothing where there is none
abbrev pub NextPiece : List ℕ → Option Piece → List ℕ → Type 0
NextPiece x result r = MatchOption result (NoPiece x × (r ≡ x)) (λ p. IsPiece p x r)
