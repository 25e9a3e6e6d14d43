-- How blanks and comments are passed over. Private clauses and proofs alone cite it.
-- Private.
use Rattle.std.specs.Prelude.{◌≡◌, ◌≢◌, ℕ, Bool, true, false, List, ◌++◌, Option, IsTrue, MatchOption, ⊤}
use Rattle.json5_grammar.specs.Language.Characters.{is_blank, NotBegun, Each}
use Rattle.json5_lexemes.specs.Pieces.{IsPiece}
use Rattle.json5_lexemes.specs.SameLexemes.{is_line_part}
use Rattle.json5_lexemes.specs.declared.pieces.Piece.{Piece}
use Rattle.json5_lexemes.specs.declared.pieces.Piece.TheVariants as piece
use Rattle.json5_edit_style.specs.Comments.{CommentLines, BeginsLine}

-- a line begins after the text
abbrev pub BeginsAfter : List ℕ → Bool → Type 0
BeginsAfter text result = IsTrue result → BeginsLine text

-- blanks are in front of the text, and the rest follows them; after a text a line begins with them so
pub record BeginsOn (begins : Bool) (text rest : List ℕ) (result : Bool) : Type 0 where
  pub blanks : List ℕ
  pub split : text ≡ blanks ++ rest
  pub is_blank : Each is_blank blanks
  pub begun : IsTrue result → (before : List ℕ) → (begins ≡ true → BeginsLine before) → BeginsLine (before ++ blanks)

-- of the lines of comments
abbrev pub HasAfter : Bool → Piece → Option Bool → Type 0
HasAfter has p result = MatchOption result ⊤ (λ h. (one : Bool) (x r : List ℕ) → (p ≡ piece.LineEnd → one ≡ false) → IsPiece p x r → CommentLines one h r → CommentLines one has x)

abbrev pub PassesLines : List ℕ → Option Bool → Type 0
PassesLines x result = MatchOption result ⊤ (λ one. CommentLines one false x)

-- whether no line has ended
abbrev pub StaysOne : Bool → Piece → Bool → Type 0
StaysOne one p result = result ≡ true → (one ≡ true) × (p ≢ piece.LineEnd)

-- after this piece x may be left, before the text back
abbrev pub MayFollow : Piece → List ℕ → List ℕ → Bool → Type 0
MayFollow p x back result = IsTrue result → (p ≢ piece.LineEnd) × (p ≡ piece.Line → NotBegun is_line_part x → NotBegun is_line_part (x ++ back))
