-- Which comments belong to an entry: those right before it, and those after it on its line.
-- A promise rests on this.
use Rattle.std.specs.Prelude.{◌≡◌, ◌⊎◌, ℕ, Bool, true, false, ◌||◌, ◌==◌, List, [], ◌∷◌, ◌++◌}
use Rattle.json5_grammar.specs.Language.Blanks.{Inside}
use Rattle.json5_grammar.specs.Language.Characters.{is_blank, is_terminator, slash_sign, star_sign, carriage_return, line_feed, right_bracket, right_brace, NotBegun, Each}
use Rattle.json5_lexemes.specs.Lexemes.{is_line_blank}
use Rattle.json5_lexemes.specs.SameLexemes.{is_line_part}

-- a line terminator, or CR LF
pub data LineEnd : List ℕ → Type 0 where
  terminator : {c : ℕ} → is_terminator c ≡ true → LineEnd (c ∷ [])
  cr_lf : LineEnd (carriage_return ∷ line_feed ∷ [])

-- ---- before an entry

-- blanks and comments up to an entry, in which each line that ends has a comment, or where `one` is true no line ends;
-- `has` says that the line has a comment already
pub data CommentLines (one : Bool) : Bool → List ℕ → Type 0 where
  entry : {has : Bool} → CommentLines one has []
  blank : {has : Bool} {c : ℕ} {s : List ℕ} → is_line_blank c ≡ true → CommentLines one has s → CommentLines one has (c ∷ s)
  line_end : {e s : List ℕ} → one ≡ false → LineEnd e → CommentLines one false s → CommentLines one true (e ++ s)
  line : {has : Bool} {x s : List ℕ} → Each is_line_part x → NotBegun is_line_part s → CommentLines one true s → CommentLines one has (slash_sign ∷ slash_sign ∷ x ++ s)
  block : {has : Bool} {x s : List ℕ} → Inside x → CommentLines one true s → CommentLines one has (slash_sign ∷ star_sign ∷ x ++ star_sign ∷ slash_sign ∷ s)

-- a line begins after this text, but for blanks
pub record BeginsLine (text : List ℕ) : Type 0 where
  pub front : List ℕ
  pub end : ℕ
  pub blanks : List ℕ
  pub split : text ≡ front ++ end ∷ blanks
  pub is_end : is_terminator end ≡ true
  pub is_blank : Each is_line_blank blanks

-- what stands between the text before and an entry belongs to the entry: after blanks, comments on its line, or on lines of
-- their own right before it
pub record IsLead (before lead : List ℕ) : Type 0 where
  pub blanks : List ℕ
  pub comments : List ℕ
  pub split : lead ≡ blanks ++ comments
  pub is_blank : Each is_blank blanks
  pub own : (CommentLines true false comments) ⊎ (CommentLines false false comments × BeginsLine (before ++ blanks))

-- ---- after an entry

abbrev pub is_closing : ℕ → Bool
is_closing c = (c == right_bracket) || (c == right_brace)

-- but for blanks, the line ends here, or the collection does
pub data EndsLine : List ℕ → Type 0 where
  line_end : {c : ℕ} {s : List ℕ} → is_terminator c ≡ true → EndsLine (c ∷ s)
  bracket : {c : ℕ} {s : List ℕ} → is_closing c ≡ true → EndsLine (c ∷ s)
  blank : {c : ℕ} {s : List ℕ} → is_line_blank c ≡ true → EndsLine s → EndsLine (c ∷ s)

-- blanks and comments after an entry, in which each comment begins on its line, and after which, before this text, that line
-- ends without another entry
pub data CommentsAfter (back : List ℕ) : List ℕ → Type 0 where
  last : {s : List ℕ} → Each is_blank s → EndsLine (s ++ back) → CommentsAfter back s
  blank : {c : ℕ} {s : List ℕ} → is_line_blank c ≡ true → CommentsAfter back s → CommentsAfter back (c ∷ s)
  line : {x s : List ℕ} → Each is_line_part x → NotBegun is_line_part (s ++ back) → CommentsAfter back s → CommentsAfter back (slash_sign ∷ slash_sign ∷ x ++ s)
  block : {x s : List ℕ} → Inside x → CommentsAfter back s → CommentsAfter back (slash_sign ∷ star_sign ∷ x ++ star_sign ∷ slash_sign ∷ s)

-- what stands after an entry, before this text, belongs to it: blanks alone, or comments on its line too
abbrev pub IsTrail : List ℕ → List ℕ → Type 0
IsTrail back trail = Each is_blank trail ⊎ CommentsAfter back trail
