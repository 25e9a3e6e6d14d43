-- Where a position is in a text.
-- A promise rests on this.
use Rattle.std.specs.Prelude.{◌≡◌, ◌++◌, ℕ, nat_lt, if◌then◌else◌, List, [], ◌∷◌, length, take, drop, sum_by, Option, Some, None}
use Rattle.std.specs.Str.{chars, IsCharBoundary}
use Rattle.json5_grammar.specs.Language.Characters.{line_feed, carriage_return}
use Rattle.json5_grammar.specs.declared.position.Position.{Position}
use Rattle.json5_grammar.specs.Faults.Positions.{position_after, column_of}

-- some of the text's characters come before the position
abbrev pub HasPosition : List ℕ → Position → Type 0
HasPosition text p = (before after : List ℕ) × (chars text ≡ before ++ after) × (position_after before ≡ p)

-- so many bytes end at a CR, and its LF comes next
abbrev pub PartsCrLf : List ℕ → ℕ → Type 0
PartsCrLf text offset = (before after : List ℕ) × (chars (take offset text) ≡ before ++ carriage_return ∷ []) × (chars (drop offset text) ≡ line_feed ∷ after)

-- the character at that line and column begins after so many bytes, or the text ends; a CR LF is one line end
pub record IsOffsetIn (text : List ℕ) (p : Position) (offset : ℕ) : Type 0 where
  pub boundary : IsCharBoundary text offset
  pub at : position_after (chars (take offset text)) ≡ p
  pub whole : PartsCrLf text offset → ⊥

-- such an offset; none if the text doesn't have the position
abbrev pub FindsOffset : List ℕ → Position → Option ℕ → Type 0
FindsOffset text p (Some offset) = IsOffsetIn text p offset
FindsOffset text p None = HasPosition text p → ⊥

-- how many units of UTF-16 a character takes
abbrev pub utf16_width : ℕ → ℕ
utf16_width c = if nat_lt c 0x10000 then 1 else 2

-- how many of them are in the line where the characters end
abbrev pub AreUnitsOfLine : List ℕ → ℕ → Type 0
AreUnitsOfLine s units = (before line : List ℕ) × (s ≡ before ++ line) × (length line ≡ column_of s) × (units ≡ sum_by utf16_width line)

-- so many are between the beginning of the line and the position; none if the text doesn't have it
abbrev pub FindsColumn : List ℕ → Position → Option ℕ → Type 0
FindsColumn text p (Some units) = (before after : List ℕ) × (chars text ≡ before ++ after) × (position_after before ≡ p) × AreUnitsOfLine before units
FindsColumn text p None = HasPosition text p → ⊥
