-- Where a fault is in a text.
-- A promise rests on this.
use Rattle.std.specs.Prelude.{◌≡◌, ◌+◌, ◌++◌, ℕ, List, take, Option, Some, None, codes, decimal}
use Rattle.std.specs.Str.{chars, IsCharBoundary}
use Rattle.json5_grammar.specs.declared.position.Position.{Position}
use Rattle.json5_grammar.specs.Faults.Positions.{position_after}
use Rattle.json5_tokens.specs.Places.{HasPosition}

-- the position that is shown: the fault's own, or that of the text's end
abbrev pub shown_position : List ℕ → Option Position → Position
shown_position text (Some p) = p
shown_position text None = position_after (chars text)

-- the offset is where a character begins or the text ends, and at the position if the text has it
pub record IsOffsetOf (text : List ℕ) (p : Position) (offset : ℕ) : Type 0 where
  pub boundary : IsCharBoundary text offset
  pub at : HasPosition text p → position_after (chars (take offset text)) ≡ p

-- `NAME:LINE:COLUMN`, counted from 1
abbrev pub place_text : List ℕ → Position → List ℕ
place_text name p = name ++ codes ":" ++ decimal (p.line + 1) ++ codes ":" ++ decimal (p.column + 1)
