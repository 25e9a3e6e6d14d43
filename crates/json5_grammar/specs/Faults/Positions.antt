-- Positions: the line and the column after a prefix of the input, both counted from 0.
-- A promise rests on this.
-- ECMAScript 5.1 section 7.3: LF, CR, U+2028 and U+2029 end a line, and CR LF is one end.
use Rattle.std.specs.Prelude.{ℕ, suc, ◌+◌, Bool, false, if◌then◌else◌, ◌&&◌, not, ◌==◌, List, [], ◌∷◌, length}
use Rattle.std.specs.List.{list_any}
use Rattle.json5_grammar.specs.Language.Characters.{is_terminator, line_feed, carriage_return}
use Rattle.json5_grammar.specs.declared.position.Position.{Position}

abbrev pub begins_line_feed : List ℕ → Bool
begins_line_feed [] = false
begins_line_feed (c ∷ s) = c == line_feed

-- the terminators, a CR before LF counting with the LF
abbrev pub line_of : List ℕ → ℕ
line_of [] = 0
line_of (c ∷ s) = (if is_terminator c && not ((c == carriage_return) && begins_line_feed s) then 1 else 0) + line_of s

-- the characters after the last terminator
abbrev pub column_of : List ℕ → ℕ
column_of [] = 0
column_of (c ∷ s) = if list_any is_terminator (c ∷ s) then column_of s else suc (length s)

-- the position after this prefix of the input
abbrev pub position_after : List ℕ → Position
position_after s = record { line = line_of s; column = column_of s }
