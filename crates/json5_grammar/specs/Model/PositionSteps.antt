-- Counting the position after characters, from the first on, character by character: a CR ends a line at once, and an LF right after it ends none.
-- Private.
use Rattle.std.specs.Prelude.{ℕ, suc, Bool, if◌then◌else◌, ◌&&◌, ◌==◌, List, [], ◌∷◌}
use Rattle.json5_grammar.specs.Language.Characters.{is_terminator, line_feed, carriage_return}
use Rattle.json5_grammar.specs.declared.position.Position.{Position}

-- after one more character; `after_cr` says that a CR comes right before it
abbrev pub position_step : Position → Bool → ℕ → Position
position_step p after_cr c = if after_cr && (c == line_feed) then p else if is_terminator c then record { line = suc p.line; column = 0 } else record { line = p.line; column = suc p.column }

-- after these characters, the last one before them being a CR or not
abbrev pub position_from : Position → Bool → List ℕ → Position
position_from p after_cr [] = p
position_from p after_cr (c ∷ s) = position_from (position_step p after_cr c) (c == carriage_return) s
