use denote.Text.{Utf8}
use denote.Shadow.{shadow}
use Rattle.json5_edit_values.proofs.lines.joined.Given as goal

-- the line before is text
abbrev pub invariant-loop-line : goal.invariant-loop-line
invariant-loop-line l = (goal.iterator-loop-line).can_next l.line-iterator × (goal.iterator-loop-line).is_finite l.line-iterator × shadow (Utf8 l.before)
