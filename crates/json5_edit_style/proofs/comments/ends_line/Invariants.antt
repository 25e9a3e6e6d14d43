use Rattle.std.proofs.Common.{length}
use Rattle.std.specs.Str.{chars}
use Rattle.json5_edit_style.specs.Comments.{EndsLine}
use Rattle.json5_edit_style.proofs.comments.ends_line.Given as goal

abbrev pub invariant-loop-c : goal.invariant-loop-c
invariant-loop-c l = EndsLine l.scanner.unread → EndsLine (chars l.fn.text)

abbrev pub decreases-loop-c : goal.decreases-loop-c
decreases-loop-c l = length l.scanner.unread
