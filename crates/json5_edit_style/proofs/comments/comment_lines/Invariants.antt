use Rattle.std.proofs.Common.{length}
use Rattle.std.specs.Str.{chars}
use Rattle.json5_edit_style.proofs.CommentsPassed.{LinesOn}
use Rattle.json5_edit_style.proofs.comments.comment_lines.Given as goal

abbrev pub invariant-loop-piece : goal.invariant-loop-piece
invariant-loop-piece l = LinesOn l.has l.one l.pieces (chars l.fn.text)

abbrev pub decreases-loop-piece : goal.decreases-loop-piece
decreases-loop-piece l = length l.pieces
