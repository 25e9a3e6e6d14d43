use Rattle.std.proofs.Common.{length}
use Rattle.std.specs.Str.{chars}
use Rattle.json5_edit_style.specs.Comments.{CommentsAfter}
use Rattle.json5_edit_style.proofs.comments.comments_after.Given as goal

abbrev pub invariant-loop-piece : goal.invariant-loop-piece
invariant-loop-piece l = CommentsAfter (chars l.fn.back) l.pieces → CommentsAfter (chars l.fn.back) (chars l.fn.text)

abbrev pub decreases-loop-piece : goal.decreases-loop-piece
decreases-loop-piece l = length l.pieces
