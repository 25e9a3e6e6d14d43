use Rattle.std.proofs.Common.{length}
use Rattle.json5_lexemes.specs.SameLexemes.{Within}
use Rattle.json5_lexemes.specs.SameSteps.{IsFollowed}
use Rattle.json5_lexemes.proofs.same.same_stars.Given as goal

abbrev pub invariant-loop-c : goal.invariant-loop-c
invariant-loop-c l = IsFollowed Within.stars l.fn.left l.fn.right Within.stars l.left l.right

abbrev pub decreases-loop-c : goal.decreases-loop-c
decreases-loop-c l = length l.left.unread
