use denote.Text.{Utf8}
use denote.Shadow.{shadow}
use Rattle.json5_convert.specs.SpelledAnew.{left_of}
use Rattle.json5_convert.proofs.AnewSteps.{GapsPassed}
use Rattle.json5_convert.proofs.spelled_anew.past_colon.Given as goal

abbrev pub invariant-loop-left_after : goal.invariant-loop-left_after
invariant-loop-left_after l = shadow (Utf8 l.left_rest) × shadow (Utf8 l.right_rest) × GapsPassed l.stay l.fn.left l.fn.right l.left_rest l.right_rest

abbrev pub decreases-loop-left_after : goal.decreases-loop-left_after
decreases-loop-left_after l = left_of l.left_rest l.right_rest
