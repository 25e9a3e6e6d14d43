use denote.Text.{Utf8}
use denote.Shadow.{shadow}
use Rattle.std.proofs.Common.{false}
use Rattle.std.specs.Str.{chars}
use Rattle.json5_convert.specs.SpelledAnew.{SpelledAnew, left_of}
use Rattle.json5_convert.proofs.spelled_anew.check_spelled_anew.Given as goal

abbrev pub invariant-loop-left_solid : goal.invariant-loop-left_solid
invariant-loop-left_solid l = shadow (Utf8 l.left) × shadow (Utf8 l.right) × (SpelledAnew l.stay false (chars l.left) (chars l.right) → SpelledAnew l.stay false (chars l.fn.text) (chars l.fn.made))

abbrev pub decreases-loop-left_solid : goal.decreases-loop-left_solid
decreases-loop-left_solid l = left_of l.left l.right
