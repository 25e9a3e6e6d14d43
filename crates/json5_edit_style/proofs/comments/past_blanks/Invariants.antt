use Rattle.std.proofs.Common.{length}
use denote.Text.{Utf8}
use denote.Shadow.{shadow}
use Rattle.std.specs.Str.{chars}
use Rattle.json5_edit_style.specs.Passing.{BeginsOn}
use Rattle.json5_edit_style.proofs.comments.past_blanks.Given as goal

abbrev pub invariant-loop-c : goal.invariant-loop-c
invariant-loop-c l = shadow (Utf8 l.rest) × BeginsOn l.fn.begins (chars l.fn.text) (chars l.rest) l.now

abbrev pub decreases-loop-c : goal.decreases-loop-c
decreases-loop-c l = length l.rest
