use Rattle.std.proofs.Common.{length}
use denote.Text.{Utf8}
use denote.Shadow.{shadow}
use Rattle.std.specs.Str.{chars}
use Rattle.json5_lexemes.specs.SharedTokens.{InString}
use Rattle.json5_lexemes.proofs.shared.past_string.Given as goal

abbrev pub invariant-loop-left_run : goal.invariant-loop-left_run
invariant-loop-left_run l = shadow (Utf8 l.left_rest) × shadow (Utf8 l.right_rest) × InString l.fn.quote l.fn.left l.fn.right l.left_rest l.right_rest

abbrev pub decreases-loop-left_run : goal.decreases-loop-left_run
decreases-loop-left_run l = length (chars l.left_rest)
