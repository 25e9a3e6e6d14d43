use Rattle.std.proofs.Common.{ℕ, List, length}
use denote.Text.{Utf8}
use denote.Shadow.{shadow}
use Rattle.std.specs.Str.{chars}
use Rattle.json5_lexemes.specs.PlainSteps.{TakesLine}
use Rattle.json5_lexemes.proofs.plain.skip_line.Given as goal

abbrev pub invariant-loop-c : goal.invariant-loop-c
invariant-loop-c l = shadow (Utf8 l.rest) × ((r : List ℕ) → TakesLine (chars l.rest) r → TakesLine (chars l.fn.text) r)

abbrev pub decreases-loop-c : goal.decreases-loop-c
decreases-loop-c l = length (chars l.rest)
