use Rattle.std.proofs.Common.{ℕ, List, length}
use Rattle.std.specs.Prelude.{◌↔◌}
use denote.Text.{Utf8}
use denote.Shadow.{shadow}
use Rattle.std.specs.Str.{chars}
use Rattle.json5_lexemes.specs.PlainSteps.{TakesBlock}
use Rattle.json5_lexemes.proofs.plain.skip_block.Given as goal

abbrev pub invariant-loop-c : goal.invariant-loop-c
invariant-loop-c l = shadow (Utf8 l.rest) × ((r : List ℕ) → TakesBlock (chars l.fn.text) r ↔ TakesBlock (chars l.rest) r)

abbrev pub decreases-loop-c : goal.decreases-loop-c
decreases-loop-c l = length (chars l.rest)
