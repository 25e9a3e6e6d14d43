use Rattle.std.proofs.Common.{ℕ, List, length}
use Rattle.std.specs.Str.{chars}
use Rattle.json5_tokens.specs.ScanTexts.{IsReadTo}
use Rattle.json5_tokens.proofs.strings_and_names.skip_escapes.Given as goal

abbrev pub invariant-loop-body : goal.invariant-loop-body
invariant-loop-body l = (u : List ℕ) × IsReadTo l.fn.kind l.fn.escape u l.rest

abbrev pub decreases-loop-body : goal.decreases-loop-body
decreases-loop-body l = length (chars l.rest)
