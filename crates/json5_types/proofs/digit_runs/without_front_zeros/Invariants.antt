use Rattle.std.proofs.Common.{◌≡◌, ◌-◌, ◌≤◌, length, drop}
use Rattle.std.specs.Str.{IsCharBoundary}
use Rattle.json5_grammar.specs.Language.Numbers.{without_front_zeros}
use Rattle.json5_types.proofs.digit_runs.without_front_zeros.Given as goal

abbrev pub invariant-loop-start : goal.invariant-loop-start
invariant-loop-start l = record {
  inside : l.start ≤ length l.bytes;
  cut : IsCharBoundary l.bytes l.start;
  same : without_front_zeros (drop l.start l.bytes) ≡ without_front_zeros l.bytes;
}

abbrev pub decreases-loop-start : goal.decreases-loop-start
decreases-loop-start l = length l.bytes - l.start
