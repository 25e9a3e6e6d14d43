use Rattle.std.proofs.Common.{◌≡◌, drop}
use Rattle.json5_settings_types.specs.Sums.{comes_to, measures_of}
use Rattle.json5_settings_types.proofs.sums.sum_of_parts.Given as goal

abbrev pub invariant-loop-unit : goal.invariant-loop-unit
invariant-loop-unit l = comes_to (measures_of (drop l.unit-index l.units)) l.sum.total l.sum.rest.now ≡ comes_to (measures_of l.units) 0 l.fn.text
