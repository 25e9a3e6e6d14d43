use Rattle.std.proofs.Common.{◌≡◌, drop}
use Rattle.json5_settings_types.specs.Sums.{amount_text, measures_of}
use Rattle.json5_settings_types.proofs.sums.in_one_unit.Given as goal

abbrev pub invariant-loop-unit : goal.invariant-loop-unit
invariant-loop-unit l = amount_text (measures_of (drop l.unit-index l.units)) l.number ≡ amount_text (measures_of l.units) l.number
