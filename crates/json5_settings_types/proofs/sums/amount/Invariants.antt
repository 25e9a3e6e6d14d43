use Rattle.std.proofs.Common.{◌≡◌, drop}
use Rattle.json5_settings_types.specs.Sums.{amount_of, measures_of}
use Rattle.json5_settings_types.proofs.sums.amount.Given as goal

abbrev pub invariant-loop-unit : goal.invariant-loop-unit
invariant-loop-unit l = amount_of (measures_of (drop l.unit-index l.units)) l.text ≡ amount_of (measures_of l.units) l.text
