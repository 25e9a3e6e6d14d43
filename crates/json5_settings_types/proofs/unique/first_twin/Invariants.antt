use Rattle.std.proofs.Common.{◌≡◌, true, take}
use Rattle.std.specs.Ordering.{eq_by_cmp}
use Rattle.json5_settings_types.specs.Twins.{HasElements, no_twins}
use Rattle.json5_settings_types.proofs.unique.first_twin.Given as goal

abbrev pub invariant-loop-index : goal.invariant-loop-index
invariant-loop-index g l = (no_twins (eq_by_cmp g.T.Ord.cmp) (take l.index l.values) ≡ true) × HasElements g.T.Ord.cmp l.seen (take l.index l.values)
