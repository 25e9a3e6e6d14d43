use Rattle.std.proofs.Common.{◌≡◌, drop}
use Rattle.json5_types.specs.ValueMeanings.{value_of, items_view}
use Rattle.json5_schema.specs.Conformance.{is_of_some}
use Rattle.json5_schema.proofs.kind.is_of_some.Given as goal

abbrev pub invariant-loop-name : goal.invariant-loop-name
invariant-loop-name l = is_of_some (items_view (drop l.name-index l.names)) (value_of l.value) ≡ is_of_some (items_view l.names) (value_of l.value)
