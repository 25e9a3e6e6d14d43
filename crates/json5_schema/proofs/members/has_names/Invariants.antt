use Rattle.std.proofs.Common.{◌≡◌, drop}
use Rattle.json5_types.specs.ValueMeanings.{items_view, fields_view}
use Rattle.json5_schema.specs.Conformance.{has_names}
use Rattle.json5_schema.proofs.members.has_names.Given as goal

abbrev pub invariant-loop-name : goal.invariant-loop-name
invariant-loop-name l = has_names (items_view (drop l.name-index l.names)) (fields_view l.members) ≡ has_names (items_view l.names) (fields_view l.members)
