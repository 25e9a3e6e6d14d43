use Rattle.std.proofs.Common.{◌≡◌, drop}
use Rattle.json5_types.specs.ValueMeanings.{fields_view}
use Rattle.json5_schema.specs.Conformance.{has_dependents}
use Rattle.json5_schema.proofs.members.has_dependents.Given as goal

abbrev pub invariant-loop-index : goal.invariant-loop-index
invariant-loop-index l = has_dependents (fields_view (drop l.index l.dependents)) (fields_view l.members) ≡ has_dependents (fields_view l.dependents) (fields_view l.members)
