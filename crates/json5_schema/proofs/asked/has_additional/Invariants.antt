use Rattle.std.proofs.Common.{◌≡◌, drop}
use Rattle.json5_types.specs.ValueMeanings.{fields_view}
use Rattle.json5_schema.specs.Conformance.{has_additional}
use Rattle.json5_schema.proofs.asked.has_additional.Given as goal

abbrev pub invariant-loop-name : goal.invariant-loop-name
invariant-loop-name l = has_additional (fields_view l.keywords) (fields_view (drop l.name-index l.members)) ≡ has_additional (fields_view l.keywords) (fields_view l.members)
