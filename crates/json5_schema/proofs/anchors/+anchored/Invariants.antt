use Rattle.std.proofs.Common.{◌≡◌, drop}
use Rattle.json5_types.specs.ValueMeanings.{items_view, fields_view}
use Rattle.json5_schema.specs.Conformance.{anchored_in, anchored_among, anchored_named}
use Rattle.json5_schema.proofs.anchors.+anchored.Given as goal

-- what is left decides it
abbrev pub invariant-anchored_in-loop-index : goal.invariant-anchored_in-loop-index
invariant-anchored_in-loop-index l = anchored_in l.name (fields_view (drop l.index l.keywords)) ≡ anchored_in l.name (fields_view l.keywords)

abbrev pub invariant-anchored_among-loop-schema : goal.invariant-anchored_among-loop-schema
invariant-anchored_among-loop-schema l = anchored_among l.name (items_view (drop l.schema-index l.schemas)) ≡ anchored_among l.name (items_view l.schemas)

abbrev pub invariant-anchored_named-loop-index : goal.invariant-anchored_named-loop-index
invariant-anchored_named-loop-index l = anchored_named l.name (fields_view (drop l.index l.schemas)) ≡ anchored_named l.name (fields_view l.schemas)
