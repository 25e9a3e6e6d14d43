use Rattle.std.proofs.Common.{drop}
use Rattle.json5_types.specs.ValueMeanings.{array, object, items_view, fields_view}
use Rattle.json5_schema.specs.Subschemas.{AllKnownAmong, AllKnownNamed}
use Rattle.json5_schema.proofs.Knowing.{AllKnown}
use Rattle.json5_schema.proofs.known.+known.Given as goal

-- what is left decides it
abbrev pub invariant-check_keywords-loop-name : goal.invariant-check_keywords-loop-name
invariant-check_keywords-loop-name l = AllKnown (fields_view (drop l.name-index l.keywords)) → AllKnown (fields_view l.keywords)

abbrev pub invariant-check_each-loop-index : goal.invariant-check_each-loop-index
invariant-check_each-loop-index l = AllKnownAmong (array (items_view (drop l.index-counter l.schemas))) → AllKnownAmong (array (items_view l.schemas))

abbrev pub invariant-check_named-loop-name : goal.invariant-check_named-loop-name
invariant-check_named-loop-name l = AllKnownNamed (object (fields_view (drop l.name-index l.schemas))) → AllKnownNamed (object (fields_view l.schemas))
