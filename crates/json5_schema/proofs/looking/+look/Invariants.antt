use Rattle.std.proofs.Common.{drop}
use Rattle.json5_types.specs.ValueMeanings.{items_view, fields_view}
use Rattle.json5_schema.specs.Shapes.{AllNamedTaken, AllTaken}
use Rattle.json5_schema.proofs.Shaping.{AllShaped}
use Rattle.json5_schema.proofs.looking.+look.Given as goal

-- what is left decides it
abbrev pub invariant-look_at_keywords-loop-name : goal.invariant-look_at_keywords-loop-name
invariant-look_at_keywords-loop-name l = AllShaped (fields_view (drop l.name-index l.keywords)) → AllShaped (fields_view l.keywords)

abbrev pub invariant-look_at_each-loop-index : goal.invariant-look_at_each-loop-index
invariant-look_at_each-loop-index l = AllTaken (items_view (drop l.index-counter l.schemas)) → AllTaken (items_view l.schemas)

abbrev pub invariant-look_at_named-loop-name : goal.invariant-look_at_named-loop-name
invariant-look_at_named-loop-name l = AllNamedTaken l.or_names (fields_view (drop l.name-index l.schemas)) → AllNamedTaken l.or_names (fields_view l.schemas)
