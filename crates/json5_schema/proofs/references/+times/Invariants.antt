use Rattle.std.proofs.Common.{◌≤◌, ◌+◌, drop}
use Rattle.json5_types.specs.ValueMeanings.{items_view, fields_view}
use Rattle.json5_schema.specs.Refusals.{times_among, times_named}
use Rattle.json5_schema.proofs.references.+times.Given as goal

-- those that were counted, and those that are left, are no more than all
abbrev pub invariant-times_among-loop-item : goal.invariant-times_among-loop-item
invariant-times_among-loop-item l = l.count + times_among l.name l.text (items_view (drop l.item-index l.items)) ≤ times_among l.name l.text (items_view l.items)

abbrev pub invariant-times_named-loop-key : goal.invariant-times_named-loop-key
invariant-times_named-loop-key l = l.count + times_named l.name l.text (fields_view (drop l.key-index l.members)) ≤ times_named l.name l.text (fields_view l.members)
