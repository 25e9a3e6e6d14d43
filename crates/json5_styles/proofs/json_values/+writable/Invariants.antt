use Rattle.std.proofs.Common.{◌≡◌, drop}
use Rattle.json5_types.specs.ValueMeanings.{items_view, fields_view}
use Rattle.json5_styles.proofs.WritableLists.{items_writable, fields_writable}
use Rattle.json5_styles.proofs.json_values.+writable.Given as goal

-- what is left decides it
abbrev pub invariant-items_are_writable-loop-item : goal.invariant-items_are_writable-loop-item
invariant-items_are_writable-loop-item l = items_writable l.spelling l.left (items_view (drop l.item-index l.items)) ≡ items_writable l.spelling l.left (items_view l.items)

abbrev pub invariant-fields_are_writable-loop-value : goal.invariant-fields_are_writable-loop-value
invariant-fields_are_writable-loop-value l = fields_writable l.spelling l.left (fields_view (drop l.value-index l.fields)) ≡ fields_writable l.spelling l.left (fields_view l.fields)
