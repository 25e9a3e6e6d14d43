use Rattle.std.proofs.Common.{◌≡◌, take, map}
use Rattle.json5_types.specs.ValueMeanings.{value_of, fields_view}
use Rattle.json5_types.proofs.value_clone.+copy.Given as goal

abbrev pub invariant-copy_fields-loop-key : goal.invariant-copy_fields-loop-key
invariant-copy_fields-loop-key l = fields_view l.copies.items ≡ fields_view (take l.key-index l.fields)

abbrev pub invariant-copy_items-loop-item : goal.invariant-copy_items-loop-item
invariant-copy_items-loop-item l = map value_of l.copies.items ≡ map value_of (take l.item-index l.items)
