use Rattle.std.proofs.Common.{◌≡◌, drop}
use Rattle.json5_types.specs.ValueMeanings.{items_view}
use Rattle.json5_styles.specs.Writable.{items_are_plain}
use Rattle.json5_styles.proofs.json_values.are_plain.Given as goal

-- what is left decides it
abbrev pub invariant-loop-item : goal.invariant-loop-item
invariant-loop-item l = items_are_plain (items_view (drop l.item-index l.items)) ≡ items_are_plain (items_view l.items)
