use Rattle.std.proofs.Common.{◌+◌, ◌*◌, drop}
use Rattle.json5_types.specs.ValueMeanings.{array, object, value_of, items_view, fields_view}
use Rattle.json5_types.specs.ValueLookups.{datum_depth, items_depth, fields_depth}
use Rattle.json5_write.specs.Out.{piece}
use Rattle.json5_write.proofs.OutputsJoined.{Reaches}
use Rattle.json5_styles.specs.LaidBack.{ItemsHaveNumbers, FieldsHaveNumbers}
use Rattle.json5_styles.specs.Styles.{items_laid, fields_laid}
use Rattle.json5_styles.specs.Layouts.{style_of, laid_in}
use Rattle.json5_styles.proofs.ItemsLaid.{items_left}
use Rattle.json5_styles.proofs.value.+laid.Given as goal

abbrev pub invariant-put_items-loop-item : goal.invariant-put_items-loop-item
invariant-put_items-loop-item g l = record {
  reaches : Reaches (piece (laid_in l.fn.form l.fn.depth (array (items_view l.items)))) l.fn.printer l.printer (piece (items_laid (style_of l.fn.form.spelling l.fn.form.layout) l.fn.depth l.started (items_view (drop l.item-index l.items))));
  numbers : ItemsHaveNumbers (items_view (drop l.item-index l.items)) → ItemsHaveNumbers (items_view l.items);
}

abbrev pub invariant-put_items_on_line-loop-item : goal.invariant-put_items_on_line-loop-item
invariant-put_items_on_line-loop-item g l = record {
  reaches : Reaches (piece (laid_in l.fn.form l.fn.depth (array (items_view l.items)))) l.fn.printer l.printer (piece (items_left (style_of l.fn.form.spelling l.fn.form.layout) l.fn.depth l.before (items_view (drop l.item-index l.items))));
  numbers : ItemsHaveNumbers (items_view (drop l.item-index l.items)) → ItemsHaveNumbers (items_view l.items);
}

abbrev pub invariant-put_object-loop-key : goal.invariant-put_object-loop-key
invariant-put_object-loop-key g l = record {
  reaches : Reaches (piece (laid_in l.fn.form l.fn.depth (object (fields_view l.fields)))) l.fn.printer l.printer (piece (fields_laid (style_of l.fn.form.spelling l.fn.form.layout) l.fn.depth l.started (fields_view (drop l.key-index l.fields))));
  numbers : FieldsHaveNumbers (fields_view (drop l.key-index l.fields)) → FieldsHaveNumbers (fields_view l.fields);
}

-- the deepest inside, and then the calls at one depth

abbrev pub decreases-put_value : goal.decreases-put_value
decreases-put_value g l = 4 * datum_depth (value_of l.value.now) + 2

abbrev pub decreases-put_item_after : goal.decreases-put_item_after
decreases-put_item_after g l = 4 * datum_depth (value_of l.item.now) + 3

abbrev pub decreases-put_items : goal.decreases-put_items
decreases-put_items g l = 4 * items_depth (items_view l.items.now) + 4

abbrev pub decreases-put_object : goal.decreases-put_object
decreases-put_object g l = 4 * fields_depth (fields_view l.fields.now) + 4

abbrev pub decreases-put_array : goal.decreases-put_array
decreases-put_array g l = 4 * items_depth (items_view l.items.now) + 5

abbrev pub decreases-put_items_on_line : goal.decreases-put_items_on_line
decreases-put_items_on_line g l = 4 * items_depth (items_view l.items.now) + 4
