use Rattle.json5_types.specs.ValueMeanings.{value_of, items_view}
use Rattle.json5_types.proofs.LookedUp.{element_lent}
use Rattle.json5_types.proofs.ValuesChanged.{array_from}
use Rattle.json5_types.proofs.value_pointer.step_mut.Goals as goal

pub returns-in_ok-index_of-in-Array : goal.returns-in_ok-index_of-in-Array
returns-in_ok-index_of-in-Array c =
    let items = c.in_ok-as_array_mut-in-Array.field-0.now in
    rw (array_from (value_of c.args.target.now) (items_view items.items) c.in_ok-as_array_mut-in-Array.ensures.value, ← c.in_ok-index_of-in-Array.ensures)
    (element_lent items.items c.in_ok-index_of-in-Array.field-0 _ c.get_mut.result items.ok.0 c.get_mut.ensures.variant c.get_mut.ensures.value)
