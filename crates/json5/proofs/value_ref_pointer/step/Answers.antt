use Rattle.json5.proofs.RefsCopied.{view-Array}
use Rattle.json5.proofs.RefsFound.{element_found}
use Rattle.json5.proofs.value_ref_pointer.step.Goals as goal

pub returns-in_ok-index_of-in-Array : goal.returns-in_ok-index_of-in-Array
returns-in_ok-index_of-in-Array c =
    rw (c.in-Array.is, view-Array c.in-Array.items, ← c.in_ok-index_of-in-Array.ensures, ← c.deref.ensures.value)
    (element_found c.deref.result.now c.in_ok-index_of-in-Array.field-0 c.get.result c.get.ensures.lookup.0 c.get.ensures.lookup.1)
