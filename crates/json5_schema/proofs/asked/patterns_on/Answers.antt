use Rattle.json5_types.proofs.ValuesCompared.{view-Object}
use Rattle.json5_schema.proofs.asked.patterns_on.Goals as goal

pub returns-in-Object-Object : goal.returns-in-Object-Object
returns-in-Object-Object c =
    let w = c.in-Object-Object in
    rw (w.is-0, w.is-1, view-Object w.schemas, view-Object w.members, ← c.deref.ensures.value, ← c.deref-in-Object-Object.ensures.value) c.matched_on.ensures
