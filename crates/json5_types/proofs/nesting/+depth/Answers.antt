use Rattle.json5_types.proofs.ValuesCompared.{view-Object}
use Rattle.json5_types.proofs.nesting.+depth.Goals as goal

pub is_within-returns-in-Object : goal.is_within-returns-in-Object
is_within-returns-in-Object t c = rw (c.in-Object.is, view-Object c.in-Object.fields, ← c.deref-in-Object.ensures.value) c.fields_fit.ensures
