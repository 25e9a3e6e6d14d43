use Rattle.json5_types.proofs.ValuesCompared.{view-Object}
use Rattle.json5_schema.proofs.reaching.has_property.Goals as goal

pub returns-in-Object : goal.returns-in-Object
returns-in-Object c = rw (c.in-Object.is, view-Object c.in-Object.schemas, ← c.deref.ensures.value) c.is_named.ensures
