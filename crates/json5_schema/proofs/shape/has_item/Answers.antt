use Rattle.json5_types.proofs.ValuesCompared.{view-Array}
use Rattle.json5_schema.proofs.Shaping.{some_item}
use Rattle.json5_schema.proofs.shape.has_item.Goals as goal

pub returns-in-Array : goal.returns-in-Array
returns-in-Array c = rw (c.in-Array.is, view-Array c.in-Array.items, c.is_empty.ensures, c.in-Array.items.ok.0) (some_item c.in-Array.items.items)
