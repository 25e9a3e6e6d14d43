use Rattle.std.proofs.Common.{Some, ap, ◌∙◌}
use Rattle.json5.proofs.RefsCopied.{view-Array, view-Object}
use Rattle.json5.proofs.RefsFound.{items_counted, members_counted}
use Rattle.json5.proofs.value_ref.ValueRef.len.Goals as goal

pub returns-in-Array : goal.returns-in-Array
returns-in-Array c = rw (c.in-Array.is, view-Array c.in-Array.items, items_counted c.in-Array.items.items) (ap Some (c.len.ensures ∙ c.in-Array.items.ok.0))

pub returns-in-Object : goal.returns-in-Object
returns-in-Object c = rw (c.in-Object.is, view-Object c.in-Object.members, members_counted c.in-Object.members.items) (ap Some (c.len-in-Object.ensures ∙ c.in-Object.members.ok.0))
