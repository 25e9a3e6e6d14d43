use Rattle.std.proofs.Common.{sym}
use Rattle.json5_types.proofs.ValuesCounted.{items_counted}
use Rattle.json5_schema.proofs.limits.elements_len.Goals as goal

pub returns : goal.returns
returns c = sym (items_counted c.args.items.now)
