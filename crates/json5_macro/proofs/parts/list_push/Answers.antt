use Rattle.std.proofs.Common.{ap, ◌∙◌}
use Rattle.json5_types.specs.ValueMeanings.{items_view}
use Rattle.json5_types.proofs.MembersPlaced.{pushed_last}
use Rattle.json5_macro.proofs.parts.list_push.Goals as goal

pub returns-clause-added : goal.returns-clause-added
returns-clause-added c = ap items_view c.in_ok-push.ensures.items ∙ pushed_last c.args.items.now.items c.args.item
