use Rattle.std.specs.Str.{chars}
use Rattle.json5_types.proofs.MembersPlaced.{removed_all}
use Rattle.json5_types.proofs.value_changes.remove_named.Goals as goal

pub returns-clause-left : goal.returns-clause-left
returns-clause-left c =
    removed_all (chars c.args.key.now) c.loop.fields.items c.remove_last.new.fields.items c.args.fields.now.items c.remove_last.result c.is_some.result c.is_some.ensures c.if-is_some.false c.remove_last.ensures.found c.remove_last.ensures.same c.loop.invariant
