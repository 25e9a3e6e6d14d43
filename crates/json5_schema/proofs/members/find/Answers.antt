use Rattle.std.proofs.Common.{◌-◌, true, false, arith}
use Rattle.std.specs.Str.{chars}
use Rattle.json5_types.proofs.LookedUp.{same_key}
use Rattle.json5_schema.proofs.FoundLast.{last_here, none_here}
use Rattle.json5_schema.proofs.members.find.Goals as goal

pub returns-then-is_same : goal.returns-then-is_same
returns-then-is_same c =
    let l = c.loop-index in
    let f = c.index-members-index in
    let same = same_key c.as_str.result.now c.args.key.now f.result c.is_same.result true c.as_str.utf8 c.utf8.key c.as_str.ensures.value c.is_same.ensures c.if-is_same.true in
    last_here (chars c.args.key.now) c.args.members.now (l.index - 1) l.index f.result (omega arith) (omega arith) f.is l.invariant.1 same

pub loop-index-preserved : goal.loop-index-preserved
loop-index-preserved c =
    let l = c.loop-index in
    let f = c.index-members-index in
    let other = same_key c.as_str.result.now c.args.key.now f.result c.is_same.result false c.as_str.utf8 c.utf8.key c.as_str.ensures.value c.is_same.ensures c.if-is_same.false in
    (omega arith, none_here (chars c.args.key.now) c.args.members.now (l.index - 1) l.index f.result (omega arith) (omega arith) f.is l.invariant.1 other)
