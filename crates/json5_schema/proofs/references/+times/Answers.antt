use Rattle.std.proofs.Common.{arith}
use Rattle.json5_types.proofs.ValuesCompared.{view-Object}
use Rattle.json5_schema.proofs.Refusing.{among_next, named_next}
use Rattle.json5_schema.proofs.references.+times.Goals as goal

pub times-returns-in-Object : goal.times-returns-in-Object
times-returns-in-Object t c = rw (c.in-Object.is, view-Object c.in-Object.members, ← c.deref-in-Object.ensures.value) c.times_named.ensures

pub times_among-loop-item-preserved : goal.times_among-loop-item-preserved
times_among-loop-item-preserved t c =
    let l = c.loop-item in
    among_next c.args.name.now c.args.text.now c.args.items.now l.item-index c.item-item.result l.count c.times.result c.saturating_add-count.result (omega (arith, c.loop-item-test.true)) c.item-item.is c.times.ensures (omega (arith, c.saturating_add-count.ensures)) l.invariant

pub times_among-returns : goal.times_among-returns
times_among-returns t c = omega (arith, c.loop-item.invariant)

pub times_named-loop-key-preserved : goal.times_named-loop-key-preserved
times_named-loop-key-preserved t c =
    let l = c.loop-key in
    named_next c.args.name.now c.args.text.now c.as_str.result.now c.args.members.now l.key-index c.loop-key-item.result l.count c.times_at.result c.saturating_add-count.result (omega (arith, c.loop-key-test.true)) c.loop-key-item.is c.as_str.ensures.value c.times_at.ensures (omega (arith, c.saturating_add-count.ensures)) l.invariant

pub times_named-returns : goal.times_named-returns
times_named-returns t c = omega (arith, c.loop-key.invariant)
