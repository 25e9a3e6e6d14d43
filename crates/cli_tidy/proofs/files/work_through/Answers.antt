use Rattle.cli_tidy.specs.Names.{none}
use Rattle.cli_tidy.proofs.NamesWorked.{one_name_more, stops_there, goes_more, goes_through}
use Rattle.cli_tidy.proofs.files.work_through.Goals as goal

pub loop-name-init : goal.loop-name-init
loop-name-init g c = none

pub returns-then-not-goes_on : goal.returns-then-not-goes_on
returns-then-not-goes_on g c =
    rw c.max-status.ensures
    (stops_there (g.S.Store.known c.args.store.now) c.args.request.now _ _ c.deref-name-items.result.now c.loop-name.name-index _ _ _ _ c.deref-name-items.ensures.value c.if-not-goes_on.true
    (one_name_more (g.S.Store.known c.args.store.now) c.args.request.now _ _ c.deref-name-items.result.now c.loop-name.name-index _ _ _ _ _ _ _ c.name-item.result c.as_str.result.now c.loop-name-test.true c.name-item.is c.as_str.ensures.value c.loop-name.invariant c.work_below-met.ensures))

pub loop-name-preserved : goal.loop-name-preserved
loop-name-preserved g c =
    rw c.max-status.ensures
    (goes_more (g.S.Store.known c.args.store.now) c.args.request.now _ _ c.deref-name-items.result.now c.loop-name.name-index _ _ _ _ _ _ _ c.name-item.result c.as_str.result.now c.loop-name-test.true c.name-item.is c.as_str.ensures.value c.if-not-goes_on.false c.loop-name.invariant c.work_below-met.ensures)

pub returns : goal.returns
returns g c =
    goes_through (g.S.Store.known c.args.store.now) c.args.request.now _ _ c.deref-name-items.result.now c.loop-name.name-index _ _ _ c.deref-name-items.ensures.value c.loop-name-test.false c.loop-name.invariant
