use Rattle.cli_check.specs.Checks.{given_schema}
use Rattle.cli_check.specs.Names.{none}
use Rattle.cli_check.proofs.NamesChecked.{one_name_more, goes_more, stops_there, goes_through}
use Rattle.cli_check.proofs.names.check_names.Goals as goal

pub loop-name-init : goal.loop-name-init
loop-name-init g c = none

pub returns-then-not-goes_on : goal.returns-then-not-goes_on
returns-then-not-goes_on g c =
    let known = g.S.Store.known c.args.store.now in
    let given = given_schema c.args.given in
    let input = g.R.Read.remaining c.args.r.now in
    let names = c.deref-name-items.result.now in
    rw c.max-status.ensures
    (stops_there known given c.args.options.now input names c.loop-name.name-index _ _ _ c.deref-name-items.ensures.value c.if-not-goes_on.true
    (one_name_more known given c.args.options.now input names c.loop-name.name-index _ _ _ _ _ c.name-item.result c.as_str.result.now c.loop-name-test.true c.name-item.is c.as_str.ensures.value c.loop-name.invariant c.check_below-met.ensures))

pub loop-name-preserved : goal.loop-name-preserved
loop-name-preserved g c =
    rw c.max-status.ensures
    (goes_more (g.S.Store.known c.args.store.now) (given_schema c.args.given) c.args.options.now (g.R.Read.remaining c.args.r.now) c.deref-name-items.result.now c.loop-name.name-index _ _ _ _ _ c.name-item.result c.as_str.result.now
    c.loop-name-test.true c.name-item.is c.as_str.ensures.value c.if-not-goes_on.false c.loop-name.invariant c.check_below-met.ensures)

pub returns : goal.returns
returns g c =
    goes_through (g.S.Store.known c.args.store.now) (given_schema c.args.given) c.args.options.now (g.R.Read.remaining c.args.r.now) c.deref-name-items.result.now c.loop-name.name-index _ _
    c.deref-name-items.ensures.value c.loop-name-test.false c.loop-name.invariant
