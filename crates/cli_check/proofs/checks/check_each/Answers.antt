use Rattle.std.proofs.Common.{refl}
use Rattle.cli_check.specs.Checks.{none, given_schema}
use Rattle.cli_check.proofs.FilesChecked.{one_more, stops, ends}
use Rattle.cli_check.proofs.checks.check_each.Goals as goal

pub loop-name-init : goal.loop-name-init
loop-name-init g c = none

pub returns-then-is_failed_write : goal.returns-then-is_failed_write
returns-then-is_failed_write g c =
    rw (c.max-status.ensures, c.status_of.ensures)
    (stops (g.S.Store.known c.args.store.now) (given_schema c.args.given) c.args.options.now (g.R.Read.remaining c.args.r.now) c.args.names.now c.loop-name.name-index c.loop-name.status _ _ c.name-item.result c.as_str.result.now c.check_file-judged.result
    c.loop-name-test.true c.name-item.is c.as_str.ensures.value c.loop-name.invariant c.check_file-judged.ensures (c.if-is_failed_write.ensures.yes refl))

pub loop-name-preserved : goal.loop-name-preserved
loop-name-preserved g c =
    rw (c.max-status.ensures, c.status_of.ensures)
    (one_more (g.S.Store.known c.args.store.now) (given_schema c.args.given) c.args.options.now (g.R.Read.remaining c.args.r.now) c.args.names.now c.loop-name.name-index c.loop-name.status _ _ c.name-item.result c.as_str.result.now c.check_file-judged.result
    c.loop-name-test.true c.name-item.is c.as_str.ensures.value c.loop-name.invariant c.check_file-judged.ensures (c.if-is_failed_write.ensures.no refl))

pub returns : goal.returns
returns g c =
    ends (g.S.Store.known c.args.store.now) (given_schema c.args.given) c.args.options.now (g.R.Read.remaining c.args.r.now) c.args.names.now c.loop-name.name-index c.loop-name.status _ c.loop-name-test.false c.loop-name.invariant
