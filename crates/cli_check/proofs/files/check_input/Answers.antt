use Rattle.cli_check.specs.Checks.{given_schema}
use Rattle.cli_check.proofs.Judged.{input_judged, unread}
use Rattle.cli_check.proofs.files.check_input.Goals as goal

pub returns-in-Ok : goal.returns-in-Ok
returns-in-Ok g c =
    input_judged (g.S.Store.known c.args.store.now) (given_schema c.args.given) c.args.options.now c.args.name.now (g.R.Read.remaining c.args.r.now) c.in-Ok.bytes.items c.check_bytes.result
    c.in-Ok.ensures.read c.check_bytes.ensures

pub returns-in-Err : goal.returns-in-Err
returns-in-Err g c = unread (g.S.Store.known c.args.store.now) (given_schema c.args.given) c.args.options.now c.args.name.now (g.R.Read.remaining c.args.r.now) c.of_read.result c.of_read.ensures
