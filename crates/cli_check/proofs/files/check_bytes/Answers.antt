use Rattle.std.proofs.Common.{sym, true≢false}
use Rattle.cli_check.specs.Checks.{given_schema}
use Rattle.cli_check.proofs.Judged.{no_text}
use Rattle.cli_check.proofs.files.check_bytes.Goals as goal

pub returns-in-Err : goal.returns-in-Err
returns-in-Err g c =
    no_text (g.S.Store.known c.args.store.now) (given_schema c.args.given) c.args.options.now c.args.name.now c.args.bytes.items c.told.result
    (λ utf8. true≢false (sym (c.in-Err.ensures.succeeds utf8))) c.told.ensures
