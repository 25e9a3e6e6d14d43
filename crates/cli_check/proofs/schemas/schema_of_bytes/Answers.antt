use Rattle.std.proofs.Common.{sym, true≢false}
use Rattle.cli_check.proofs.SchemasTaken.{no_text}
use Rattle.cli_check.proofs.schemas.schema_of_bytes.Goals as goal

pub returns-in-Err : goal.returns-in-Err
returns-in-Err c = no_text c.args.bytes.items c.because.result (λ utf8. true≢false (sym (c.in-Err.ensures.succeeds utf8))) c.because.ensures
