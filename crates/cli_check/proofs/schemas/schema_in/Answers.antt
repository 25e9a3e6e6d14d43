use Rattle.cli_check.proofs.SchemasTaken.{held_taken}
use Rattle.cli_check.proofs.schemas.schema_in.Goals as goal

pub returns-in-Ok : goal.returns-in-Ok
returns-in-Ok g c = held_taken c.args.options.now (g.R.Read.remaining c.args.r.now) c.in-Ok.bytes.items c.schema_of_bytes.result c.in-Ok.ensures.read c.schema_of_bytes.ensures
