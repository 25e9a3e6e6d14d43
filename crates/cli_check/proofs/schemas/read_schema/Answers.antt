use Rattle.cli_check.proofs.SchemasTaken.{file_taken, unopened}
use Rattle.cli_check.proofs.schemas.read_schema.Goals as goal

pub returns-in-Ok : goal.returns-in-Ok
returns-in-Ok g c = file_taken (g.S.Store.known c.args.store.now) c.args.options.now c.args.file.now _ c.schema_in.result (g.met.S.Store.knows_opening _ _ _ c.in-Ok.ensures) c.schema_in.ensures

pub returns-in-Err : goal.returns-in-Err
returns-in-Err g c = unopened (g.S.Store.known c.args.store.now) c.args.file.now c.because.result (g.met.S.Store.knows_opening _ _ _ c.in-Err.ensures) c.because.ensures
