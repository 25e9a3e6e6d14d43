use Rattle.cli_check.proofs.SchemasTaken.{elsewhere, named_taken}
use Rattle.cli_check.proofs.choosing.schema_named.Goals as goal

pub returns-in-Ok-Some : goal.returns-in-Ok-Some
returns-in-Ok-Some g c =
    named_taken (g.S.Store.known c.args.store.now) c.args.options.now c.args.name.now c.args.schema.now c.as_str.result.now c.read_schema.result
    (rw c.as_str.ensures.value (rw c.as_slice.ensures.value at (rw c.in-Ok-Some.field-0-is at c.in-Ok-Some.ensures))) c.read_schema.ensures

pub returns-in-Ok-None : goal.returns-in-Ok-None
returns-in-Ok-None g c =
    elsewhere (g.S.Store.known c.args.store.now) c.args.options.now c.args.name.now c.args.schema.now c.because.result (rw c.as_slice.ensures.value at (rw c.in-Ok-None.field-0-is at c.in-Ok-None.ensures)) c.because.ensures
