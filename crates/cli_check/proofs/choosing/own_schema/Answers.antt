use Rattle.std.proofs.Common.{sym}
use Rattle.json5_types.specs.ValueMeanings.{value_of}
use Rattle.cli_check.proofs.SchemasTaken.{own_taken, unnamed}
use Rattle.cli_check.proofs.choosing.own_schema.Goals as goal

pub returns-in-Some : goal.returns-in-Some
returns-in-Some g c =
    own_taken (g.S.Store.known c.args.store.now) c.args.options.now c.args.name.now c.in-Some.schema.now (value_of c.args.value.now) c.schema_named.result (sym c.in-Some.ensures) c.schema_named.ensures

pub returns-in-None : goal.returns-in-None
returns-in-None g c =
    unnamed (g.S.Store.known c.args.store.now) c.args.options.now c.args.name.now (value_of c.args.value.now) c.because.result (sym c.in-None.ensures) c.because.ensures
