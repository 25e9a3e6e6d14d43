use Rattle.std.proofs.Common.{Some, refl}
use Rattle.json5_schema.specs.Views.{schema_of}
use Rattle.json5_types.specs.ValueMeanings.{value_of}
use Rattle.cli_check.proofs.Judged.{value_judged}
use Rattle.cli_check.proofs.files.check_value.Goals as goal

pub returns-in-Some : goal.returns-in-Some
returns-in-Some g c =
    let s = schema_of c.in-Some.schema.now in
    rw c.in-Some.is
    (value_judged (g.S.Store.known c.args.store.now) (Some s) c.args.options.now c.args.source.name.now s (value_of c.args.value.now) c.judge.result refl c.judge.ensures)

pub returns-in-None : goal.returns-in-None
returns-in-None g c = rw c.in-None.is c.check_by_own.ensures
