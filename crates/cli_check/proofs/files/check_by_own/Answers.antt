use Rattle.std.proofs.Common.{None, refl}
use Rattle.json5_schema.specs.Views.{schema_of}
use Rattle.json5_types.specs.ValueMeanings.{value_of}
use Rattle.cli_check.proofs.Judged.{value_judged}
use Rattle.cli_check.proofs.files.check_by_own.Goals as goal

pub returns-in-Ok : goal.returns-in-Ok
returns-in-Ok g c =
    value_judged (g.S.Store.known c.args.store.now) None c.args.options.now c.args.source.name.now (schema_of c.in-Ok.schema) (value_of c.args.value.now) c.judge.result c.in-Ok.ensures c.judge.ensures

pub returns-in-Err : goal.returns-in-Err
returns-in-Err g c = (refl, c.in-Err.ensures)
