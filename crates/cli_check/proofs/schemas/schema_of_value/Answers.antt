use Rattle.std.proofs.Common.{subst}
use Rattle.cli_check.specs.SchemaSteps.{TakesDrafted}
use Rattle.cli_check.proofs.schemas.schema_of_value.Goals as goal

pub returns-in-Ok : goal.returns-in-Ok
returns-in-Ok c = subst (λ x. TakesDrafted c.args.options.now x c.schema_drafted.result) c.in-Ok.ensures c.schema_drafted.ensures
