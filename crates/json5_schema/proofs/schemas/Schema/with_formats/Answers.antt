use Rattle.std.proofs.Common.{false}
use Rattle.json5_types.specs.ValueMeanings.{value_of}
use Rattle.json5_schema.proofs.Refusing.{as_refused}
use Rattle.json5_schema.proofs.schemas.Schema.with_formats.Goals as goal

pub returns-clause-refused : goal.returns-clause-refused
returns-clause-refused c = as_refused c.of.result false (value_of c.args.value.now) _ _ c.in_ok-with_formats.ensures c.of.ensures.refused
