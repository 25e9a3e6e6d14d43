use Rattle.std.proofs.Common.{subst}
use Rattle.std.specs.Prelude.{Some, Err}
use Rattle.json5_types.specs.ValueMeanings.{value_of}
use Rattle.cli_check.specs.Schemas.{TakesHeld}
use Rattle.cli_check.proofs.SchemasTaken.{no_document, text_taken}
use Rattle.cli_check.proofs.schemas.schema_of_text.Goals as goal

pub returns-in-Ok : goal.returns-in-Ok
returns-in-Ok c =
    let read = c.in-Ok.ensures.sound in
    subst (λ b. TakesHeld c.args.options.now (Some b) c.schema_of_value.result) c.as_str-2.ensures.value
    (text_taken c.args.options.now c.as_str-2.result.now (value_of c.in-Ok.value) read.0 c.schema_of_value.result c.as_str-2.utf8 read.1 read.2 c.schema_of_value.ensures)

pub returns : goal.returns
returns c =
    subst (λ b. TakesHeld c.args.options.now (Some b) (Err c.refuse.result)) c.as_str-2.ensures.value
    (no_document c.as_str-2.result.now c.in-Err.error c.refuse.result c.in-Err.ensures.complete c.refuse.ensures)
