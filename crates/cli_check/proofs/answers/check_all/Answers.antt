use Rattle.std.proofs.Common.{Some, None}
use Rattle.json5_schema.specs.Views.{schema_of}
use Rattle.cli_check.specs.Answers.{own, read, checks, no_schema}
use Rattle.cli_check.proofs.answers.check_all.Goals as goal

pub returns-in_default : goal.returns-in_default
returns-in_default g c = checks None (own c.in_default.is) c.check_names.ensures

pub returns-in-Ok : goal.returns-in-Ok
returns-in-Ok g c =
    checks (Some (schema_of c.in-Ok.schema)) (read c.in-Some.file (schema_of c.in-Ok.schema) c.in-Some.is (rw c.as_str.ensures.value at c.in-Ok.ensures)) c.check_names-in-Ok.ensures

pub returns-in-Err : goal.returns-in-Err
returns-in-Err g c = no_schema c.in-Some.file c.in-Err.trouble c.in-Some.is (rw c.as_str.ensures.value at c.in-Err.ensures)
