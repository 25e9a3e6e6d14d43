use Rattle.json5_schema.proofs.Refusing.{pattern_refused}
use Rattle.json5_schema.proofs.looking.compile.Goals as goal

pub returns-in-Err : goal.returns-in-Err
returns-in-Err c = pattern_refused c.args.text.now c.pattern_fault.result c.in-Err.error c.in-Err.ensures.read c.in-Err.ensures.kind c.pattern_fault.ensures
