use Rattle.std.proofs.Common.{refl}
use Rattle.json5_fields.proofs.EnumsRead.{call_read, call_refused}
use Rattle.json5_fields.proofs.variants.NoContentEnumVariants.read_content.Goals as goal

pub returns-in-Ok : goal.returns-in-Ok
returns-in-Ok g c = call_read refl c.in-Ok.ensures

pub returns-in-Err : goal.returns-in-Err
returns-in-Err g c = call_refused c.in-Err.ensures
