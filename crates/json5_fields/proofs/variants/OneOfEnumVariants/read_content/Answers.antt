use Rattle.std.proofs.Common.{refl, rules}
use Rattle.json5_fields.proofs.EnumsRead.{first_read, first_refused, later_read, later_refused}
use Rattle.json5_fields.proofs.variants.OneOfEnumVariants.read_content.Goals as goal

pub returns-in-Ok : goal.returns-in-Ok
returns-in-Ok g c = first_read g.A.EnumVariants.convert g.B.EnumVariants.convert g.A.EnumVariants.faults g.B.EnumVariants.faults (search rules) refl c.in-Ok.ensures

pub returns-in-Err : goal.returns-in-Err
returns-in-Err g c = first_refused g.A.EnumVariants.convert g.B.EnumVariants.convert g.A.EnumVariants.faults g.B.EnumVariants.faults (search rules) c.in-Err.ensures

pub returns-in-Ok-read_content : goal.returns-in-Ok-read_content
returns-in-Ok-read_content g c = later_read g.A.EnumVariants.convert g.B.EnumVariants.convert g.A.EnumVariants.faults g.B.EnumVariants.faults (search rules) refl c.in-Ok-read_content.ensures

pub returns-in-Err-read_content : goal.returns-in-Err-read_content
returns-in-Err-read_content g c = later_refused g.A.EnumVariants.convert g.B.EnumVariants.convert g.A.EnumVariants.faults g.B.EnumVariants.faults (search rules) c.in-Err-read_content.ensures
