use Rattle.json5_de.proofs.VariantBrackets.{content_ended, content_not_ended}
use Rattle.json5_read.specs.Brackets.{brackets_of}
use Rattle.json5_de.proofs.ObjectMembers.{signs_of}
use Rattle.json5_de.proofs.de.Deserializer.close_content.Goals as goal

pub returns-in-Ok : goal.returns-in-Ok
returns-in-Ok g c = content_ended (brackets_of c.args.kind) (signs_of c.args.kind) c.args.comma_due c.args.brace c.args.self.now c.close_or_fail.new.self c.close_or_fail-in-Ok.new.self c.close_or_fail-in-Ok.result c.in-Ok.ensures c.close_or_fail-in-Ok.ensures

pub returns-in-Err : goal.returns-in-Err
returns-in-Err g c = content_not_ended (brackets_of c.args.kind) (signs_of c.args.kind) c.args.comma_due c.args.brace c.args.self.now c.close_or_fail.new.self c.in-Err.e c.with_position_at.result c.in-Err.ensures c.with_position_at.ensures
