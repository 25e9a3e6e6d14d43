use Rattle.std.proofs.Common.{rules}
use Rattle.std.specs.Prelude.{string_bytes}
use Rattle.cli_edit.proofs.PartsRead.{lines_more}
use Rattle.cli_edit.proofs.parts.keys_of.Goals as goal

pub loop-field-preserved : goal.loop-field-preserved
loop-field-preserved c =
    lines_more c.loop-field.field-index c.in-Some.fields.now _ c.field-item.result (string_bytes c.loop-field.made) (string_bytes c.push_line.new.made) c.loop-field-test.true c.loop-field.invariant c.field-item.is (search rules)
