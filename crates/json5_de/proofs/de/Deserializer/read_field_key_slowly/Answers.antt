use Rattle.std.proofs.Common.{Err}
use Rattle.json5_de.specs.FieldKeys.{field_key_text}
use Rattle.json5_de.specs.Convert.{every_text}
use Rattle.json5_de.specs.KeyKinds.{RefusedAsKey, string_key}
use Rattle.json5_de.proofs.MemberRefusals.{no_entry, no_entry_free}
use Rattle.json5_de.proofs.de.Deserializer.read_field_key_slowly.Goals as goal

pub returns-in-Ok-true : goal.returns-in-Ok-true
returns-in-Ok-true g c = c.read_entry_field_key.ensures c.args.comma_due c.args.self.now (rw c.in-Ok-true.field-0-test at c.in-Ok-true.ensures.sound)

pub returns-in-Err : goal.returns-in-Err
returns-in-Err g c = record {
  key = no_entry field_key_text every_text (RefusedAsKey string_key) c.args.comma_due c.args.self.now c.advance_to_entry.new.self c.in-Err.e c.in-Err.ensures;
  no_memory = no_entry_free c.args.comma_due c.args.self.now c.advance_to_entry.new.self (Err c.in-Err.e) c.in-Err.e c.in-Err.ensures;
  begins = tt;
}
