use Rattle.json5_fields.proofs.FieldsWritten.{one_written}
use Rattle.json5_fields.proofs.entries.GivenWrittenFields.write_into.Goals as goal

pub returns-in-Some : goal.returns-in-Some
returns-in-Some g c = rw c.in-Some.is (one_written c.args.self.now.0.now _ c.serialize_field.result c.requires c.serialize_field.ensures)
