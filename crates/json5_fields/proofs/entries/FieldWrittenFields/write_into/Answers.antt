use Rattle.json5_fields.proofs.FieldsWritten.{one_written}
use Rattle.json5_fields.proofs.entries.FieldWrittenFields.write_into.Goals as goal

pub returns : goal.returns
returns g c = one_written c.args.self.now.0.now _ c.serialize_field.result c.requires c.serialize_field.ensures
