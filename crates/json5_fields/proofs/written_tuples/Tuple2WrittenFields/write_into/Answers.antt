use Rattle.json5_fields.proofs.FieldsWritten.{then_written, first_refused}
use Rattle.json5_fields.proofs.written_tuples.Tuple2WrittenFields.write_into.Goals as goal

pub returns-in_err-write_into : goal.returns-in_err-write_into
returns-in_err-write_into g c = first_refused (g.A.WrittenFields.add c.args.self.now.0) (g.B.WrittenFields.add c.args.self.now.1) _ c.from_residual.result c.from_residual.ensures.1 c.in_err-write_into.ensures

pub returns : goal.returns
returns g c = then_written (g.A.WrittenFields.add c.args.self.now.0) (g.B.WrittenFields.add c.args.self.now.1) c.write_into-2.result c.in_ok-write_into.ensures c.write_into-2.ensures
