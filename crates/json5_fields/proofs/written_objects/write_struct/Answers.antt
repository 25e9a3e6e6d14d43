use Rattle.std.proofs.Common.{rules}
use Rattle.json5_ser.specs.WrittenTrees.{no_field}
use Rattle.json5_ser.proofs.CollectionsWritten.{object_refused, object_begun, object_ended}
use Rattle.json5_fields.proofs.written_objects.write_struct.Goals as goal

pub returns-in_err-into : goal.returns-in_err-into
returns-in_err-into g c = object_refused (g.F.WrittenFields.add c.args.fields.now no_field) _ _ _ _ (rw c.in_err-into.was at c.serialize_map.follows.holds-at-none) c.from_residual.ensures.1

pub returns-in_err-write_into : goal.returns-in_err-write_into
returns-in_err-write_into g c =
    let all = object_begun (g.F.WrittenFields.add c.args.fields.now no_field) c.in_ok-into.ensures.begun in
    c.in_err-write_into.ensures.refused _ _ _ no_field all _ _ c.drop-into.ensures (search rules) _ c.from_residual-in_err-write_into.ensures.1

pub returns : goal.returns
returns g c =
    let all = object_begun (g.F.WrittenFields.add c.args.fields.now no_field) c.in_ok-into.ensures.begun in
    object_ended _ _ (c.in_ok-write_into.ensures.on _ _ _ no_field all) c.end.ensures (search rules)
