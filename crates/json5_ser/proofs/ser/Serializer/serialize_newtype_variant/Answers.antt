use Rattle.std.proofs.Common.{rules}
use Rattle.std.specs.Str.{chars}
use Rattle.json5_write.specs.WrittenTrees.{field, no_field, named}
use Rattle.json5_ser.proofs.CollectionsWritten.{object_refused, object_begun, field_on, field_refused, object_ended}
use Rattle.json5_ser.proofs.ser.Serializer.serialize_newtype_variant.Goals as goal

pub returns-in_err-fields : goal.returns-in_err-fields
returns-in_err-fields g c =
    let fs = field (named (chars c.args.variant.now)) (g.T.Serialize.tree c.args.value.now) no_field in
    object_refused fs _ _ _ _ (rw c.in_err-fields.was at c.serialize_map.follows.holds-at-none) c.from_residual.ensures.1

pub returns-in_err-serialize_field : goal.returns-in_err-serialize_field
returns-in_err-serialize_field g c =
    let fs = field (named (chars c.args.variant.now)) (g.T.Serialize.tree c.args.value.now) no_field in
    field_refused _ (object_begun fs c.in_ok-fields.ensures.begun) c.in_err-serialize_field.ensures c.from_residual-in_err-serialize_field.ensures.1 c.drop-fields.ensures (search rules)

pub returns : goal.returns
returns g c =
    let fs = field (named (chars c.args.variant.now)) (g.T.Serialize.tree c.args.value.now) no_field in
    object_ended _ _ (field_on (object_begun fs c.in_ok-fields.ensures.begun) c.in_ok-serialize_field.ensures) c.end.ensures (search rules)
