use Rattle.std.proofs.Common.{rules}
use Rattle.json5.proofs.CollectionsWritten.{object_refused, object_begun, field_on, field_refused, object_ended}
use Rattle.rows.specs.OwnStructs.{config_fields}
use Rattle.rows.proofs.own_structs.ConfigSerialize.serialize.Goals as goal

pub returns-in_err-fields : goal.returns-in_err-fields
returns-in_err-fields g c = object_refused (config_fields c.args.self.now) _ _ _ _ (rw c.in_err-fields.was at c.serialize_struct.follows.holds-at-none) c.from_residual.ensures.1

pub returns-in_err-serialize_field : goal.returns-in_err-serialize_field
returns-in_err-serialize_field g c =
    let all = object_begun (config_fields c.args.self.now) c.in_ok-fields.ensures.begun in
    field_refused _ all c.in_err-serialize_field.ensures c.from_residual-in_err-serialize_field.ensures.1 c.drop-fields.ensures (search rules)

pub returns-in_err-serialize_field-2 : goal.returns-in_err-serialize_field-2
returns-in_err-serialize_field-2 g c =
    let bar = field_on (object_begun (config_fields c.args.self.now) c.in_ok-fields.ensures.begun) c.in_ok-serialize_field.ensures in
    field_refused _ bar c.in_err-serialize_field-2.ensures c.from_residual-in_err-serialize_field-2.ensures.1 c.drop-fields-in_err-serialize_field-2.ensures (search rules)

pub returns : goal.returns
returns g c =
    let bar = field_on (object_begun (config_fields c.args.self.now) c.in_ok-fields.ensures.begun) c.in_ok-serialize_field.ensures in
    object_ended _ _ (field_on bar c.in_ok-serialize_field-2.ensures) c.end.ensures (search rules)
