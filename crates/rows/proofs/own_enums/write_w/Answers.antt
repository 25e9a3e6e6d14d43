use Rattle.std.proofs.Common.{rules}
use Rattle.std.specs.Prelude.{codes}
use Rattle.std.specs.Str.{chars}
use Rattle.json5.proofs.CollectionsWritten.{variant_object_refused, variant_object_begun, field_on, field_refused, object_ended}
use Rattle.rows.specs.OwnEnums.{w_fields}
use Rattle.rows.proofs.own_enums.write_w.Goals as goal

pub returns-in_err-fields : goal.returns-in_err-fields
returns-in_err-fields g c = variant_object_refused (chars (codes "W")) (w_fields c.args.a.now c.args.b.now) _ _ _ _ (rw c.in_err-fields.was at c.serialize_struct_variant.follows.holds-at-none) c.from_residual.ensures.1

pub returns-in_err-serialize_field : goal.returns-in_err-serialize_field
returns-in_err-serialize_field g c = field_refused _ (variant_object_begun (chars (codes "W")) (w_fields c.args.a.now c.args.b.now) c.in_ok-fields.ensures.begun) c.in_err-serialize_field.ensures c.from_residual-in_err-serialize_field.ensures.1 c.drop-fields.ensures (search rules)

pub returns-in_err-serialize_field-2 : goal.returns-in_err-serialize_field-2
returns-in_err-serialize_field-2 g c = field_refused _ (field_on (variant_object_begun (chars (codes "W")) (w_fields c.args.a.now c.args.b.now) c.in_ok-fields.ensures.begun) c.in_ok-serialize_field.ensures) c.in_err-serialize_field-2.ensures c.from_residual-in_err-serialize_field-2.ensures.1 c.drop-fields-in_err-serialize_field-2.ensures (search rules)

pub returns : goal.returns
returns g c = object_ended _ _ (field_on (field_on (variant_object_begun (chars (codes "W")) (w_fields c.args.a.now c.args.b.now) c.in_ok-fields.ensures.begun) c.in_ok-serialize_field.ensures) c.in_ok-serialize_field-2.ensures) c.end.ensures (search rules)
