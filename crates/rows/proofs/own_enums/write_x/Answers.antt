use Rattle.std.proofs.Common.{rules}
use Rattle.std.specs.Prelude.{codes}
use Rattle.std.specs.Str.{chars}
use Rattle.json5.proofs.CollectionsWritten.{variant_list_refused, variant_list_begun, element_on, element_refused, list_ended}
use Rattle.rows.specs.OwnEnums.{x_elements}
use Rattle.rows.proofs.own_enums.write_x.Goals as goal

pub returns-in_err-list : goal.returns-in_err-list
returns-in_err-list g c = variant_list_refused (chars (codes "X")) (x_elements c.args.first.now c.args.second.now) _ _ _ _ (rw c.in_err-list.was at c.serialize_tuple_variant.follows.holds-at-none) c.from_residual.ensures.1

pub returns-in_err-serialize_element : goal.returns-in_err-serialize_element
returns-in_err-serialize_element g c = element_refused _ (variant_list_begun (chars (codes "X")) (x_elements c.args.first.now c.args.second.now) c.in_ok-list.ensures.begun) c.in_err-serialize_element.ensures c.from_residual-in_err-serialize_element.ensures.1 c.drop-list.ensures (search rules)

pub returns-in_err-serialize_element-2 : goal.returns-in_err-serialize_element-2
returns-in_err-serialize_element-2 g c = element_refused _ (element_on (variant_list_begun (chars (codes "X")) (x_elements c.args.first.now c.args.second.now) c.in_ok-list.ensures.begun) c.in_ok-serialize_element.ensures) c.in_err-serialize_element-2.ensures c.from_residual-in_err-serialize_element-2.ensures.1 c.drop-list-in_err-serialize_element-2.ensures (search rules)

pub returns : goal.returns
returns g c = list_ended _ _ (element_on (element_on (variant_list_begun (chars (codes "X")) (x_elements c.args.first.now c.args.second.now) c.in_ok-list.ensures.begun) c.in_ok-serialize_element.ensures) c.in_ok-serialize_element-2.ensures) c.end.ensures (search rules)
