use Rattle.json5_schema.proofs.WholeOrders.{by_counts, second_below, first_below, both_below}
use Rattle.json5_schema.proofs.limits.are_in_order.Goals as goal

pub returns-in-Some-Some : goal.returns-in-Some-Some
returns-in-Some-Some c =
    let w = c.in-Some-Some in
    by_counts c.args.first c.args.second c.as_u128.result c.as_u128-2.result w.first w.second c.as_u128.ensures c.as_u128-2.ensures w.is-0 w.is-1

pub returns-in-Some-None : goal.returns-in-Some-None
returns-in-Some-None c =
    let w = c.in-Some-None in
    second_below c.args.first c.args.second c.as_u128.result c.as_u128-2.result w.field-0-0 c.as_u128.ensures c.as_u128-2.ensures w.is-0 w.is-1

pub returns-in-None-Some : goal.returns-in-None-Some
returns-in-None-Some c =
    let w = c.in-None-Some in
    first_below c.args.first c.args.second c.as_u128.result c.as_u128-2.result w.field-0-1 c.as_u128.ensures c.as_u128-2.ensures w.is-0 w.is-1

pub returns-in-None-None : goal.returns-in-None-None
returns-in-None-None c =
    let w = c.in-None-None in
    both_below c.args.first c.args.second c.as_u128.result c.as_u128-2.result c.as_i128.result c.as_i128-in-None-None.result c.unwrap_or.result c.unwrap_or-in-None-None.result c.as_u128.ensures c.as_u128-2.ensures w.is-0 w.is-1
    c.as_i128.ensures c.as_i128-in-None-None.ensures c.unwrap_or.ensures c.unwrap_or-in-None-None.ensures
