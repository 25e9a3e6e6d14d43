use Rattle.std.proofs.Common.{◌≡◌, ◌∙◌, arith}
use Rattle.std.proofs.lemmas.Int.{ints, to_z-of_z}
use mir.Syntax.{w128}
use mir.Val.{to_z, of_z}
use Rattle.json5_types.specs.declared.cow_str.CowStr.TheVariants as cow
use Rattle.json5.proofs.RefsRead.{short_decimal, short_text, short_whole}
use Rattle.json5.proofs.value_ref_walks.short_value.Goals as goal

pub returns-in-Some : goal.returns-in-Some
returns-in-Some c = short_text (cow.Borrowed c.in-Some.text) c.in-Some.ensures

pub returns-in-Some-short_whole : goal.returns-in-Some-short_whole
returns-in-Some-short_whole c =
    let k = c.in-Some-short_whole.ensures in
    let low = k.low in
    let high = k.high in
    let z = c.in-Some-short_whole.number in
    let stored : to_z w128 (of_z w128 z) ≡ z = to_z-of_z w128 z (omega (arith, ints, low, high)) in
    short_whole _ _ z c.from_i128.result c.in_default.ensures (c.from_i128.ensures ∙ stored) k

pub returns-in-Some-short_decimal : goal.returns-in-Some-short_decimal
returns-in-Some-short_decimal c = short_decimal c.in-Some-short_decimal.number (c.in_default-short_whole.ensures ∙ c.in_default.ensures) c.in-Some-short_decimal.ensures
