use Rattle.std.proofs.Common.{◌<◌, ◌≤◌, length, drop_of_length-le, sym, ap, ◌∙◌, rules}
use Rattle.json5_types.specs.ValueMeanings.{items_view}
use Rattle.json5_styles.specs.Writable.{items_are_plain}
use Rattle.json5_styles.proofs.WritableLists.{next_plain, kept, lost}
use Rattle.json5_styles.proofs.json_values.are_plain.Goals as goal

pub loop-item-preserved : goal.loop-item-preserved
loop-item-preserved c =
    let l = c.loop-item in
    let left : l.item-index < length c.args.items.now = search rules in
    kept _ _ _ (next_plain c.args.items.now l.item-index c.item-item.result left c.item-item.is) (sym c.is_plain.ensures ∙ c.if-not-is_plain.false) ∙ l.invariant

pub returns-then-not-is_plain : goal.returns-then-not-is_plain
returns-then-not-is_plain c =
    let l = c.loop-item in
    let left : l.item-index < length c.args.items.now = search rules in
    sym (sym l.invariant ∙ lost _ _ _ (next_plain c.args.items.now l.item-index c.item-item.result left c.item-item.is) (sym c.is_plain.ensures ∙ c.if-not-is_plain.true))

pub returns : goal.returns
returns c =
    let l = c.loop-item in
    let none : length c.args.items.now ≤ l.item-index = search rules in
    sym (sym l.invariant ∙ ap (λ x. items_are_plain (items_view x)) (drop_of_length-le c.args.items.now none))
