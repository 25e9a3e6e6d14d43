use Rattle.std.proofs.Common.{rules, false, ◌<◌, ◌≤◌, length, ap, drop_of_length-le}
use Rattle.json5_grammar.specs.Language.Characters.{left_bracket, right_bracket}
use Rattle.json5_write.specs.WrittenTrees.{elements_of}
use Rattle.json5_write.specs.Out.{elements_out}
use Rattle.json5_ser.proofs.CollectionsWritten.{item_first}
use Rattle.json5_write.proofs.Commas.{left_first, elements_as, element_line_on, open_stop, element_stop, left_closed}
use Rattle.json5_ser.proofs.impls.lists.put_items.Goals as goal

pub returns-in_err-open_brackets : goal.returns-in_err-open_brackets
returns-in_err-open_brackets g c =
    let at = c.args.ser.now in
    open_stop left_bracket (elements_out at.limit (elements_of g.T.Serialize.tree c.args.items.now) at.depth false) at _ _ _ (rw c.ser.view_is at c.in_err-open_brackets.ensures.opens) c.from_residual.ensures.1

pub loop-item-init : goal.loop-item-init
loop-item-init g c = record { left = left_first left_bracket _ _ _ (rw c.ser.view_is at c.in_ok-open_brackets.ensures.opens) (rw c.ser.view_is at c.in_ok-open_brackets.ensures.deeper) }

pub returns-in_err-put_item : goal.returns-in_err-put_item
returns-in_err-put_item g c =
    let left : c.loop-item.item-index < length c.args.items.now = search rules in
    let next = elements_as c.loop-item.comma_due (ap (elements_of g.T.Serialize.tree) (item_first c.args.items.now c.loop-item.item-index c.item-item.result left c.item-item.is)) c.loop-item.invariant.left in
    element_stop _ _ _ _ _ c.loop-item.comma_due next c.in_err-put_item.ensures c.from_residual-in_err-put_item.ensures.1

pub loop-item-preserved : goal.loop-item-preserved
loop-item-preserved g c =
    let left : c.loop-item.item-index < length c.args.items.now = search rules in
    let next = elements_as c.loop-item.comma_due (ap (elements_of g.T.Serialize.tree) (item_first c.args.items.now c.loop-item.item-index c.item-item.result left c.item-item.is)) c.loop-item.invariant.left in
    record { left = element_line_on _ _ c.loop-item.comma_due next c.in_ok-put_item.ensures }

pub returns : goal.returns
returns g c =
    let none : length c.args.items.now ≤ c.loop-item.item-index = search rules in
    let last = elements_as c.loop-item.comma_due (ap (elements_of g.T.Serialize.tree) (drop_of_length-le c.args.items.now none)) c.loop-item.invariant.left in
    left_closed right_bracket _ _ c.loop-item.comma_due last (rw c.ser-2.view_is at c.close_brackets.ensures)
