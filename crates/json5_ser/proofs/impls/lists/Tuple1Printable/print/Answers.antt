use Rattle.std.proofs.Common.{true, false}
use Rattle.json5_grammar.specs.Language.Characters.{left_bracket, right_bracket}
use Rattle.json5_write.specs.WrittenTrees.{element, no_element}
use Rattle.json5_write.specs.Out.{elements_out}
use Rattle.json5_write.proofs.Commas.{left_first, element_line_on, open_stop, element_stop, left_closed}
use Rattle.json5_ser.proofs.impls.lists.Tuple1Printable.print.Goals as goal

pub returns-in_err-open_brackets : goal.returns-in_err-open_brackets
returns-in_err-open_brackets g c =
    let at = c.args.ser.now in
    let one = g.A.Serialize.tree c.args.self.now.0 in
    open_stop left_bracket (elements_out at.limit (element one no_element) at.depth false) at _ _ _ (rw c.ser.view_is at c.in_err-open_brackets.ensures.opens) c.from_residual.ensures.1

pub returns-in_err-put_item : goal.returns-in_err-put_item
returns-in_err-put_item g c =
    let at = c.args.ser.now in
    let one = g.A.Serialize.tree c.args.self.now.0 in
    let opened = left_first left_bracket (elements_out at.limit (element one no_element) at.depth false) _ _ (rw c.ser.view_is at c.in_ok-open_brackets.ensures.opens) (rw c.ser.view_is at c.in_ok-open_brackets.ensures.deeper) in
    element_stop _ _ one no_element _ false opened c.in_err-put_item.ensures c.from_residual-in_err-put_item.ensures.1

pub returns : goal.returns
returns g c =
    let at = c.args.ser.now in
    let one = g.A.Serialize.tree c.args.self.now.0 in
    let opened = left_first left_bracket (elements_out at.limit (element one no_element) at.depth false) _ _ (rw c.ser.view_is at c.in_ok-open_brackets.ensures.opens) (rw c.ser.view_is at c.in_ok-open_brackets.ensures.deeper) in
    let after_one = element_line_on one no_element false opened c.in_ok-put_item.ensures in
    left_closed right_bracket _ _ true after_one (rw c.ser-2.view_is at c.close_brackets.ensures)
