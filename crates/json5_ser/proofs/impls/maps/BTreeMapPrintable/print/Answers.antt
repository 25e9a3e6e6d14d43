use Rattle.std.proofs.Common.{sym, ap, ◌≡◌, false}
use Rattle.json5_grammar.specs.Language.Characters.{left_brace, right_brace}
use Rattle.json5_write.specs.WrittenTrees.{fields_of}
use Rattle.json5_write.specs.Out.{fields_out}
use Rattle.json5_write.proofs.Commas.{open_stop, left_first, fields_as, member_line_on, member_stop, left_closed}
use Rattle.json5_ser.proofs.impls.maps.BTreeMapPrintable.print.Goals as goal

pub returns-in_err-open_brackets : goal.returns-in_err-open_brackets
returns-in_err-open_brackets g c =
    let at = c.args.ser.now in
    open_stop left_brace (fields_out at.limit (fields_of g.K.SerializeKey.as_key g.V.Serialize.tree c.args.self.now.entries) at.depth false) at _ _ _ (rw c.ser.view_is at c.in_err-open_brackets.ensures.opens) c.from_residual.ensures.1

pub loop-key-init : goal.loop-key-init
loop-key-init g c =
    let all : c.into_iter-key-iterator.result ≡ c.args.self.now.entries = c.into_iter-key-iterator.ensures.into_iter_gives.0 in
    record { left = fields_as false (ap (fields_of g.K.SerializeKey.as_key g.V.Serialize.tree) (sym all)) (left_first left_brace _ _ _ (rw c.ser.view_is at c.in_ok-open_brackets.ensures.opens) (rw c.ser.view_is at c.in_ok-open_brackets.ensures.deeper)) }

pub returns-in_err-put_member : goal.returns-in_err-put_member
returns-in_err-put_member g c =
    let next = fields_as c.loop-key.comma_due (ap (fields_of g.K.SerializeKey.as_key g.V.Serialize.tree) c.in-Some.ensures.steps) c.loop-key.invariant.left in
    member_stop _ _ _ _ _ _ c.loop-key.comma_due next c.in_err-put_member.ensures c.from_residual-in_err-put_member.ensures.1

pub loop-key-preserved : goal.loop-key-preserved
loop-key-preserved g c =
    let next = fields_as c.loop-key.comma_due (ap (fields_of g.K.SerializeKey.as_key g.V.Serialize.tree) c.in-Some.ensures.steps) c.loop-key.invariant.left in
    record { left = member_line_on _ _ _ c.loop-key.comma_due next c.in_ok-put_member.ensures }

pub returns : goal.returns
returns g c =
    let last = fields_as c.loop-key.comma_due (ap (fields_of g.K.SerializeKey.as_key g.V.Serialize.tree) c.in-None.ensures.steps.0) c.loop-key.invariant.left in
    left_closed right_brace _ _ c.loop-key.comma_due last (rw c.ser-2.view_is at c.close_brackets.ensures)
