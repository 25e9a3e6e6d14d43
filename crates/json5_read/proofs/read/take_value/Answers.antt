use Rattle.std.proofs.Common.{◌∙◌, arith}
use Rattle.std.proofs.lemmas.List.{nil_from_length}
use Rattle.json5_read.specs.BuildSteps.{start_of, value_in_at}
use Rattle.json5_read.specs.OwnedReads.{datum_at}
use Rattle.json5_read.proofs.BuildValues.{starts_building, not_begun, turn_not_read, value_read, ended_inside, member_not_read}
use Rattle.json5_read.proofs.read.take_value.Goals as goal

pub returns-in_err-next : goal.returns-in_err-next
returns-in_err-next g c = rw c.from_residual.ensures (not_begun c.args.room c.args.scanner.now c.begin_value.new.scanner c.begin_value.new.fault c.in_err-next.ensures)

pub loop-next-init : goal.loop-next-init
loop-next-init g c = starts_building c.args.room c.new-stack.result.items c.args.scanner.now c.begin_value.new.scanner c.in_ok-next.next c.new-stack.ensures.items c.requires c.in_ok-next.ensures.begun

pub open_value-requires-clause-ready : goal.open_value-requires-clause-ready
open_value-requires-clause-ready g c = c.loop-next.invariant.0.ready

pub open_value-requires-clause-sign : goal.open_value-requires-clause-sign
open_value-requires-clause-sign g c = rw c.in-Opens.is at c.loop-next.invariant.1

pub returns-in_err-next-in-Opens : goal.returns-in_err-next-in-Opens
returns-in_err-next-in-Opens g c =
    let l = c.loop-next in
    rw c.from_residual-in_err-next-in-Opens.ensures (turn_not_read c.args.room c.in-Opens.kind c.args.scanner.now l.scanner c.open_value.new.scanner l.stack.items c.open_value.new.stack.items c.open_value.new.fault (rw c.in-Opens.is at l.invariant.0) l.invariant.2 c.in_err-next-in-Opens.ensures)

pub loop-next-preserved-in-Opens : goal.loop-next-preserved-in-Opens
loop-next-preserved-in-Opens g c =
    let l = c.loop-next in
    let t = c.in_ok-next-in-Opens.ensures in
    (t.goes (datum_at c.args.room c.args.scanner.now) (rw c.in-Opens.is at l.invariant.0), t.front, t.same_text ∙ l.invariant.2)

pub returns-in_default : goal.returns-in_default
returns-in_default g c =
    let l = c.loop-next in
    value_read c.args.room c.args.scanner.now l.scanner l.stack.items c.in-Ended.value (nil_from_length l.stack.items (let none = c.in_default.ensures.cases.0 in omega (arith, l.stack.ok, none))) l.invariant.2 (rw c.in-Ended.is at l.invariant.0)

pub returns-in_err-next-in-Ended : goal.returns-in_err-next-in-Ended
returns-in_err-next-in-Ended g c =
    let old = c.args.scanner.now in
    let l = c.loop-next in
    let f = c.in-Some.unfinished in
    let (q, inside) = ended_inside c.args.room (datum_at c.args.room old) l.scanner l.stack.items c.pop.new.self.items f c.in-Ended.value c.in-Some.ensures.items (rw c.in-Ended.is at l.invariant.0) in
    rw c.from_residual-in_err-next-in-Ended.ensures (member_not_read c.args.room old l.scanner c.attach_value.new.scanner c.pop.new.self.items (start_of f) (value_in_at f c.in-Ended.value l.scanner) q c.attach_value.new.fault inside l.invariant.2
    c.in_err-next-in-Ended.ensures.refused c.in_err-next-in-Ended.ensures.same_text)

pub loop-next-preserved : goal.loop-next-preserved
loop-next-preserved g c =
    let old = c.args.scanner.now in
    let l = c.loop-next in
    let f = c.in-Some.unfinished in
    let (q, inside) = ended_inside c.args.room (datum_at c.args.room old) l.scanner l.stack.items c.pop.new.self.items f c.in-Ended.value c.in-Some.ensures.items (rw c.in-Ended.is at l.invariant.0) in
    let t = c.in_ok-next-in-Ended.ensures in
    (t.goes c.args.room (datum_at c.args.room old) q inside, t.front, t.same_text ∙ l.invariant.2)
