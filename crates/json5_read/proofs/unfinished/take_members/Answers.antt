use Rattle.std.proofs.Common.{◌∙◌, inr}
use Rattle.json5_read.proofs.BuildKeys.{entry_refused, key_refused, colon_refused, next_solid}
use Rattle.json5_read.proofs.TakenMembers.{reached_ready, key_reached, text_lacks, object_ended, name_refused, value_refused, memory_lost, bracket_left, member_taken, members_down}
use Rattle.json5_read.proofs.ModelSteps.{ready_next}
use Rattle.json5_read.proofs.unfinished.take_members.Goals as goal

pub returns-in_err-more : goal.returns-in_err-more
returns-in_err-more g c =
    let l = c.loop-more in
    let k = c.in_err-more.ensures in
    rw c.from_residual.ensures (name_refused c.args.comma_due c.args.members.now.items c.args.scanner.now l.members.items l.due l.scanner l.invariant c.next_entry.new.scanner c.next_entry.new.fault (inr (entry_refused l.due l.scanner c.next_entry.new.fault k.refused)) k.same_text)

pub returns-then-not-more : goal.returns-then-not-more
returns-then-not-more g c =
    let l = c.loop-more in
    object_ended c.args.comma_due c.args.members.now.items c.args.scanner.now l.members.items l.due l.scanner l.invariant c.in_ok-more.more c.next_entry.new.scanner c.if-not-more.true c.in_ok-more.ensures.given

pub take_key-requires-clause-ready : goal.take_key-requires-clause-ready
take_key-requires-clause-ready g c = ready_next c.loop-more.scanner c.next_entry.new.scanner c.loop-more.invariant.ready c.in_ok-more.ensures.given

pub take_key-requires-clause-solid : goal.take_key-requires-clause-solid
take_key-requires-clause-solid g c = next_solid c.loop-more.due c.in_ok-more.more c.loop-more.scanner.unread c.next_entry.new.scanner.unread c.in_ok-more.ensures.given.reads c.if-not-more.false

pub returns-in_err-key : goal.returns-in_err-key
returns-in_err-key g c =
    let l = c.loop-more in
    let mid = c.next_entry.new.scanner in
    let e = c.take_key.new.fault in
    let k = c.in_err-key.ensures in
    rw c.from_residual-in_err-key.ensures (name_refused c.args.comma_due c.args.members.now.items c.args.scanner.now l.members.items l.due l.scanner l.invariant c.take_key.new.scanner e
    (key_refused l.due l.scanner c.in_ok-more.more mid c.if-not-more.false c.in_ok-more.ensures.given e k.refused) (k.same_text ∙ c.in_ok-more.ensures.given.took.same))

pub skip_colon-requires : goal.skip_colon-requires
skip_colon-requires g c = let (a, found, k) = c.in_ok-key.ensures.given in ready_next c.next_entry.new.scanner c.take_key.new.scanner (ready_next c.loop-more.scanner c.next_entry.new.scanner c.loop-more.invariant.ready c.in_ok-more.ensures.given) k

pub returns-in_err-skip_colon : goal.returns-in_err-skip_colon
returns-in_err-skip_colon g c =
    let l = c.loop-more in
    let mid = c.next_entry.new.scanner in
    let last = c.take_key.new.scanner in
    let e = c.skip_colon.new.fault in
    let (a, found, k) = c.in_ok-key.ensures.given in
    let b = c.in_err-skip_colon.ensures in
    rw c.from_residual-in_err-skip_colon.ensures (name_refused c.args.comma_due c.args.members.now.items c.args.scanner.now l.members.items l.due l.scanner l.invariant c.skip_colon.new.scanner e
    (inr (colon_refused l.due l.scanner c.in_ok-more.more mid c.if-not-more.false c.in_ok-more.ensures.given last a k e b.refused)) (b.same_text ∙ k.took.same ∙ c.in_ok-more.ensures.given.took.same))

pub begin_value-requires : goal.begin_value-requires
begin_value-requires g c =
    let l = c.loop-more in
    reached_ready l.due c.in_ok-key.key l.scanner c.skip_colon.new.scanner l.invariant.ready
    (key_reached l.due c.in_ok-more.more c.in_ok-key.key l.scanner c.next_entry.new.scanner c.take_key.new.scanner c.skip_colon.new.scanner tt c.if-not-more.false c.in_ok-more.ensures.given c.in_ok-key.ensures.given c.in_ok-skip_colon.ensures.given)

pub returns-in_err-next : goal.returns-in_err-next
returns-in_err-next g c =
    let l = c.loop-more in
    let r = key_reached l.due c.in_ok-more.more c.in_ok-key.key l.scanner c.next_entry.new.scanner c.take_key.new.scanner c.skip_colon.new.scanner tt c.if-not-more.false c.in_ok-more.ensures.given c.in_ok-key.ensures.given c.in_ok-skip_colon.ensures.given in
    rw c.from_residual-in_err-next.ensures (value_refused c.args.comma_due c.args.members.now.items c.args.scanner.now l.members.items l.due l.scanner l.invariant c.in_ok-key.key c.skip_colon.new.scanner c.begin_value.new.scanner r c.begin_value.new.fault c.in_err-next.ensures)

pub returns-in_err-text : goal.returns-in_err-text
returns-in_err-text g c =
    let l = c.loop-more in
    let r = key_reached l.due c.in_ok-more.more c.in_ok-key.key l.scanner c.next_entry.new.scanner c.take_key.new.scanner c.skip_colon.new.scanner tt c.if-not-more.false c.in_ok-more.ensures.given c.in_ok-key.ensures.given c.in_ok-skip_colon.ensures.given in
    let same = c.in_ok-next.ensures.same_text in
    rw c.from_residual-in_err-text.ensures (memory_lost c.args.comma_due c.args.members.now.items c.args.scanner.now l.members.items l.due l.scanner l.invariant c.in_ok-key.key c.skip_colon.new.scanner c.begin_value.new.scanner r l.members.items c.own_key.new.fault
    (text_lacks l.due c.in_ok-key.key l.scanner c.skip_colon.new.scanner c.begin_value.new.scanner c.own_key.new.fault r same c.in_err-text.ensures).kind same)

pub returns-in_err-add_entry-in-Ended : goal.returns-in_err-add_entry-in-Ended
returns-in_err-add_entry-in-Ended g c =
    let l = c.loop-more in
    let r = key_reached l.due c.in_ok-more.more c.in_ok-key.key l.scanner c.next_entry.new.scanner c.take_key.new.scanner c.skip_colon.new.scanner tt c.if-not-more.false c.in_ok-more.ensures.given c.in_ok-key.ensures.given c.in_ok-skip_colon.ensures.given in
    rw c.from_residual-in_err-add_entry-in-Ended.ensures (memory_lost c.args.comma_due c.args.members.now.items c.args.scanner.now l.members.items l.due l.scanner l.invariant c.in_ok-key.key c.skip_colon.new.scanner c.begin_value.new.scanner r c.add_entry.new.entries.items c.add_entry.new.fault
    c.in_err-add_entry-in-Ended.ensures.kind c.in_ok-next.ensures.same_text)

pub returns-in-Opens : goal.returns-in-Opens
returns-in-Opens g c =
    let l = c.loop-more in
    let r = key_reached l.due c.in_ok-more.more c.in_ok-key.key l.scanner c.next_entry.new.scanner c.take_key.new.scanner c.skip_colon.new.scanner tt c.if-not-more.false c.in_ok-more.ensures.given c.in_ok-key.ensures.given c.in_ok-skip_colon.ensures.given in
    bracket_left c.args.comma_due c.args.members.now.items c.args.scanner.now l.members.items l.due l.scanner l.invariant c.in_ok-key.key c.skip_colon.new.scanner c.begin_value.new.scanner r c.in_ok-text.text c.in-Opens.kind c.in_ok-text.ensures (rw c.in-Opens.is at c.in_ok-next.ensures.begun)

pub loop-more-smaller : goal.loop-more-smaller
loop-more-smaller g c =
    let l = c.loop-more in
    let r = key_reached l.due c.in_ok-more.more c.in_ok-key.key l.scanner c.next_entry.new.scanner c.take_key.new.scanner c.skip_colon.new.scanner tt c.if-not-more.false c.in_ok-more.ensures.given c.in_ok-key.ensures.given c.in_ok-skip_colon.ensures.given in
    members_down c.args.comma_due c.args.members.now.items c.args.scanner.now l.members.items l.due l.scanner l.invariant c.in_ok-key.key c.skip_colon.new.scanner c.begin_value.new.scanner r c.in-Ended.value (rw c.in-Ended.is at c.in_ok-next.ensures.begun)

pub loop-more-preserved : goal.loop-more-preserved
loop-more-preserved g c =
    let l = c.loop-more in
    let r = key_reached l.due c.in_ok-more.more c.in_ok-key.key l.scanner c.next_entry.new.scanner c.take_key.new.scanner c.skip_colon.new.scanner tt c.if-not-more.false c.in_ok-more.ensures.given c.in_ok-key.ensures.given c.in_ok-skip_colon.ensures.given in
    member_taken c.args.comma_due c.args.members.now.items c.args.scanner.now l.members.items l.due l.scanner l.invariant c.in_ok-key.key c.skip_colon.new.scanner c.begin_value.new.scanner r c.in-Ended.value (rw c.in-Ended.is at c.in_ok-next.ensures.begun)
    c.in_ok-text.text c.add_entry.new.entries.items c.in_ok-text.ensures c.in_ok-add_entry-in-Ended.ensures
