use Rattle.std.proofs.Common.{ap}
use Rattle.json5_grammar.specs.Model.ReadSteps.{forget, colon_after}
use Rattle.json5_grammar.specs.Model.ReadTexts.{key}
use Rattle.json5_read.specs.Brackets.{bracket_of}
use Rattle.json5_read.proofs.BuildKeys.{next_solid}
use Rattle.json5_read.proofs.EntryValues.{next_refused, next_closed, element_reached, name_refused, member_reached}
use Rattle.json5_read.proofs.ModelSteps.{first_refused, ready_next, then_step}
use Rattle.json5_read.proofs.entries.next_value.Goals as goal

pub returns-in_err-more : goal.returns-in_err-more
returns-in_err-more g c =
    rw c.from_residual.ensures (next_refused (bracket_of c.args.kind) c.args.comma_due c.args.scanner.now c.next_entry.new.scanner c.next_entry.new.fault c.in_err-more.ensures.refused c.in_err-more.ensures.same_text)

pub returns-then-not-more : goal.returns-then-not-more
returns-then-not-more g c = next_closed (bracket_of c.args.kind) c.args.comma_due c.in_ok-more.more c.args.scanner.now c.next_entry.new.scanner c.if-not-more.true c.in_ok-more.ensures.given

pub returns-in-Array : goal.returns-in-Array
returns-in-Array g c = element_reached (bracket_of c.args.kind) c.args.comma_due c.in_ok-more.more c.args.scanner.now c.next_entry.new.scanner (ap bracket_of c.in-Array.is) c.if-not-more.false c.in_ok-more.ensures.given

pub skip_key-requires-clause-ready : goal.skip_key-requires-clause-ready
skip_key-requires-clause-ready g c = ready_next c.args.scanner.now c.next_entry.new.scanner c.requires c.in_ok-more.ensures.given

pub skip_key-requires-clause-solid : goal.skip_key-requires-clause-solid
skip_key-requires-clause-solid g c = next_solid c.args.comma_due c.in_ok-more.more c.args.scanner.now.unread c.next_entry.new.scanner.unread (rw c.in-Object.is at c.in_ok-more.ensures.given.reads) c.if-not-more.false

pub returns-in_err-skip_key-in-Object : goal.returns-in_err-skip_key-in-Object
returns-in_err-skip_key-in-Object g c =
    let mid = c.next_entry.new.scanner in
    rw c.from_residual-in_err-skip_key-in-Object.ensures (name_refused (bracket_of c.args.kind) c.args.comma_due c.in_ok-more.more c.args.scanner.now mid (ap bracket_of c.in-Object.is) c.if-not-more.false c.in_ok-more.ensures.given
    c.skip_key.new.scanner c.skip_key.new.fault (first_refused mid (forget (key mid.unread)) (λ u r. colon_after r) c.skip_key.new.fault c.in_err-skip_key-in-Object.ensures.refused) c.in_err-skip_key-in-Object.ensures.same_text)

pub skip_colon-requires : goal.skip_colon-requires
skip_colon-requires g c = ready_next c.next_entry.new.scanner c.skip_key.new.scanner (ready_next c.args.scanner.now c.next_entry.new.scanner c.requires c.in_ok-more.ensures.given) c.in_ok-skip_key-in-Object.ensures.given

pub returns-in_err-skip_colon-in-Object : goal.returns-in_err-skip_colon-in-Object
returns-in_err-skip_colon-in-Object g c =
    let mid = c.next_entry.new.scanner in
    let s = then_step mid c.skip_key.new.scanner c.skip_colon.new.scanner (forget (key mid.unread)) tt (λ u r. colon_after r) _ c.in_ok-skip_key-in-Object.ensures.given c.in_err-skip_colon-in-Object.ensures in
    rw c.from_residual-in_err-skip_colon-in-Object.ensures (name_refused (bracket_of c.args.kind) c.args.comma_due c.in_ok-more.more c.args.scanner.now mid (ap bracket_of c.in-Object.is) c.if-not-more.false c.in_ok-more.ensures.given
    c.skip_colon.new.scanner c.skip_colon.new.fault s.refused s.same_text)

pub returns-in_ok-skip_colon-in-Object : goal.returns-in_ok-skip_colon-in-Object
returns-in_ok-skip_colon-in-Object g c =
    let mid = c.next_entry.new.scanner in
    let s = then_step mid c.skip_key.new.scanner c.skip_colon.new.scanner (forget (key mid.unread)) tt (λ u r. colon_after r) _ c.in_ok-skip_key-in-Object.ensures.given c.in_ok-skip_colon-in-Object.ensures in
    member_reached (bracket_of c.args.kind) c.args.comma_due c.in_ok-more.more c.args.scanner.now mid (ap bracket_of c.in-Object.is) c.if-not-more.false c.in_ok-more.ensures.given
    c.skip_colon.new.scanner tt s.given
