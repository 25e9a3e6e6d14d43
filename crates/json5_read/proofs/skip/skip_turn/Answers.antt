use Rattle.json5_read.specs.declared.skip.Turn.TheVariants as turns
use Rattle.json5_read.proofs.SkipTurns.{turn_refused, value_refused, turn_taken, gave_more}
use Rattle.json5_read.proofs.ModelSteps.{ready_next}
use Rattle.json5_read.proofs.skip.skip_turn.Goals as goal

pub returns-in_err-more : goal.returns-in_err-more
returns-in_err-more g c =
    rw c.from_residual.ensures (turn_refused c.args.kind c.args.comma_due c.args.room c.args.scanner.now c.next_value.new.scanner c.next_value.new.fault c.in_err-more.ensures.refused c.in_err-more.ensures.same_text)

pub returns-then-not-more : goal.returns-then-not-more
returns-then-not-more g c =
    turn_taken c.args.kind c.args.comma_due c.args.room c.args.scanner.now c.next_value.new.scanner turns.Closed (gave_more c.args.kind c.args.comma_due c.in_ok-more.more c.args.scanner.now c.next_value.new.scanner _ c.if-not-more.true c.in_ok-more.ensures.given)

pub skip_or_open-requires : goal.skip_or_open-requires
skip_or_open-requires g c = ready_next c.args.scanner.now c.next_value.new.scanner c.requires c.in_ok-more.ensures.given

pub returns-in_err-bracket : goal.returns-in_err-bracket
returns-in_err-bracket g c =
    rw c.from_residual-in_err-bracket.ensures (value_refused c.args.kind c.args.comma_due c.in_ok-more.more c.args.room c.args.scanner.now c.next_value.new.scanner c.skip_or_open.new.scanner c.skip_or_open.new.fault c.if-not-more.false c.in_ok-more.ensures.given
    c.in_err-bracket.ensures.refused c.in_err-bracket.ensures.same_text)

pub returns-in-Some : goal.returns-in-Some
returns-in-Some g c =
    turn_taken c.args.kind c.args.comma_due c.args.room c.args.scanner.now c.skip_or_open.new.scanner (turns.Opened c.in-Some.bracket)
    (c.next_value.new.scanner, gave_more c.args.kind c.args.comma_due c.in_ok-more.more c.args.scanner.now c.next_value.new.scanner _ c.if-not-more.false c.in_ok-more.ensures.given, rw c.in-Some.is at c.in_ok-bracket.ensures.begun)

pub returns-in-None : goal.returns-in-None
returns-in-None g c =
    turn_taken c.args.kind c.args.comma_due c.args.room c.args.scanner.now c.skip_or_open.new.scanner turns.Ended
    (c.next_value.new.scanner, gave_more c.args.kind c.args.comma_due c.in_ok-more.more c.args.scanner.now c.next_value.new.scanner _ c.if-not-more.false c.in_ok-more.ensures.given, rw c.in-None.is at c.in_ok-bracket.ensures.begun)
