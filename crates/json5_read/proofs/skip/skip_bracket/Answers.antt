use Rattle.std.proofs.Common.{[], ◌∷◌, length, ap, refl, arith, length-append}
use Rattle.json5_read.proofs.SkipTurns.{within_start, bracket_refused, whole_closed, closed_within, value_passed, passed_less, bracket_within, opened_less}
use Rattle.json5_read.proofs.skip.skip_bracket.Goals as goal

pub loop-comma_due-init : goal.loop-comma_due-init
loop-comma_due-init g c = within_start c.args.room c.args.outermost c.new-brackets.result _ c.args.scanner.now c.new-brackets.ensures refl c.requires.ready c.requires.place

pub loop-comma_due-smaller-in-Some-Ended : goal.loop-comma_due-smaller-in-Some-Ended
loop-comma_due-smaller-in-Some-Ended g c =
    let l = c.loop-comma_due in
    let less = passed_less c.args.room c.args.outermost l.bracket l.brackets l.comma_due l.left c.args.scanner.now l.scanner l.invariant c.skip_turn.new.scanner (rw c.in-Some-Ended.field-0-is at c.in-Some-Ended.ensures.goes) in
    omega (arith, less)

pub loop-comma_due-preserved-in-Some-Ended : goal.loop-comma_due-preserved-in-Some-Ended
loop-comma_due-preserved-in-Some-Ended g c =
    let l = c.loop-comma_due in
    value_passed c.args.room c.args.outermost l.bracket l.brackets l.comma_due l.left c.args.scanner.now l.scanner l.invariant c.skip_turn.new.scanner (rw c.in-Some-Ended.field-0-is at c.in-Some-Ended.ensures.goes)

pub loop-comma_due-smaller-in-Some-Opened : goal.loop-comma_due-smaller-in-Some-Opened
loop-comma_due-smaller-in-Some-Opened g c =
    let l = c.loop-comma_due in
    let less = opened_less c.args.room c.args.outermost l.bracket l.brackets l.comma_due l.left c.args.scanner.now l.scanner l.invariant c.in-Some-Opened.inner c.skip_turn.new.scanner (rw c.in-Some-Opened.field-0-is at c.in-Some-Opened.ensures.goes) in
    omega (arith, less, ap length c.push.ensures, length-append l.brackets (l.bracket ∷ []))

pub loop-comma_due-preserved-in-Some-Opened : goal.loop-comma_due-preserved-in-Some-Opened
loop-comma_due-preserved-in-Some-Opened g c =
    let l = c.loop-comma_due in
    bracket_within c.args.room c.args.outermost l.bracket l.brackets l.comma_due l.left c.args.scanner.now l.scanner l.invariant c.in-Some-Opened.inner c.push.new.self _ c.skip_turn.new.scanner (rw c.in-Some-Opened.field-0-is at c.in-Some-Opened.ensures.goes) c.push.ensures refl

pub returns-in_default : goal.returns-in_default
returns-in_default g c =
    let l = c.loop-comma_due in
    whole_closed c.args.room c.args.outermost l.bracket l.brackets l.comma_due l.left c.args.scanner.now l.scanner l.invariant c.skip_turn.new.scanner (rw c.in-Some-Closed.field-0-is at c.in-Some-Closed.ensures.goes) c.in_default.ensures.none

pub loop-comma_due-preserved : goal.loop-comma_due-preserved
loop-comma_due-preserved g c =
    let l = c.loop-comma_due in
    closed_within c.args.room c.args.outermost l.bracket l.brackets l.comma_due l.left c.args.scanner.now l.scanner l.invariant c.pop.new.self c.in-Some.outer _ c.skip_turn.new.scanner (rw c.in-Some-Closed.field-0-is at c.in-Some-Closed.ensures.goes) c.in-Some.ensures.items refl

pub returns-in-None : goal.returns-in-None
returns-in-None g c =
    let l = c.loop-comma_due in
    bracket_refused c.args.room c.args.outermost l.bracket l.brackets l.comma_due l.left c.args.scanner.now l.scanner l.invariant c.skip_turn.new.scanner c.skip_turn.new.fault c.place_fault.new.fault
    c.in-None.ensures.refused c.in-None.ensures.same_text c.place_fault.ensures
