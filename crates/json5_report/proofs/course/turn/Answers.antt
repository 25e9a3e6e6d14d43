use Rattle.std.proofs.Common.{sym, subst}
use Rattle.std.specs.Prelude.{IfOk}
use Rattle.json5_tokens.specs.Cursor.{offset_of}
use Rattle.json5_report.specs.Courses.{AtMost, Turned, crumb_of}
use Rattle.json5_report.proofs.CoursesTaken.{rests_in_blanks, turned_after, turned_after_ok, counted_after}
use Rattle.json5_report.proofs.course.turn.Goals as goal

pub returns-in-Err : goal.returns-in-Err
returns-in-Err c = rests_in_blanks _ _ _ c.in-Err.ensures.refused

pub returns-in-Some : goal.returns-in-Some
returns-in-Some c = let (w, took, gap, solid) = c.in-Ok.ensures.passed in turned_after _ _ _ w took gap solid _ _ _ _ c.in-Some.ensures

pub enter-requires-clause-counted : goal.enter-requires-clause-counted
enter-requires-clause-counted c =
    let (w, took, gap, solid) = c.in-Ok.ensures.passed in
    subst (λ z. AtMost (offset_of z) (crumb_of c.close.new.course.inner)) (sym c.in-None.ensures.same)
    (subst (λ z. AtMost (offset_of c.skip_blank.new.self) (crumb_of z.inner)) (sym c.in-None.ensures.same_course) (counted_after _ _ _ w took c.requires))

pub returns-in-None : goal.returns-in-None
returns-in-None c =
    let (w, took, gap, solid) = c.in-Ok.ensures.passed in
    turned_after_ok _ _ _ w took gap solid _ _ _ c.enter.result
    (subst (λ z. IfOk c.enter.result (Turned c.args.offset z c.args.course.now c.enter.new.scanner c.enter.new.course)) c.in-None.ensures.same
    (subst (λ z. IfOk c.enter.result (Turned c.args.offset c.close.new.scanner z c.enter.new.scanner c.enter.new.course)) c.in-None.ensures.same_course c.enter.ensures))
