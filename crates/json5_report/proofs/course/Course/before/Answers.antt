use Rattle.std.proofs.Common.{◌∷◌, [], refl, ap, subst}
use Rattle.std.specs.Str.{chars}
use Rattle.json5_tokens.specs.Cursor.{Cursor}
use Rattle.json5_report.specs.Paths.{whole}
use Rattle.json5_report.specs.Courses.{Turned, crumbs_onto}
use Rattle.json5_report.proofs.TokensTaken.{shorter, step_takes}
use Rattle.json5_report.proofs.CoursesTaken.{starts_on, goes_on}
use Rattle.json5_report.proofs.course.Course.before.Goals as goal

pub loop-course-init : goal.loop-course-init
loop-course-init c =
    starts_on c.args.offset _ (chars c.args.text.now) c.new-scanner.result (ap (λ (s : Cursor). s.input) c.new-scanner.ensures) (ap (λ (s : Cursor). s.unread) c.new-scanner.ensures) refl (ap (λ z. whole ∷ crumbs_onto [] z) c.new.ensures.items)

pub loop-course-smaller : goal.loop-course-smaller
loop-course-smaller c =
    let turned = subst (λ b. Turned c.args.offset c.loop-course.scanner c.loop-course.course c.turn.new.scanner c.turn.new.course b) c.if-not-branch.false c.in_ok-turn.ensures in
    shorter (step_takes turned.step)

pub loop-course-preserved : goal.loop-course-preserved
loop-course-preserved c =
    goes_on (chars c.args.text.now) c.args.offset c.loop-course.scanner c.turn.new.scanner c.loop-course.course c.turn.new.course c.loop-course.invariant (subst (λ b. Turned c.args.offset c.loop-course.scanner c.loop-course.course c.turn.new.scanner c.turn.new.course b) c.if-not-branch.false c.in_ok-turn.ensures)
