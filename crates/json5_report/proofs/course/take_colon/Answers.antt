use Rattle.std.proofs.Common.{◌≤◌, refl, sym, subst}
use Rattle.json5_walk.specs.declared.next.Next.TheVariants as next
use Rattle.json5_report.specs.Paths.{Step, colon}
use Rattle.json5_report.specs.Courses.{open_in}
use Rattle.json5_report.proofs.CoursesTaken.{rests, no_colon, advances, eaten}
use Rattle.json5_report.proofs.course.take_colon.Goals as goal

pub returns-then-not-eat : goal.returns-then-not-eat
returns-then-not-eat c = rests c.args.offset c.args.scanner.now c.args.course.now (no_colon c.args.scanner.now c.args.course.now c.requires.solid c.requires.due (c.if-not-eat.ensures.kept refl).1)

pub returns : goal.returns
returns c =
    let took = c.if-not-eat.ensures.taken refl in
    let old = open_in c.args.course.now in
    advances c.args.offset c.args.scanner.now c.eat.new.self c.args.course.now _ next.Value old
    (subst (λ z. Step z old c.args.scanner.now.unread next.Value old c.eat.new.self.unread) (sym c.requires.due) (colon (eaten c.args.scanner.now c.eat.new.self 58 took)))
    refl refl (subst (λ n. n ≤ c.args.offset) c.offset.ensures.counted c.if-offset.false) took.same
