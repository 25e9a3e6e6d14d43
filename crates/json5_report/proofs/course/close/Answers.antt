use Rattle.std.proofs.Common.{◌<◌, ◌≤◌, ◌∷◌, [], refl, ap, sym, ◌∙◌, subst}
use Rattle.json5_report.specs.Courses.{crumb_of, crumbs_onto}
use Rattle.json5_report.proofs.CoursesTaken.{rests, rests_later, past_sign, closed, none_popped, unclosable}
use Rattle.json5_report.proofs.course.close.Goals as goal

pub returns-then-offset : goal.returns-then-offset
returns-then-offset c =
    let took = c.if-not-eat.ensures.taken refl in
    rests_later c.args.offset c.args.scanner.now c.eat.new.self c.args.course.now (subst (λ n. c.args.offset < n) c.offset.ensures.counted c.if-offset.true) took.same (past_sign c.args.scanner.now c.eat.new.self c.args.course.now c.in_ok-sign.sign took)

pub returns-in_default : goal.returns-in_default
returns-in_default c =
    let took = c.if-not-eat.ensures.taken refl in
    let (old, left) = none_popped c.args.course.now.outer.items c.pop.new.self.items _ _ refl c.in_default.ensures.items c.in_default.ensures.rest c.in_default.ensures.cases.0 in
    let none = rests c.args.offset c.args.scanner.now c.args.course.now (unclosable c.args.scanner.now c.eat.new.self c.args.course.now c.in_ok-sign.sign (sym c.in_ok-sign.ensures) took old) in
    record { same_due = refl; same_open = ap (λ z. crumb_of c.args.course.now.inner ∷ crumbs_onto [] z) (left ∙ sym old); last = none.last }

pub returns : goal.returns
returns c =
    closed _ c.args.scanner.now c.eat.new.self c.args.course.now _ c.in-Some.inner c.pop.new.self.items c.in_ok-sign.sign (sym c.in_ok-sign.ensures) (c.if-not-eat.ensures.taken refl)
    (subst (λ n. n ≤ c.args.offset) c.offset.ensures.counted c.if-offset.false) c.in-Some.ensures.items refl refl
