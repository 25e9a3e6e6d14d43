use Rattle.std.proofs.Common.{◌<◌, ◌≤◌, ◌∷◌, [], ◌∙◌, None, refl, subst}
use Rattle.std.specs.Prelude.{◌==◌}
use Rattle.json5_grammar.specs.Language.Characters.{NotBegun}
use Rattle.json5_tokens.specs.Cursor.{Took}
use Rattle.json5_read.specs.ModelSteps.{Gave, RefusesRead, value_at}
use Rattle.json5_walk.specs.declared.next.Next.TheVariants as next
use Rattle.json5_report.specs.Paths.{element, member, value, array, object}
use Rattle.json5_report.specs.Courses.{crumb_of, open_in}
use Rattle.json5_report.proofs.CoursesTaken.{rests, rests_later, past_sign, opened, eaten, advances, no_value, value_left, passed}
use Rattle.json5_report.proofs.course.take_value.Goals as goal

pub returns-then-offset : goal.returns-then-offset
returns-then-offset c =
    let took = c.if-eat.ensures.taken refl in
    rests_later c.args.offset c.args.scanner.now c.eat.new.self c.args.course.now (subst (λ n. c.args.offset < n) c.offset.ensures.counted c.if-offset.true) took.same
    (past_sign c.args.scanner.now c.eat.new.self c.args.course.now 91 took)

pub returns-then-eat : goal.returns-then-eat
returns-then-eat c =
    let took = c.if-eat.ensures.taken refl in
    opened c.args.offset c.args.scanner.now c.eat.new.self c.args.course.now c.open_bracket.new.course next.Element (element 0) c.open_bracket.result
    (array c.requires.due (eaten c.args.scanner.now c.eat.new.self 91 took)) (subst (λ n. n ≤ c.args.offset) c.offset.ensures.counted c.if-offset.false) took.same c.open_bracket.ensures

pub returns-then-offset-2 : goal.returns-then-offset-2
returns-then-offset-2 c =
    let took = subst (λ s. Took s (123 ∷ []) c.eat-2.new.self) (c.if-eat.ensures.kept refl).0 (c.if-eat-2.ensures.taken refl) in
    rests_later c.args.offset c.args.scanner.now c.eat-2.new.self c.args.course.now (subst (λ n. c.args.offset < n) c.offset-then-eat-2.ensures.counted c.if-offset-2.true) took.same
    (past_sign c.args.scanner.now c.eat-2.new.self c.args.course.now 123 took)

pub returns-then-eat-2 : goal.returns-then-eat-2
returns-then-eat-2 c =
    let took = subst (λ s. Took s (123 ∷ []) c.eat-2.new.self) (c.if-eat.ensures.kept refl).0 (c.if-eat-2.ensures.taken refl) in
    opened c.args.offset c.args.scanner.now c.eat-2.new.self c.args.course.now c.open_bracket-then-eat-2.new.course next.Key (member None) c.open_bracket-then-eat-2.result
    (object c.requires.due (eaten c.args.scanner.now c.eat-2.new.self 123 took)) (subst (λ n. n ≤ c.args.offset) c.offset-then-eat-2.ensures.counted c.if-offset-2.false) took.same c.open_bracket-then-eat-2.ensures

pub returns-in-Err : goal.returns-in-Err
returns-in-Err c =
    let a = c.if-eat.ensures.kept refl in
    let b = c.if-eat-2.ensures.kept refl in
    rests c.args.offset c.args.scanner.now c.args.course.now
    (no_value c.args.scanner.now c.args.course.now c.requires.solid c.requires.not_closed c.requires.due a.1 (subst (λ s. NotBegun (λ h. h == 123) s.unread) a.0 b.1)
    (subst (λ s. RefusesRead s.input (value_at 128 s) c.in-Err.field-0) (b.0 ∙ a.0) c.in-Err.ensures.refused))

pub returns-then-offset-3 : goal.returns-then-offset-3
returns-then-offset-3 c =
    let a = c.if-eat.ensures.kept refl in
    let b = c.if-eat-2.ensures.kept refl in
    let gave = subst (λ s. Gave (value_at 128 s) tt s c.skip_value.new.scanner) (b.0 ∙ a.0) c.in-Ok.ensures.given in
    rests_later c.args.offset c.args.scanner.now c.skip_value.new.scanner c.args.course.now (subst (λ n. c.args.offset < n) c.offset-2.ensures.counted c.if-offset-3.true) gave.took.same
    (value_left c.args.scanner.now c.args.course.now c.requires.solid c.requires.not_closed c.skip_value.new.scanner c.requires.due a.1 (subst (λ s. NotBegun (λ h. h == 123) s.unread) a.0 b.1) gave)

pub returns : goal.returns
returns c =
    let a = c.if-eat.ensures.kept refl in
    let b = c.if-eat-2.ensures.kept refl in
    let gave = subst (λ s. Gave (value_at 128 s) tt s c.skip_value.new.scanner) (b.0 ∙ a.0) c.in-Ok.ensures.given in
    let (tree, reads) = passed c.args.scanner.now c.skip_value.new.scanner gave in
    advances c.args.offset c.args.scanner.now c.skip_value.new.scanner c.args.course.now _ next.Comma (open_in c.args.course.now)
    (value tree c.requires.due reads) refl refl (subst (λ n. n ≤ c.args.offset) c.offset-2.ensures.counted c.if-offset-3.false) gave.took.same
