use Rattle.std.proofs.Common.{◌≡◌, ◌≤◌, ◌+◌, ◌∷◌, [], ◌∙◌, None, refl, ap, sym, subst}
use Rattle.json5_walk.specs.declared.next.Next.TheVariants as next
use Rattle.json5_report.specs.Paths.{Step, element, member, next_element, next_member}
use Rattle.json5_report.specs.Courses.{shown_crumb, crumbs_onto, open_in}
use Rattle.json5_report.proofs.CoursesTaken.{rests, no_comma, advances, eaten, object_crumb}
use Rattle.json5_report.proofs.course.take_comma.Goals as goal

pub returns-then-not-eat : goal.returns-then-not-eat
returns-then-not-eat c = rests c.args.offset c.args.scanner.now c.args.course.now (no_comma c.args.scanner.now c.args.course.now c.requires.solid c.requires.not_closed c.requires.due (c.if-not-eat.ensures.kept refl).1)

pub returns-in-Array : goal.returns-in-Array
returns-in-Array c =
    let took = c.if-not-eat.ensures.taken refl in
    let left = crumbs_onto [] c.args.course.now.outer.items in
    let new = element (c.in-Array.index + 1) ∷ left in
    let was : open_in c.args.course.now ≡ element c.in-Array.index ∷ left = ap (λ z. shown_crumb z ∷ left) c.in-Array.is in
    advances c.args.offset c.args.scanner.now c.eat.new.self c.args.course.now _ next.Element new
    (subst (λ z. Step z (open_in c.args.course.now) c.args.scanner.now.unread next.Element new c.eat.new.self.unread) (sym c.requires.due)
    (subst (λ o. Step next.Comma o c.args.scanner.now.unread next.Element new c.eat.new.self.unread) (sym was) (next_element (eaten c.args.scanner.now c.eat.new.self 44 took))))
    refl refl (subst (λ n. n ≤ c.args.offset) c.offset.ensures.counted c.if-offset.false) took.same

pub returns-in-Object : goal.returns-in-Object
returns-in-Object c =
    let took = c.if-not-eat.ensures.taken refl in
    let left = crumbs_onto [] c.args.course.now.outer.items in
    let new = member None ∷ left in
    let (k, is) = object_crumb c.in-Object.field-0 in
    let was : open_in c.args.course.now ≡ member k ∷ left = ap (λ z. shown_crumb z ∷ left) c.in-Object.is ∙ ap (λ z. z ∷ left) is in
    advances c.args.offset c.args.scanner.now c.eat.new.self c.args.course.now _ next.Key new
    (subst (λ z. Step z (open_in c.args.course.now) c.args.scanner.now.unread next.Key new c.eat.new.self.unread) (sym c.requires.due)
    (subst (λ o. Step next.Comma o c.args.scanner.now.unread next.Key new c.eat.new.self.unread) (sym was) (next_member (eaten c.args.scanner.now c.eat.new.self 44 took))))
    refl refl (subst (λ n. n ≤ c.args.offset) c.offset.ensures.counted c.if-offset.false) took.same
