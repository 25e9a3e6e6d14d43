use Rattle.std.proofs.Common.{◌<◌, ◌≤◌, ◌∷◌, [], Some, refl, ap, sym, subst}
use Rattle.std.specs.Str.{encode_utf8_all}
use Rattle.json5_walk.specs.declared.next.Next.TheVariants as next
use Rattle.json5_report.specs.Paths.{Step, member, key}
use Rattle.json5_report.specs.Courses.{crumbs_onto, open_in}
use Rattle.json5_report.proofs.CoursesTaken.{rests, rests_later, advances, no_key, key_left, key_read, key_refused}
use Rattle.json5_report.proofs.course.take_key.Goals as goal

pub returns-in-Err : goal.returns-in-Err
returns-in-Err c =
    key_refused c.args.offset c.args.scanner.now c.key.new.self c.args.course.now c.args.course.now c.refused_key.result c.refused_key.ensures
    (λ fits. rests c.args.offset c.args.scanner.now c.args.course.now (no_key c.args.scanner.now c.args.course.now c.requires.solid c.requires.not_closed c.requires.due c.in-Err.ensures.complete fits))

pub returns-then-offset : goal.returns-then-offset
returns-then-offset c =
    let (k, u, f, took, is, spells) = c.in-Ok.ensures.taken in
    rests_later c.args.offset c.args.scanner.now c.key.new.self c.args.course.now (subst (λ n. c.args.offset < n) c.offset.ensures.counted c.if-offset.true) took.same
    (key_left c.args.scanner.now c.args.course.now c.requires.solid c.requires.not_closed c.key.new.self u f c.requires.due (key_read c.args.scanner.now c.key.new.self u f k took is))

pub returns : goal.returns
returns c =
    let (k, u, f, took, is, spells) = c.in-Ok.ensures.taken in
    let old = open_in c.args.course.now in
    let left = crumbs_onto [] c.args.course.now.outer.items in
    let new = member (Some (encode_utf8_all u)) ∷ left in
    advances c.args.offset c.args.scanner.now c.key.new.self c.args.course.now _ next.Colon new
    (subst (λ z. Step z old c.args.scanner.now.unread next.Colon new c.key.new.self.unread) (sym c.requires.due) (key u f (key_read c.args.scanner.now c.key.new.self u f k took is)))
    refl (ap (λ z. member (Some z) ∷ left) (c.borrowed_text_of.ensures u f (rw took.same spells)).1) (subst (λ n. n ≤ c.args.offset) c.offset.ensures.counted c.if-offset.false) took.same
