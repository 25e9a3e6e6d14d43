use Rattle.std.proofs.Common.{◌≡◌, ◌∷◌, [], ◌++◌, true, false, refl, ap, sym, ◌∙◌, append_assoc, append-nil, subst, arith}
use Rattle.json5_tokens.specs.Cursor.{Cursor}
use Rattle.json5_edit_style.specs.Comments.{BeginsLine}
use Rattle.json5_edit_style.proofs.CommentsPassed.{begins_on, took_shorter, nothing_left}
use Rattle.json5_edit_style.proofs.comments.begins_line.Goals as goal

pub loop-c-init : goal.loop-c-init
loop-c-init c = ([], sym (ap (λ (s : Cursor). s.unread) c.new-scanner.ensures), λ h. let k : false ≡ true = h in absurd (cc))

pub loop-c-preserved : goal.loop-c-preserved
loop-c-preserved c =
    let (done, e, k) = c.loop-c.invariant in
    let took = c.if-not-eat.ensures.taken refl in
    (done ++ c.in-Some.c ∷ [], e ∙ ap (λ z. done ++ z) took.split ∙ sym (append_assoc done (c.in-Some.c ∷ []) c.eat.new.self.unread), begins_on done c.in-Some.c c.loop-c.begins c.begins_after-begins.result c.begins_after-begins.ensures k)

pub loop-c-smaller : goal.loop-c-smaller
loop-c-smaller c = let m = took_shorter (c.if-not-eat.ensures.taken refl) in omega (arith, m)

pub returns : goal.returns
returns c = λ h.
    let (done, e, k) = c.loop-c.invariant in
    subst BeginsLine (sym (e ∙ ap (λ z. done ++ z) (nothing_left c.loop-c.scanner.unread (sym c.peek.ensures ∙ c.in_default.is)) ∙ append-nil done)) (k h)
