use Rattle.std.proofs.Common.{◌≡◌, [], refl, sym, subst}
use Rattle.json5_lexemes.specs.SameLexemes.{Same, Within}
use Rattle.json5_lexemes.specs.SameLexemes as same
use Rattle.json5_lexemes.proofs.SameSteps.{none_next, untaken}
use Rattle.json5_lexemes.proofs.same.are_same.Goals as goal

pub returns-in_default : goal.returns-in_default
returns-in_default c = λ t.
    let m = c.args.moves in
    let left = c.pass_separators.new.text in
    let right = c.pass_separators-in-loop-c.new.text in
    let left_empty : left.unread ≡ [] = none_next left.unread (sym c.in_default.ensures) in
    let right_empty : right.unread ≡ [] = c.is_at_end.ensures t in
    c.loop-c.invariant
    (c.pass_separators.ensures.left m c.loop-c.right.unread
    (c.pass_separators-in-loop-c.ensures.right m left.unread
    (subst (λ x. Same m Within.between x right.unread) (sym left_empty) (subst (λ y. Same m Within.between [] y) (sym right_empty) same.ends))))

pub loop-c-preserved : goal.loop-c-preserved
loop-c-preserved c = λ h.
    let m = c.args.moves in
    let left = c.pass_separators.new.text in
    let right = c.pass_separators-in-loop-c.new.text in
    c.loop-c.invariant
    (c.pass_separators.ensures.left m c.loop-c.right.unread
    (c.pass_separators-in-loop-c.ensures.right m left.unread
    (untaken Within.between c.in-Some.c left right c.pass_both.new.left c.pass_both.new.right (c.if-not-pass_both.ensures.taken refl) (c.if-not-same_rest.ensures.same refl h))))
