use Rattle.std.proofs.Common.{refl, sym, ◌∙◌}
use lib.Pointwise.{bytes_decides}
use Rattle.json5_convert.proofs.AnewSteps.{repeats_comment, repeats_line}
use Rattle.json5_convert.proofs.spelled_anew.past_repeated.Goals as goal

pub returns-then-ends_line : goal.returns-then-ends_line
returns-then-ends_line c =
    repeats_line c.args.comment.now c.in-Some.other.now c.args.text.now c.in-Some.rest.now _ ((bytes_decides c.args.comment.now c.in-Some.other.now).0 (sym c.eq.ensures ∙ c.if-eq.true)) c.utf8.text (c.in-Some.ensures.variant.0 refl)
    c.in-Some.ensures.front c.in-Some.ensures.back (c.if-ends_line.ensures.0 refl)

pub returns-then-eq-2 : goal.returns-then-eq-2
returns-then-eq-2 c =
    repeats_comment c.args.comment.now c.in-Some-split_comment.other.now c.args.text.now c.in-Some-split_comment.rest.now ((bytes_decides c.args.comment.now c.in-Some-split_comment.other.now).0 (sym c.eq-2.ensures ∙ c.if-eq-2.true)) c.in-Some-split_comment.ensures
