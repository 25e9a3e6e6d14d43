use Rattle.std.proofs.Common.{◌≡◌, ◌∷◌, sym, ap, ◌∙◌, subst}
use Rattle.std.specs.Prelude.{◌↔◌}
use Rattle.std.specs.Str.{chars}
use Rattle.json5_lexemes.specs.PlainSteps.{TakesBlock, TakesComment}
use Rattle.json5_lexemes.proofs.PlainTakes.{leaves_by, comment_line, comment_block}
use Rattle.json5_lexemes.proofs.plain.skip_comment.Goals as goal

pub returns-in-47 : goal.returns-in-47
returns-in-47 c =
    λ r. subst (λ z. TakesComment z r ↔ (r ≡ chars c.skip_line.result.now)) (sym (c.in-Some.ensures.chars ∙ ap (λ z. z ∷ chars c.in-Some.after.now) c.in-47.is)) (comment_line _ _ r c.skip_line.ensures)

pub returns-in-42 : goal.returns-in-42
returns-in-42 c =
    leaves_by TakesComment TakesBlock _ c.in-Some.after.now c.skip_block.result
    (λ r. subst (λ z. TakesComment z r ↔ TakesBlock (chars c.in-Some.after.now) r) (sym (c.in-Some.ensures.chars ∙ ap (λ z. z ∷ chars c.in-Some.after.now) c.in-42.is)) (comment_block (chars c.in-Some.after.now) r)) c.skip_block.ensures
