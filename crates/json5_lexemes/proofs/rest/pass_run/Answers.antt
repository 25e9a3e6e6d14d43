use Rattle.std.proofs.Common.{◌∙◌, ap, sym, refl, drop, subst}
use Rattle.std.specs.Str.{chars, IsCharBoundary}
use Rattle.json5_tokens.specs.Cursor.{Cursor}
use Rattle.json5_lexemes.proofs.SharedRuns.{passes, passes_none}
use Rattle.json5_lexemes.proofs.rest.pass_run.Goals as goal

pub returns-in_default : goal.returns-in_default
returns-in_default c = passes_none c.args.run c.args.left.now c.args.right.now

pub returns-in_default-split_at_checked : goal.returns-in_default-split_at_checked
returns-in_default-split_at_checked c = passes_none c.args.run c.args.left.now c.args.right.now

pub returns : goal.returns
returns c =
    let n = c.shared_len-len.result in
    let x = c.as_bytes.result.now in
    let y = c.as_bytes-2.result.now in
    passes c.args.run x y n c.args.left.now c.args.right.now _ _ c.shared_len-len.ensures c.as_bytes.ensures.utf8 c.as_bytes-2.ensures.utf8
    (subst (λ z. IsCharBoundary z n) (sym c.as_bytes.ensures.value) (c.in-Some.ensures.variant.0 refl))
    (subst (λ z. IsCharBoundary z n) (sym c.as_bytes-2.ensures.value) (c.in-Some-split_at_checked.ensures.variant.0 refl))
    (ap (λ (z : Cursor). z.unread) (sym c.left.view_is) ∙ ap chars (sym c.as_bytes.ensures.value))
    (ap (λ (z : Cursor). z.unread) (sym c.right.view_is) ∙ ap chars (sym c.as_bytes-2.ensures.value))
    (ap chars (c.in-Some.ensures.back ∙ ap (λ z. drop n z) (sym c.as_bytes.ensures.value)))
    (ap chars (c.in-Some-split_at_checked.ensures.back ∙ ap (λ z. drop n z) (sym c.as_bytes-2.ensures.value)))
