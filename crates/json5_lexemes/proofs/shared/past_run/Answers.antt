use Rattle.std.proofs.Common.{◌∙◌, ap, sym, refl, drop, subst}
use Rattle.std.specs.Str.{chars, IsCharBoundary}
use Rattle.json5_lexemes.proofs.SharedRuns.{passes}
use Rattle.json5_lexemes.specs.SharedTokens.{cursor}
use Rattle.json5_lexemes.proofs.shared.past_run.Goals as goal

pub returns : goal.returns
returns c =
    let n = c.shared_len-len.result in
    let x = c.as_bytes.result.now in
    let y = c.as_bytes-2.result.now in
    passes c.args.run x y n (cursor c.args.left.now) (cursor c.args.right.now) (cursor c.in-Some.left_rest.now) (cursor c.in-Some-split_at_checked.right_rest.now) c.shared_len-len.ensures c.as_bytes.ensures.utf8 c.as_bytes-2.ensures.utf8
    (subst (λ z. IsCharBoundary z n) (sym c.as_bytes.ensures.value) (c.in-Some.ensures.variant.0 refl))
    (subst (λ z. IsCharBoundary z n) (sym c.as_bytes-2.ensures.value) (c.in-Some-split_at_checked.ensures.variant.0 refl))
    (ap chars (sym c.as_bytes.ensures.value))
    (ap chars (sym c.as_bytes-2.ensures.value))
    (ap chars (c.in-Some.ensures.back ∙ ap (λ z. drop n z) (sym c.as_bytes.ensures.value)))
    (ap chars (c.in-Some-split_at_checked.ensures.back ∙ ap (λ z. drop n z) (sym c.as_bytes-2.ensures.value)))
