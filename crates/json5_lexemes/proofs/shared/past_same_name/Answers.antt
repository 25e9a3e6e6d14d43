use Rattle.std.proofs.Common.{◌≡◌, ◌∙◌, ap, sym, refl, drop, subst}
use Rattle.std.specs.Str.{chars, IsCharBoundary}
use Rattle.json5_lexemes.proofs.SharedRuns.{passes}
use Rattle.json5_lexemes.proofs.SharedSteps.{name_shared}
use Rattle.json5_lexemes.specs.Runs.{IsRun, PassesRun}
use Rattle.json5_lexemes.specs.SharedTokens.{cursor}
use Rattle.json5_lexemes.specs.declared.runs.Run.{Run}
use Rattle.json5_lexemes.specs.declared.runs.Run.TheVariants as runs
use Rattle.json5_lexemes.proofs.shared.past_same_name.Goals as goal

pub returns : goal.returns
returns c =
    let n = c.shared_len-len.result in
    let x = c.as_bytes.result.now in
    let y = c.as_bytes-2.result.now in
    let after = c.in-Some.left_rest.now in
    let after_right = c.in-Some-split_at_checked.right_rest.now in
    let both : (r : Run) → IsRun r x y n → PassesRun r (cursor c.args.left.now) (cursor c.args.right.now) (cursor after) (cursor after_right) = λ r k.
    passes r x y n (cursor c.args.left.now) (cursor c.args.right.now) (cursor after) (cursor after_right) k c.as_bytes.ensures.utf8 c.as_bytes-2.ensures.utf8
    (subst (λ z. IsCharBoundary z n) (sym c.as_bytes.ensures.value) (c.in-Some.ensures.variant.0 refl))
    (subst (λ z. IsCharBoundary z n) (sym c.as_bytes-2.ensures.value) (c.in-Some-split_at_checked.ensures.variant.0 refl))
    (ap chars (sym c.as_bytes.ensures.value))
    (ap chars (sym c.as_bytes-2.ensures.value))
    (ap chars (c.in-Some.ensures.back ∙ ap (λ z. drop n z) (sym c.as_bytes.ensures.value)))
    (ap chars (c.in-Some-split_at_checked.ensures.back ∙ ap (λ z. drop n z) (sym c.as_bytes-2.ensures.value))) in
    let bytes : c.as_bytes-3.result.now ≡ x = c.as_bytes-3.ensures.value ∙ sym c.as_bytes.ensures.value in
    let bytes_right : c.as_bytes-4.result.now ≡ y = c.as_bytes-4.ensures.value ∙ sym c.as_bytes-2.ensures.value in
    let word : IsRun runs.Word x y n =
    subst (IsRun runs.Word x y) c.if-shared_len-len.false
    (subst (λ z. IsRun runs.Word x z c.shared_len.result) bytes_right (subst (λ z. IsRun runs.Word z c.as_bytes-4.result.now c.shared_len.result) bytes c.shared_len.ensures)) in
    name_shared c.args.left.now c.args.right.now after after_right (both runs.Text c.shared_len-len.ensures) (both runs.Word word)
