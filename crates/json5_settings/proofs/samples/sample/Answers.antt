use Rattle.std.proofs.Common.{◌≡◌, ◌+◌, length, suc, refl, arith, subst}
use Rattle.std.specs.Prelude.{string_bytes}
use Rattle.std.specs.Str.{chars}
use Rattle.json5_types.specs.ValueMeanings.{value_of}
use Rattle.json5_edit.specs.Commented.{IsCommented}
use Rattle.json5_settings.specs.Samples.{GetsComments}
use Rattle.json5_settings.specs.Stacks.{Means}
use Rattle.json5_settings.proofs.samples.sample.Goals as goal

pub loop-index-init : goal.loop-index-init
loop-index-init c = (omega arith, (string_bytes c.in_ok-made.made, c.in_ok-made.ensures, refl))

pub loop-index-preserved : goal.loop-index-preserved
loop-index-preserved c =
    let l = c.loop-index in
    let (within, so_far) = l.invariant in
    let (whole, reads, gets) = so_far in
    let next : suc l.index ≡ l.index + 1 = omega arith in
    let (path, commented) = c.in_ok-made-2.ensures in
    let before = string_bytes l.made in (
      omega (arith, c.loop-index-test.true),
      (whole, reads, subst (λ n. GetsComments n whole (string_bytes c.in_ok-made-2.made)) next (before, gets, (path, subst (λ z. IsCommented z path (string_bytes c.in_ok-made-2.made)) c.as_str.ensures.value commented))),
    )

pub returns : goal.returns
returns c =
    let l = c.loop-index in
    let (within, so_far) = l.invariant in
    let (whole, reads, gets) = so_far in
    let all : l.index ≡ length c.args.comments.now = omega (arith, within, c.loop-index-test.false) in
    let means = c.in_ok-means.ensures c.if-not-branch.false in
    (subst (λ z. Means (chars z) (value_of c.args.value.now)) c.as_str-2.ensures.value means, (whole, reads, subst (λ n. GetsComments n whole (string_bytes l.made)) all gets))
