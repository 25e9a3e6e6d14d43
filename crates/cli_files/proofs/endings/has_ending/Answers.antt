use Rattle.std.proofs.Common.{sym, true≢false, eqb-true}
use Rattle.std.specs.Prelude.{Some, None}
use Rattle.std.proofs.lemmas.Slice.Eq.{strip_suffix_is}
use Rattle.std.proofs.lemmas.Bool.Decides.{Decides-eqb, Decides-not, Decides-like}
use Rattle.cli_files.specs.Folders.{slash}
use Rattle.cli_files.proofs.NamesEnded.{not_stripped, stripped, ended}
use Rattle.cli_files.proofs.endings.has_ending.Goals as goal

pub returns-in_default : goal.returns-in_default
returns-in_default c = (
  λ t. absurd (true≢false (sym t)),
  λ h. absurd (not_stripped c.args.name.now c.args.ending.now c.as_bytes.result.now c.as_bytes-2.result.now c.as_bytes.ensures.value c.as_bytes-2.ensures.value
      (strip_suffix_is Decides-eqb c.as_bytes.result.now c.as_bytes-2.result.now None c.in_default.ensures.cases) h),
)

pub returns-then-point-eq46 : goal.returns-then-point-eq46
returns-then-point-eq46 c =
    ended c.args.name.now c.in-Some.front.now c.args.ending.now c.in-Some-split_last.rest.now c.in-Some-split_last-2.field-0-1.now c.in-Some-split_last.point.now c.in-Some-split_last-2.byte.now _
    (stripped c.args.name.now c.args.ending.now c.as_bytes.result.now c.as_bytes-2.result.now c.in-Some.front.now c.as_bytes.ensures.value c.as_bytes-2.ensures.value
    (strip_suffix_is Decides-eqb c.as_bytes.result.now c.as_bytes-2.result.now (Some c.in-Some.front) c.in-Some.ensures.cases)) c.in-Some-split_last.ensures.cases.0 c.in-Some-split_last-2.ensures.cases.0
    (Decides-like _ (λ k. (c.if-point-eq46.true, k)) (λ k. k.1) (Decides-not _ (Decides-eqb c.in-Some-split_last-2.byte.now slash)))

pub returns-else-point-eq46 : goal.returns-else-point-eq46
returns-else-point-eq46 c =
    ended c.args.name.now c.in-Some.front.now c.args.ending.now c.in-Some-split_last.rest.now c.in-Some-split_last-2.field-0-1.now c.in-Some-split_last.point.now c.in-Some-split_last-2.byte.now _
    (stripped c.args.name.now c.args.ending.now c.as_bytes.result.now c.as_bytes-2.result.now c.in-Some.front.now c.as_bytes.ensures.value c.as_bytes-2.ensures.value
    (strip_suffix_is Decides-eqb c.as_bytes.result.now c.as_bytes-2.result.now (Some c.in-Some.front) c.in-Some.ensures.cases)) c.in-Some-split_last.ensures.cases.0 c.in-Some-split_last-2.ensures.cases.0
    (λ t. absurd (c.if-point-eq46.false (eqb-true _ _ t)), λ k. absurd (c.if-point-eq46.false k.0))
