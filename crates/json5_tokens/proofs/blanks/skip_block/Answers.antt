use Rattle.std.proofs.Common.{◌∙◌, ap, sym, refl, arith, rules}
use Rattle.std.specs.Prelude.{◌==◌}
use Rattle.std.specs.Str.{chars}
use Rattle.json5_grammar.specs.Language.Characters.{NotBegun}
use Rattle.std.specs.List.{prefix_len}
use Rattle.json5_tokens.specs.ByteRuns.{is_no_star}
use Rattle.json5_tokens.proofs.BlankSteps.{block_none, block_end, block_star}
use Rattle.json5_tokens.proofs.RunBoundaries.{stop_boundary, star_chars}
use Rattle.json5_tokens.proofs.AsciiBlanks.{star_run, star_there}
use Rattle.json5_tokens.proofs.blanks.skip_block.Goals as goal

pub loop-next-init : goal.loop-next-init
loop-next-init c = (c.utf8.text, refl, omega arith)

pub split_at-requires : goal.split_at-requires
split_at-requires c =
    stop_boundary is_no_star is_no_star c.loop-next.rest.now _ star_chars c.loop-next.invariant.0 (c.star_offset.ensures ∙ ap (prefix_len is_no_star) c.as_bytes.ensures.value)

pub returns-in_err-next : goal.returns-in_err-next
returns-in_err-next c =
    let run = star_run c.loop-next.rest.now c.split_at.result.1.now _ c.loop-next.invariant.0 (c.star_offset.ensures ∙ ap (prefix_len is_no_star) c.as_bytes.ensures.value) c.split_at.ensures.back in
    rw c.from_residual.ensures (sym c.loop-next.invariant.1 ∙ run.passed ∙ block_none _ c.in_err-next.ensures)

pub returns-in-Some-eq47-default : goal.returns-in-Some-eq47-default
returns-in-Some-eq47-default c =
    let run = star_run c.loop-next.rest.now c.split_at.result.1.now _ c.loop-next.invariant.0 (c.star_offset.ensures ∙ ap (prefix_len is_no_star) c.as_bytes.ensures.value) c.split_at.ensures.back in
    record {
      passed = sym c.loop-next.invariant.1 ∙ run.passed
          ∙ block_end _ c.in-Some-eq47-default.field-0-0 _ _ _ c.in_ok-next.ensures.chars (star_there _ _ _ run.stops c.in_ok-next.ensures.chars) c.in-Some-eq47-default.ensures.chars c.in-Some-eq47-default.field-0-0-test;
      shorter = omega (arith, run.shorter, c.loop-next.invariant.2, c.in_ok-next.ensures.shorter, c.in-Some-eq47-default.ensures.shorter);
    }

pub loop-next-smaller-in_ok-next : goal.loop-next-smaller-in_ok-next
loop-next-smaller-in_ok-next c =
    let run = star_run c.loop-next.rest.now c.split_at.result.1.now _ c.loop-next.invariant.0 (c.star_offset.ensures ∙ ap (prefix_len is_no_star) c.as_bytes.ensures.value) c.split_at.ensures.back in
    omega (arith, run.shorter, c.in_ok-next.ensures.shorter)

pub loop-next-preserved-in_ok-next : goal.loop-next-preserved-in_ok-next
loop-next-preserved-in_ok-next c =
    let run = star_run c.loop-next.rest.now c.split_at.result.1.now _ c.loop-next.invariant.0 (c.star_offset.ensures ∙ ap (prefix_len is_no_star) c.as_bytes.ensures.value) c.split_at.ensures.back in
    let other : NotBegun (λ d. d == 47) (chars c.in_ok-next.next.now) = search rules in (
      c.in_ok-next.ensures.text,
      sym (block_star _ _ _ c.in_ok-next.ensures.chars (star_there _ _ _ run.stops c.in_ok-next.ensures.chars) other) ∙ sym run.passed ∙ c.loop-next.invariant.1,
      omega (arith, run.shorter, c.loop-next.invariant.2, c.in_ok-next.ensures.shorter),
    )

pub loop-next-smaller : goal.loop-next-smaller
loop-next-smaller c =
    let run = star_run c.loop-next.rest.now c.split_at.result.1.now _ c.loop-next.invariant.0 (c.star_offset.ensures ∙ ap (prefix_len is_no_star) c.as_bytes.ensures.value) c.split_at.ensures.back in
    omega (arith, run.shorter, c.in_ok-next.ensures.shorter)

pub loop-next-preserved : goal.loop-next-preserved
loop-next-preserved c =
    let run = star_run c.loop-next.rest.now c.split_at.result.1.now _ c.loop-next.invariant.0 (c.star_offset.ensures ∙ ap (prefix_len is_no_star) c.as_bytes.ensures.value) c.split_at.ensures.back in
    let other : NotBegun (λ d. d == 47) (chars c.in_ok-next.next.now) = search rules in (
      c.in_ok-next.ensures.text,
      sym (block_star _ _ _ c.in_ok-next.ensures.chars (star_there _ _ _ run.stops c.in_ok-next.ensures.chars) other) ∙ sym run.passed ∙ c.loop-next.invariant.1,
      omega (arith, run.shorter, c.loop-next.invariant.2, c.in_ok-next.ensures.shorter),
    )
