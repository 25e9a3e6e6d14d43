use Rattle.std.proofs.Common.{◌∙◌, ap, sym, refl, arith}
use Rattle.std.specs.List.{prefix_len}
use Rattle.json5_tokens.specs.ByteRuns.{is_in_line, is_line_part}
use Rattle.json5_tokens.proofs.BlankSteps.{line_none, line_end, line_more}
use Rattle.json5_tokens.proofs.RunBoundaries.{stop_boundary, line_chars}
use Rattle.json5_tokens.proofs.AsciiBlanks.{line_run}
use Rattle.json5_tokens.proofs.blanks.skip_line.Goals as goal

pub loop-c-init : goal.loop-c-init
loop-c-init c = (c.utf8.text, refl, omega arith)

pub split_at-requires : goal.split_at-requires
split_at-requires c =
    stop_boundary is_in_line is_line_part c.loop-c.rest.now _ line_chars c.loop-c.invariant.0 (c.line_len.ensures ∙ ap (prefix_len is_in_line) c.as_bytes.ensures.value)

pub returns-in_default : goal.returns-in_default
returns-in_default c =
    let run = line_run c.loop-c.rest.now c.split_at.result.1.now _ c.loop-c.invariant.0 (c.line_len.ensures ∙ ap (prefix_len is_in_line) c.as_bytes.ensures.value) c.split_at.ensures.back in
    record { passed = sym c.loop-c.invariant.1 ∙ run.passed ∙ line_none _ c.in_default.ensures; shorter = omega (arith, run.shorter, c.loop-c.invariant.2) }

pub returns-then-is_json5_line_terminator : goal.returns-then-is_json5_line_terminator
returns-then-is_json5_line_terminator c =
    let run = line_run c.loop-c.rest.now c.split_at.result.1.now _ c.loop-c.invariant.0 (c.line_len.ensures ∙ ap (prefix_len is_in_line) c.as_bytes.ensures.value) c.split_at.ensures.back in
    record {
      passed = sym c.loop-c.invariant.1 ∙ run.passed ∙ line_end c.in-Some.c _ _ c.in-Some.ensures.chars (sym c.if-is_json5_line_terminator.ensures);
      shorter = omega (arith, run.shorter, c.loop-c.invariant.2, c.in-Some.ensures.shorter);
    }

pub loop-c-smaller : goal.loop-c-smaller
loop-c-smaller c =
    let run = line_run c.loop-c.rest.now c.split_at.result.1.now _ c.loop-c.invariant.0 (c.line_len.ensures ∙ ap (prefix_len is_in_line) c.as_bytes.ensures.value) c.split_at.ensures.back in
    omega (arith, run.shorter, c.in-Some.ensures.shorter)

pub loop-c-preserved : goal.loop-c-preserved
loop-c-preserved c =
    let run = line_run c.loop-c.rest.now c.split_at.result.1.now _ c.loop-c.invariant.0 (c.line_len.ensures ∙ ap (prefix_len is_in_line) c.as_bytes.ensures.value) c.split_at.ensures.back in (
      c.in-Some.ensures.text,
      sym (line_more c.in-Some.c _ _ c.in-Some.ensures.chars (sym c.if-is_json5_line_terminator.ensures)) ∙ sym run.passed ∙ c.loop-c.invariant.1,
      omega (arith, run.shorter, c.loop-c.invariant.2, c.in-Some.ensures.shorter),
    )
