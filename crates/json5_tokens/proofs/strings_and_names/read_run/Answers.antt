use Rattle.std.proofs.Common.{◌-◌, true, length, sym, subst}
use Rattle.std.specs.Str.{chars, IsCharBoundary}
use Rattle.std.proofs.lemmas.Result.{err_from_is_err_and}
use Rattle.json5_tokens.proofs.TextCuts.{left_fits, cut_half, before_rest}
use Rattle.json5_tokens.proofs.ScanTokens.{left_counted}
use Rattle.json5_tokens.proofs.ScanRuns.{run_stops, run_past}
use Rattle.json5_tokens.proofs.ScanTexts.{run_ends, refused_past}
use Rattle.json5_tokens.proofs.strings_and_names.read_run.Goals as goal

pub overflow_sub-text : goal.overflow_sub-text
overflow_sub-text c = rw (left_counted c.skip_run-rest.result.now c.skip_run-rest.utf8) (left_fits (record { is_text = c.utf8.text; split = c.skip_run-rest.ensures.split }))

pub range-run-requires-clause-end_boundary : goal.range-run-requires-clause-end_boundary
range-run-requires-clause-end_boundary c =
    subst (λ n. IsCharBoundary c.args.text.now (length c.args.text.now - n)) (sym (left_counted c.skip_run-rest.result.now c.skip_run-rest.utf8)) (cut_half (record { is_text = c.utf8.text; split = c.skip_run-rest.ensures.split }))

pub read_stop-requires : goal.read_stop-requires
read_stop-requires c =
    let skipped = c.skip_run-rest.ensures in
    let run = before_rest c.args.text.now skipped.passed c.skip_run-rest.result.now c.utf8.text c.skip_run-rest.utf8 skipped.split c.range-run.ensures.value in
    run_stops c.args.kind c.past.result c.args.text.now c.range-run.result.now c.skip_run-rest.result.now skipped run c.past.ensures

pub returns-in_err-stop : goal.returns-in_err-stop
returns-in_err-stop c =
    let p = err_from_is_err_and c.from_residual.result c.from_residual.ensures.1 in
    let skipped = c.skip_run-rest.ensures in
    let run = before_rest c.args.text.now skipped.passed c.skip_run-rest.result.now c.utf8.text c.skip_run-rest.utf8 skipped.split c.range-run.ensures.value in
    let refusal = c.in_err-stop.ensures in
    rw (p.1, p.2)
    (record {
      refused = refused_past c.in_err-stop.field-0.0 _ _ (chars c.range-run.result.now) true (run_past c.args.kind c.past.result c.args.text.now c.range-run.result.now c.skip_run-rest.result.now skipped run c.past.ensures) refusal.refused;
      known = refusal.known;
    })

pub returns : goal.returns
returns c =
    let skipped = c.skip_run-rest.ensures in
    let run = before_rest c.args.text.now skipped.passed c.skip_run-rest.result.now c.utf8.text c.skip_run-rest.utf8 skipped.split c.range-run.ensures.value in
    run_ends c.args.kind c.past.result c.args.text.now c.range-run.result.now c.skip_run-rest.result.now c.in_ok-stop.stop skipped run c.past.ensures c.range-run.utf8 c.in_ok-stop.ensures
