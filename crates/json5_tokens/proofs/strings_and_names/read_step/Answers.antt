use Rattle.std.proofs.Common.{true, false, ap, sym, ◌∙◌, arith}
use Rattle.std.specs.Str.{chars}
use Rattle.std.proofs.lemmas.Result.{err_from_is_err_and}
use Rattle.json5_grammar.specs.Model.ReadTexts.{put}
use Rattle.json5_tokens.specs.Scan.{in_list}
use Rattle.json5_tokens.specs.ScanTexts.{text_at}
use Rattle.json5_tokens.proofs.ScanFaults.{code_known}
use Rattle.json5_tokens.proofs.ScanTexts.{item_read, item_refused, goes_past, refused_past}
use Rattle.json5_tokens.proofs.strings_and_names.read_step.Goals as goal

pub returns-in_err-spelled : goal.returns-in_err-spelled
returns-in_err-spelled c =
    let p = err_from_is_err_and c.from_residual.result c.from_residual.ensures.1 in
    let refusal = c.in_err-spelled.ensures in
    rw (p.1, p.2) (record { refused = item_refused c.args.kind c.in_err-spelled.field-0.0 _ _ c.requires refusal.refused; known = refusal.known })

pub returns-in_err-run : goal.returns-in_err-run
returns-in_err-run c =
    let p = err_from_is_err_and c.from_residual-in_err-run.result c.from_residual-in_err-run.ensures.1 in
    let refusal = c.in_err-run.ensures in
    let spelled = in_list c.in_ok-spelled.spelled in
    let item = item_read c.args.kind _ _ spelled _ c.requires c.in_ok-spelled.ensures.read in
    let read = item.0 ∙ ap (λ k. put spelled false (text_at k (chars c.in_ok-spelled.rest.now))) (sym c.rest.ensures) in
    rw (p.1, p.2) (record { refused = refused_past c.in_err-run.field-0.0 _ _ spelled false read refusal.refused; known = code_known c.in_err-run.field-0.0 refusal.known })

pub returns : goal.returns
returns c =
    let run = c.in_ok-run.ensures in
    let spelled = in_list c.in_ok-spelled.spelled in
    let item = item_read c.args.kind _ _ spelled _ c.requires c.in_ok-spelled.ensures.read in
    let read = item.0 ∙ ap (λ k. put spelled false (text_at k (chars c.in_ok-spelled.rest.now))) (sym c.rest.ensures) in
    let left = run.left in
    let fewer = item.1 in
    record { goes_on = goes_past _ _ spelled (chars c.in_ok-run.run'.now) false true c.in_ok-run.stop read run.goes_on; left = omega arith; text = run.text }
