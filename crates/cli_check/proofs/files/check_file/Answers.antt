use Rattle.std.proofs.Common.{refl, sym, true≢false}
use Rattle.cli_check.specs.Checks.{file, stream, judged, unopened}
use Rattle.cli_check.proofs.files.check_file.Goals as goal

pub returns-then-is_stdin : goal.returns-then-is_stdin
returns-then-is_stdin g c = judged c.check_input.result (stream (c.if-is_stdin.ensures.0 refl)) c.check_input.ensures

pub returns-in-Ok : goal.returns-in-Ok
returns-in-Ok g c = judged c.check_input-in-Ok.result (file (λ is. true≢false (sym (c.if-is_stdin.ensures.1 is))) (g.met.S.Store.knows_opening _ _ _ c.in-Ok.ensures)) c.check_input-in-Ok.ensures

pub returns-in-Err : goal.returns-in-Err
returns-in-Err g c = unopened _ (λ is. true≢false (sym (c.if-is_stdin.ensures.1 is))) (g.met.S.Store.knows_opening _ _ _ c.in-Err.ensures) refl
