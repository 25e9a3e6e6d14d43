use Rattle.std.proofs.Common.{sym, ap, ◌∙◌, arith}
use lib.Count.{count_trailing_zeros}
use Rattle.json5_styles.specs.Json.{is_json_blank}
use Rattle.json5_tokens.proofs.ByteSearch.{run_through, run_stops}
use Rattle.json5_lexemes.specs.PlainSteps.{ends_blanks}
use Rattle.json5_lexemes.proofs.PlainRuns.{blank_or_not}
use Rattle.json5_lexemes.proofs.byte_runs.blanks_len.Goals as goal

pub returns-then-found-ne0 : goal.returns-then-found-ne0
returns-then-found-ne0 c =
    let found = c.solids-found in
    let run = run_stops ends_blanks is_json_blank blank_or_not c.args.bytes.now c.loop-i.i 16 (omega arith) (omega arith) (omega (arith, found.ensures)) ∙ ap (count_trailing_zeros 64) (sym found.ensures) in
    omega (arith, run, c.loop-i.invariant.0)

pub loop-i-preserved : goal.loop-i-preserved
loop-i-preserved c =
    let run = run_through ends_blanks is_json_blank blank_or_not c.args.bytes.now c.loop-i.i 16 (omega arith) (omega (arith, c.solids-found.ensures)) in
    (omega (arith, run, c.loop-i.invariant.0), omega arith)
