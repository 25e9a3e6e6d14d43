use Rattle.std.proofs.Common.{sym, ap, ◌∙◌, arith}
use lib.Count.{count_trailing_zeros}
use Rattle.json5_grammar.specs.Language.Characters.{is_digit}
use Rattle.json5_types.specs.DigitRuns.{is_no_digit}
use Rattle.json5_types.proofs.ByteSearch.{run_through, run_stops, digit_or_none}
use Rattle.json5_types.proofs.digit_runs.digits_len.Goals as goal

pub returns-then-found-ne0 : goal.returns-then-found-ne0
returns-then-found-ne0 c =
    let found = c.no_digits-found in
    let run = run_stops is_no_digit is_digit digit_or_none c.args.bytes.now c.loop-i.i 16 (omega arith) (omega arith) (omega (arith, found.ensures)) ∙ ap (count_trailing_zeros 64) (sym found.ensures) in
    omega (arith, run, c.loop-i.invariant.0)

pub loop-i-preserved : goal.loop-i-preserved
loop-i-preserved c =
    let run = run_through is_no_digit is_digit digit_or_none c.args.bytes.now c.loop-i.i 16 (omega arith) (omega (arith, c.no_digits-found.ensures)) in
    (omega (arith, run, c.loop-i.invariant.0), omega arith)
