use Rattle.std.proofs.Common.{sym, ap, ◌∙◌, arith}
use lib.Count.{count_trailing_zeros}
use Rattle.json5_types.proofs.ByteSearch.{run_through, run_stops}
use Rattle.json5_lexemes.specs.Runs.{is_common_separator, ends_separators}
use Rattle.json5_lexemes.proofs.SharedRuns.{separator_or_none}
use Rattle.json5_lexemes.proofs.runs.separators_len.Goals as goal

pub returns-then-found-ne0 : goal.returns-then-found-ne0
returns-then-found-ne0 c =
    let found = c.solids-found in
    let run = run_stops ends_separators is_common_separator separator_or_none c.args.bytes.now c.loop-i.i 16 (omega arith) (omega arith) (omega (arith, found.ensures)) ∙ ap (count_trailing_zeros 64) (sym found.ensures) in
    omega (arith, run, c.loop-i.invariant.0)

pub loop-i-preserved : goal.loop-i-preserved
loop-i-preserved c =
    let run = run_through ends_separators is_common_separator separator_or_none c.args.bytes.now c.loop-i.i 16 (omega arith) (omega (arith, c.solids-found.ensures)) in
    (omega (arith, run, c.loop-i.invariant.0), omega arith)

pub returns : goal.returns
returns c = omega (arith, c.loop-i.invariant.0)
