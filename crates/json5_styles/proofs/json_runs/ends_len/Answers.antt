use Rattle.std.proofs.Common.{◌-◌, ap, sym, ◌∙◌, arith, length}
use lib.Count.{count_trailing_zeros}
use Rattle.json5_styles.specs.Json.{is_unescaped}
use Rattle.json5_styles.specs.JsonEscapes.{ends_unescaped}
use Rattle.json5_styles.proofs.JsonRuns.{opposite, run_from}
use Rattle.json5_tokens.proofs.ByteSearch.{run_bound, run_through, run_stops}
use Rattle.json5_styles.proofs.json_runs.ends_len.Goals as goal

pub returns-then-found-ne0 : goal.returns-then-found-ne0
returns-then-found-ne0 g c =
    let found = c.stops-found in
    sym (run_stops ends_unescaped is_unescaped opposite c.args.bytes.now 0 g.row.N (omega arith) (omega arith) (omega (arith, found.ensures)) ∙ ap (count_trailing_zeros 64) (sym found.ensures))

pub returns-then-found-ne0-2 : goal.returns-then-found-ne0-2
returns-then-found-ne0-2 g c =
    let b = c.args.bytes.now in
    let last = length b - g.row.N in
    let found = c.stops-found-2 in
    let front = run_through ends_unescaped is_unescaped opposite b 0 g.row.N (omega arith) (omega (arith, c.stops-found.ensures)) in
    let run = run_stops ends_unescaped is_unescaped opposite b last g.row.N (omega arith) (omega arith) (omega (arith, found.ensures)) ∙ ap (count_trailing_zeros 64) (sym found.ensures) in
    let from = run_from is_unescaped b last (omega (arith, front)) in
    omega (arith, run, from)

pub returns : goal.returns
returns g c =
    let b = c.args.bytes.now in
    let last = length b - g.row.N in
    let front = run_through ends_unescaped is_unescaped opposite b 0 g.row.N (omega arith) (omega (arith, c.stops-found.ensures)) in
    let back = run_through ends_unescaped is_unescaped opposite b last g.row.N (omega arith) (omega (arith, c.stops-found-2.ensures)) in
    let from = run_from is_unescaped b last (omega (arith, front)) in
    let bound = run_bound is_unescaped b last (omega arith) in
    omega (arith, back, from, bound)
