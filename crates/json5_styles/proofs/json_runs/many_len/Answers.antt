use Rattle.std.proofs.Common.{◌≡◌, ℕ, ◌-◌, List, length, take, drop, take_all, length-drop, ap, sym, ◌∙◌, arith}
use Rattle.std.specs.List.{prefix_len}
use lib.Count.{count_trailing_zeros}
use Rattle.json5_styles.specs.Json.{is_unescaped}
use Rattle.json5_styles.specs.JsonEscapes.{ends_unescaped}
use Rattle.json5_styles.proofs.JsonRuns.{opposite}
use Rattle.json5_tokens.proofs.ByteSearch.{run_bound, run_through, run_stops}
use Rattle.json5_styles.proofs.json_runs.many_len.Goals as goal

pub returns-then-found-ne0 : goal.returns-then-found-ne0
returns-then-found-ne0 c =
    let found = c.stops-found in
    let run = run_stops ends_unescaped is_unescaped opposite c.args.bytes.now c.loop-i.i 16 (omega arith) (omega arith) (omega (arith, found.ensures)) ∙ ap (count_trailing_zeros 64) (sym found.ensures) in
    omega (arith, run, c.loop-i.invariant.0)

pub loop-i-preserved : goal.loop-i-preserved
loop-i-preserved c =
    let run = run_through ends_unescaped is_unescaped opposite c.args.bytes.now c.loop-i.i 16 (omega arith) (omega (arith, c.stops-found.ensures)) in
    (omega (arith, run, c.loop-i.invariant.0), omega arith)

pub loop-i-init : goal.loop-i-init
loop-i-init c = (omega arith, omega arith)

-- the slice is all that is left
rest_len : (b : List ℕ) (i : ℕ) → prefix_len is_unescaped (take (length b - i) (drop i b)) ≡ prefix_len is_unescaped (drop i b)
rest_len b i = ap (prefix_len is_unescaped) (take_all (length b - i) (drop i b) (omega (arith, length-drop i b)))

pub overflow_add-result-2 : goal.overflow_add-result-2
overflow_add-result-2 c =
    let rest = rest_len c.args.bytes.now c.loop-i.i in
    let bound = run_bound is_unescaped c.args.bytes.now c.loop-i.i (omega arith) in
    omega (arith, c.ends_len.ensures, rest, bound)

pub returns : goal.returns
returns c =
    let rest = rest_len c.args.bytes.now c.loop-i.i in
    omega (arith, c.ends_len.ensures, rest, c.loop-i.invariant.0)
