use Rattle.std.proofs.Common.{◌≡◌, ◌+◌, ◌≤◌, length, map, sym, ap, ◌∙◌, arith}
use lib.Count.{count_trailing_zeros}
use lib.Lanes.{chunk, mask_l}
use Rattle.std.specs.List.{prefix_len}
use Rattle.json5_types.proofs.ByteSearch.{run_through, run_stops}
use Rattle.json5_lexemes.specs.Runs.{codes, is_zero, is_set}
use Rattle.json5_lexemes.proofs.SharedRuns.{shared, chunk_codes, codes_reach, zero_or_set}
use Rattle.json5_lexemes.proofs.runs.Run.shared_len.Goals as goal

pub returns-then-found-ne0 : goal.returns-then-found-ne0
returns-then-found-ne0 c =
    let r = c.args.self in
    let x = c.args.left.now in
    let y = c.args.right.now in
    let i = c.loop-i.i in
    let room = codes_reach r (i + 16) x y (omega arith) (omega arith) in
    let is = c.ends-found.ensures ∙ ap (λ z. mask_l (map is_set z)) (chunk_codes r i 16 x y) in
    let run = run_stops is_set is_zero zero_or_set (codes r x y) i 16 room (omega arith) (omega (arith, is)) ∙ ap (count_trailing_zeros 64) (sym is) in
    shared r x y _ (omega (arith, run, c.loop-i.invariant.0))

pub loop-i-preserved : goal.loop-i-preserved
loop-i-preserved c =
    let r = c.args.self in
    let x = c.args.left.now in
    let y = c.args.right.now in
    let i = c.loop-i.i in
    let room = codes_reach r (i + 16) x y (omega arith) (omega arith) in
    let is = c.ends-found.ensures ∙ ap (λ z. mask_l (map is_set z)) (chunk_codes r i 16 x y) in
    let run = run_through is_set is_zero zero_or_set (codes r x y) i 16 room (omega (arith, is)) in
    (omega (arith, run, c.loop-i.invariant.0), (omega arith, omega arith))

pub returns-after-loop-i : goal.returns-after-loop-i
returns-after-loop-i c = shared c.args.self c.args.left.now c.args.right.now _ (omega (arith, c.loop-i.invariant.0))

pub returns-else-right-i-ge16 : goal.returns-else-right-i-ge16
returns-else-right-i-ge16 c = shared c.args.self c.args.left.now c.args.right.now _ (omega (arith, c.loop-i.invariant.0))
