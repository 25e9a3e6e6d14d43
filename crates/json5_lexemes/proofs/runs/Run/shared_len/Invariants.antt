use Rattle.std.proofs.Common.{◌≡◌, ◌+◌, ◌-◌, ◌≤◌, length, drop}
use Rattle.std.specs.List.{prefix_len}
use Rattle.json5_lexemes.specs.Runs.{codes, is_zero}
use Rattle.json5_lexemes.proofs.runs.Run.shared_len.Given as goal

abbrev pub invariant-loop-i : goal.invariant-loop-i
invariant-loop-i l =
    (prefix_len is_zero (codes l.self l.left l.right) ≡ l.i + prefix_len is_zero (drop l.i (codes l.self l.left l.right))) × ((l.i ≤ length l.left) × (l.i ≤ length l.right))

abbrev pub decreases-loop-i : goal.decreases-loop-i
decreases-loop-i l = length l.left - l.i
