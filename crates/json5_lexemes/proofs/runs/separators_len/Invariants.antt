use Rattle.std.proofs.Common.{◌≡◌, ◌+◌, ◌-◌, ◌≤◌, length, drop}
use Rattle.std.specs.List.{prefix_len}
use Rattle.json5_lexemes.specs.Runs.{is_common_separator}
use Rattle.json5_lexemes.proofs.runs.separators_len.Given as goal

abbrev pub invariant-loop-i : goal.invariant-loop-i
invariant-loop-i l = (prefix_len is_common_separator l.bytes ≡ l.i + prefix_len is_common_separator (drop l.i l.bytes)) × (l.i ≤ length l.bytes)

abbrev pub decreases-loop-i : goal.decreases-loop-i
decreases-loop-i l = length l.bytes - l.i
