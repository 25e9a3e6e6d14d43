use Rattle.std.proofs.Common.{◌≡◌, ◌+◌, ◌-◌, ◌≤◌, length, drop}
use Rattle.std.specs.List.{prefix_len}
use Rattle.json5_tokens.specs.ByteRuns.{is_ascii_blank}
use Rattle.json5_tokens.proofs.blanks.many_blanks_len.Given as goal

abbrev pub invariant-loop-i : goal.invariant-loop-i
invariant-loop-i l =
    (prefix_len is_ascii_blank l.bytes ≡ l.i + prefix_len is_ascii_blank (drop l.i l.bytes)) × (l.i ≤ length l.bytes)

abbrev pub decreases-loop-i : goal.decreases-loop-i
decreases-loop-i l = length l.bytes - l.i
