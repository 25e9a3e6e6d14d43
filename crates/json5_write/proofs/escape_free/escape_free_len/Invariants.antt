use Rattle.std.proofs.Common.{◌≡◌, ◌+◌, ◌-◌, ◌≤◌, length, drop}
use Rattle.std.specs.List.{prefix_len}
use Rattle.json5_write.specs.EscapeFree.{is_escape_free_byte}
use Rattle.json5_write.proofs.escape_free.escape_free_len.Given as goal

abbrev pub invariant-loop-i : goal.invariant-loop-i
invariant-loop-i l =
    (prefix_len is_escape_free_byte l.bytes ≡ l.i + prefix_len is_escape_free_byte (drop l.i l.bytes)) × (l.i ≤ length l.bytes)

abbrev pub decreases-loop-i : goal.decreases-loop-i
decreases-loop-i l = length l.bytes - l.i

abbrev pub invariant-loop-i-2 : goal.invariant-loop-i-2
invariant-loop-i-2 l =
    (prefix_len is_escape_free_byte l.bytes ≡ l.i + prefix_len is_escape_free_byte (drop l.i l.bytes)) × (l.i ≤ length l.bytes)

abbrev pub decreases-loop-i-2 : goal.decreases-loop-i-2
decreases-loop-i-2 l = length l.bytes - l.i
