use Rattle.std.proofs.Common.{◌≡◌, ◌+◌, ◌-◌, ◌≤◌, length, take, drop}
use Rattle.std.specs.List.{prefix_len}
use Rattle.json5_grammar.specs.Language.Characters.{is_digit, Each}
use Rattle.json5_types.specs.DigitRuns.{Gathers}
use Rattle.json5_types.proofs.inline_digits.InlineDigits.push_digits.Given as goal

abbrev pub invariant-loop-i : goal.invariant-loop-i
invariant-loop-i l = record {
  count : prefix_len is_digit l.bytes ≡ l.i + prefix_len is_digit (drop l.i l.bytes);
  inside : l.i ≤ length l.bytes;
  room : l.len ≤ 19;
  whole : length l.self-inside.bytes ≡ 19;
  digits : Each is_digit (take l.len l.self-inside.bytes);
  old : (l.self-inside.len ≤ 19) × Each is_digit (take l.self-inside.len l.self-inside.bytes);
  more : l.self-inside.len ≤ l.len;
  gathered : Gathers (take l.initial.self-inside.len l.initial.self-inside.bytes) (take l.len l.self-inside.bytes) (take l.i l.bytes);
}

abbrev pub decreases-loop-i : goal.decreases-loop-i
decreases-loop-i l = length l.bytes - l.i
