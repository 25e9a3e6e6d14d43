use Rattle.std.proofs.Common.{◌≡◌, ◌+◌, ◌-◌, ◌<◌, ◌≤◌, ◌^◌, length, drop}
use Rattle.std.specs.List.{prefix_len}
use Rattle.json5_grammar.specs.Language.Characters.{is_digit}
use Rattle.json5_grammar.specs.Language.Numbers.{spelled}
use Rattle.json5_grammar.specs.Model.ReadNumbers.{front_of}
use Rattle.json5_tokens.proofs.numbers.short.front_digits.Given as goal

abbrev pub invariant-loop-i : goal.invariant-loop-i
invariant-loop-i l = record {
  counted : prefix_len is_digit l.bytes ≡ l.i + prefix_len is_digit (drop l.i l.bytes);
  value : spelled 10 0 (front_of is_digit l.bytes) ≡ spelled 10 l.value (front_of is_digit (drop l.i l.bytes));
  inside : l.i ≤ length l.bytes;
  small : l.value < 10 ^ 19;
}

abbrev pub decreases-loop-i : goal.decreases-loop-i
decreases-loop-i l = length l.bytes - l.i
