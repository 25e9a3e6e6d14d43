use Rattle.std.proofs.Common.{◌≡◌, ◌≤◌, ◌^◌, drop}
use Rattle.json5_grammar.specs.Language.Characters.{is_digit, Each}
use Rattle.json5_grammar.specs.Model.FixedWidthNumbers.{capped}
use Rattle.json5_tokens.proofs.numbers.slices.limited_value.Given as goal

abbrev pub invariant-loop-byte : goal.invariant-loop-byte
invariant-loop-byte l = record {
  digits : Each is_digit (drop l.byte-index l.bytes);
  bound : l.value ≤ 2 ^ 100;
  same : capped (2 ^ 100) l.value (drop l.byte-index l.bytes) ≡ capped (2 ^ 100) 0 l.fn.digits;
}
