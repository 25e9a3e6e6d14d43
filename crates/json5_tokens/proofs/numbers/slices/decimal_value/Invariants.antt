use Rattle.std.proofs.Common.{◌≡◌, ◌^◌, drop}
use Rattle.json5_grammar.specs.Language.Characters.{is_digit, Each}
use Rattle.json5_grammar.specs.Model.FixedWidthNumbers.{checked}
use Rattle.json5_tokens.proofs.numbers.slices.decimal_value.Given as goal

abbrev pub invariant-loop-byte : goal.invariant-loop-byte
invariant-loop-byte l = record {
  digits : Each is_digit (drop l.byte-index l.byte-items);
  same : checked (2 ^ 128) 10 l.value (drop l.byte-index l.byte-items) ≡ checked (2 ^ 128) 10 0 l.fn.digits;
}
