use Rattle.std.proofs.Common.{◌≡◌, ◌<◌, ◌^◌, length}
use denote.Text.{Utf8}
use denote.Shadow.{shadow}
use Rattle.std.specs.Str.{chars}
use Rattle.json5_grammar.specs.Model.ReadNumbers.{hex_digits}
use Rattle.json5_tokens.proofs.numbers.hexadecimal.hexadecimal_digits.Given as goal

abbrev pub invariant-loop-byte : goal.invariant-loop-byte
invariant-loop-byte l = record {
  text : shadow (Utf8 l.rest);
  same : hex_digits l.value (chars l.rest) ≡ hex_digits l.fn.first (chars l.fn.text);
  bound : l.value < 2 ^ 128;
}

abbrev pub decreases-loop-byte : goal.decreases-loop-byte
decreases-loop-byte l = length l.rest
