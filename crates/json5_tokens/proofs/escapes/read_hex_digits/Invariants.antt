use Rattle.std.proofs.Common.{◌≡◌, ◌-◌, ◌^◌, ◌<◌, ◌≤◌}
use denote.Text.{Utf8}
use denote.Shadow.{shadow}
use Rattle.std.specs.Str.{chars}
use Rattle.json5_grammar.specs.Model.ReadTexts.{hex}
use Rattle.json5_tokens.proofs.escapes.read_hex_digits.Given as goal

abbrev pub invariant-loop-wanted : goal.invariant-loop-wanted
invariant-loop-wanted l = record {
  text : shadow (Utf8 l.rest);
  fewer : l.wanted ≤ l.fn.count;
  small : l.value < 16 ^ (l.fn.count - l.wanted);
  read : hex l.wanted l.value (chars l.fn.escape) (chars l.rest) ≡ hex l.fn.count 0 (chars l.fn.escape) (chars l.fn.text);
}

abbrev pub decreases-loop-wanted : goal.decreases-loop-wanted
decreases-loop-wanted l = l.wanted
