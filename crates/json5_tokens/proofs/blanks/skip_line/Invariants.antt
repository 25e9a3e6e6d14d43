use Rattle.std.proofs.Common.{◌≡◌, length, ◌≤◌}
use denote.Text.{Utf8}
use denote.Shadow.{shadow}
use Rattle.std.specs.Str.{chars}
use Rattle.json5_grammar.specs.Model.ReadBlanks.{skip, Mode}
use Rattle.json5_tokens.proofs.blanks.skip_line.Given as goal

abbrev pub invariant-loop-c : goal.invariant-loop-c
invariant-loop-c l = shadow (Utf8 l.rest) × (skip Mode.line (chars l.rest) ≡ skip Mode.line (chars l.fn.text)) × (length l.rest ≤ length l.fn.text)

abbrev pub decreases-loop-c : goal.decreases-loop-c
decreases-loop-c l = length l.rest
