use Rattle.std.proofs.Common.{◌≡◌, length, ◌≤◌}
use denote.Text.{Utf8}
use denote.Shadow.{shadow}
use Rattle.std.specs.Str.{chars}
use Rattle.json5_grammar.specs.Model.ReadBlanks.{skip, Mode}
use Rattle.json5_tokens.proofs.blanks.skip_block.Given as goal

abbrev pub invariant-loop-next : goal.invariant-loop-next
invariant-loop-next l = shadow (Utf8 l.rest) × (skip Mode.block (chars l.rest) ≡ skip Mode.block (chars l.fn.text)) × (length l.rest ≤ length l.fn.text)

abbrev pub decreases-loop-next : goal.decreases-loop-next
decreases-loop-next l = length l.rest
