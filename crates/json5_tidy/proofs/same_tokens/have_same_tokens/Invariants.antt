use Rattle.std.proofs.Common.{length}
use denote.Text.{Utf8}
use denote.Shadow.{shadow}
use Rattle.std.specs.Str.{chars}
use Rattle.json5_tidy.specs.SameTokens.{HaveSameTokens}
use Rattle.json5_tidy.proofs.same_tokens.have_same_tokens.Given as goal

abbrev pub invariant-loop-first : goal.invariant-loop-first
invariant-loop-first l = shadow (Utf8 l.left) × shadow (Utf8 l.right) × (HaveSameTokens l.left l.right → HaveSameTokens l.fn.text l.fn.made)

abbrev pub decreases-loop-first : goal.decreases-loop-first
decreases-loop-first l = length (chars l.left)
