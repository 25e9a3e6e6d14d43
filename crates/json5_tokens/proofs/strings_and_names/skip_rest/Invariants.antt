use Rattle.std.proofs.Common.{ℕ, Bool, List}
use Rattle.std.specs.Str.{chars}
use Rattle.json5_tokens.specs.ScanTexts.{text_at, ReadsUpTo, left_in}
use Rattle.json5_tokens.proofs.strings_and_names.skip_rest.Given as goal

abbrev pub invariant-loop-stop : goal.invariant-loop-stop
invariant-loop-stop l = (u : List ℕ) × (escape_free : Bool) × ReadsUpTo (text_at l.fn.kind (chars l.fn.escape)) u escape_free l.stop

abbrev pub decreases-loop-stop : goal.decreases-loop-stop
decreases-loop-stop l = left_in l.stop
