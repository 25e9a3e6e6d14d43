use Rattle.std.proofs.Common.{◌≡◌, ℕ, List, ◌++◌, length, true}
use Rattle.std.specs.Str.{chars}
use Rattle.json5_edit_style.specs.Comments.{BeginsLine}
use Rattle.json5_edit_style.proofs.comments.begins_line.Given as goal

abbrev pub invariant-loop-c : goal.invariant-loop-c
invariant-loop-c l = (done : List ℕ) × (chars l.fn.text ≡ done ++ l.scanner.unread) × (l.begins ≡ true → BeginsLine done)

abbrev pub decreases-loop-c : goal.decreases-loop-c
decreases-loop-c l = length l.scanner.unread
