use Rattle.std.proofs.Common.{◌≡◌, List, ℕ, ◌++◌, length}
use Rattle.std.specs.Fmt.{HasWritten, IsPlainFormatter}
use Rattle.json5_grammar.specs.Written.NumberText.{decimal_text}
use Rattle.json5_types.proofs.decimal.DecimalDisplay.fmt.Given as goal

-- what isn't left is written
abbrev pub invariant-loop-piece : goal.invariant-loop-piece
invariant-loop-piece g l =
    (done : List ℕ) × (decimal_text l.fn.self ≡ done ++ l.pieces) × (IsPlainFormatter l.initial.f → HasWritten g.W.Write.write_str_gives l.initial.f done l.f)

abbrev pub decreases-loop-piece : goal.decreases-loop-piece
decreases-loop-piece g l = length l.pieces
