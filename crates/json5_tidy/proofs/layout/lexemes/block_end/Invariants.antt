use Rattle.std.proofs.Common.{◌-◌, length}
use Rattle.json5_tidy.specs.Lexemes.{EndsWithin}
use Rattle.json5_tidy.proofs.layout.lexemes.block_end.Given as goal

abbrev pub invariant-loop-star : goal.invariant-loop-star
invariant-loop-star l = EndsWithin l.bytes l.fn.from l.at

abbrev pub decreases-loop-star : goal.decreases-loop-star
decreases-loop-star l = length l.bytes - l.at
