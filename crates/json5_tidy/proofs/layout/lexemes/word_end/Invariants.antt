use Rattle.std.proofs.Common.{◌-◌, length}
use Rattle.json5_tidy.specs.Lexemes.{EndsWithin}
use Rattle.json5_tidy.proofs.layout.lexemes.word_end.Given as goal

abbrev pub invariant-loop-at : goal.invariant-loop-at
invariant-loop-at l = EndsWithin l.bytes l.fn.from l.at

abbrev pub decreases-loop-at : goal.decreases-loop-at
decreases-loop-at l = length l.bytes - l.at
