use Rattle.json5_tidy.specs.Lexemes.{EndsWithin}
use Rattle.json5_tidy.proofs.layout.lexemes.line_comment_end.Given as goal

abbrev pub invariant-loop-end : goal.invariant-loop-end
invariant-loop-end l = EndsWithin l.bytes l.fn.from l.end

abbrev pub decreases-loop-end : goal.decreases-loop-end
decreases-loop-end l = l.end
