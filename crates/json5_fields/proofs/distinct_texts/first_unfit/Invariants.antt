use Rattle.std.proofs.Common.{length}
use Rattle.json5_fields.proofs.TextsThatDiffer.{Judged}
use Rattle.json5_fields.proofs.distinct_texts.first_unfit.Given as goal

abbrev pub invariant-loop-item : goal.invariant-loop-item
invariant-loop-item l = Judged l.fn.rule.most l.fn.rule.longest l.fn.list l.rest

abbrev pub decreases-loop-item : goal.decreases-loop-item
decreases-loop-item l = length l.rest
