use Rattle.json5_tidy.proofs.SameSteps.{both_empty}
use Rattle.json5_tidy.proofs.same_tokens.are_empty.Goals as goal

pub returns-then-is_empty : goal.returns-then-is_empty
returns-then-is_empty c = λ t. both_empty c.args.left.now c.args.right.now c.if-is_empty.ensures c.is_empty-then-is_empty.ensures t
