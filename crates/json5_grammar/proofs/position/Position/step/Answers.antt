use Rattle.std.proofs.Common.{rules}
use Rattle.json5_grammar.proofs.position.Position.step.Goals as goal

pub returns-in_default : goal.returns-in_default
returns-in_default c = search rules
