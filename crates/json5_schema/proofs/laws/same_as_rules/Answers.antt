use Rattle.json5_schema.proofs.OneVerdict.{same_as_rules}
use Rattle.json5_schema.proofs.laws.same_as_rules.Goals as goal

pub returns : goal.returns
returns c = same_as_rules
