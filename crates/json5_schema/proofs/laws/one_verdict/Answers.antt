use Rattle.json5_schema.proofs.OneVerdict.{one_verdict}
use Rattle.json5_schema.proofs.laws.one_verdict.Goals as goal

pub returns : goal.returns
returns c = one_verdict
