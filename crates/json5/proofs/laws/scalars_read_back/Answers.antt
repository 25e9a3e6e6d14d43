use Rattle.json5.proofs.ReadsBack.{string_back}
use Rattle.json5.proofs.laws.scalars_read_back.Goals as goal

pub returns-clause-string : goal.returns-clause-string
returns-clause-string c = string_back
