use Rattle.std.proofs.Common.{arith}
use Rattle.json5_settings.proofs.WholesSaid.{naturals_say}
use Rattle.json5_settings.proofs.described.naturals.Goals as goal

pub returns-clause-says : goal.returns-clause-says
returns-clause-says c = naturals_say c.args.most (omega arith)
