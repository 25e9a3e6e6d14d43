use Rattle.std.proofs.Common.{arith}
use Rattle.json5_settings.proofs.WholesSaid.{integers_say}
use Rattle.json5_settings.proofs.described.integers.Goals as goal

pub returns-clause-says : goal.returns-clause-says
returns-clause-says c = integers_say c.args.most c.requires
