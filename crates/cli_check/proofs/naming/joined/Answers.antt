use Rattle.std.proofs.Common.{rules, append_assoc}
use Rattle.cli_check.proofs.naming.joined.Goals as goal

pub returns : goal.returns
returns c = search (rules, append_assoc)
