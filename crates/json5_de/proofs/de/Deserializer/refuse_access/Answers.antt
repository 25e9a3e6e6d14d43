use Rattle.std.proofs.Common.{rules}
use Rattle.json5_de.proofs.de.Deserializer.refuse_access.Goals as goal

pub returns : goal.returns
returns g c = search rules
