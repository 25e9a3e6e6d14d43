use Rattle.std.proofs.Common.{rules}
use Rattle.json5_de.proofs.de.Deserializer.deserialize_tuple.Goals as goal

pub returns : goal.returns
returns g c = search rules
