use Rattle.std.proofs.Common.{rules}
use Rattle.json5_de.proofs.map.MapAccess.required_field.Goals as goal

pub returns-in-None-clause-value : goal.returns-in-None-clause-value
returns-in-None-clause-value g c = search rules
