use Rattle.std.proofs.Common.{rules}
use Rattle.json5_de.proofs.map.MapAccess.next_field.Goals as goal

pub returns-then-is_some-clause-reads : goal.returns-then-is_some-clause-reads
returns-then-is_some-clause-reads g c = search rules
