use Rattle.json5_de.proofs.VariantBrackets.{object_ends}
use Rattle.json5_de.proofs.map.MapAccess.end.Goals as goal

pub returns : goal.returns
returns g c = object_ends c.args.self.de.now c.args.self.progress _ _ c.end_access.ensures
