use Rattle.json5_de.proofs.VariantBrackets.{array_ends}
use Rattle.json5_de.proofs.seq.SeqAccess.end.Goals as goal

pub returns : goal.returns
returns g c = array_ends c.args.self.de.now c.args.self.progress _ _ c.end_access.ensures
