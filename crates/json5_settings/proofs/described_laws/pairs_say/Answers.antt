use Rattle.json5_settings.proofs.FieldsSaid.{both_describe}
use Rattle.json5_settings.proofs.described_laws.pairs_say.Goals as goal

pub returns : goal.returns
returns g c = λ a b ks ls first second. both_describe (g.A.StructFields.layout a) (g.B.StructFields.layout b) ks ls first second
