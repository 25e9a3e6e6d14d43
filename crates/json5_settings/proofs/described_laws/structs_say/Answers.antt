use Rattle.json5_settings.proofs.FieldsSaid.{fitting_open, fitting_struct}
use Rattle.json5_settings.proofs.described_laws.structs_say.Goals as goal

pub returns-clause-alone : goal.returns-clause-alone
returns-clause-alone g c = λ s ks fit describes. fitting_struct (g.F.StructFields.layout s) ks fit describes

pub returns-clause-others : goal.returns-clause-others
returns-clause-others g c = λ s ks fit describes. fitting_open (g.F.StructFields.layout s) ks fit describes
