use Rattle.json5_settings.proofs.FieldsSaid.{required_describes, optional_describes, default_describes}
use Rattle.json5_settings.proofs.described_laws.fields_say.Goals as goal

pub returns-clause-required : goal.returns-clause-required
returns-clause-required g c = λ name kw says. required_describes name kw g.T.Deserialize.convert says

pub returns-clause-optional : goal.returns-clause-optional
returns-clause-optional g c = λ name kw says. optional_describes name kw g.T.Deserialize.convert says

pub returns-clause-default : goal.returns-clause-default
returns-clause-default g c = λ name kw content says. default_describes name kw g.T.Deserialize.convert says content
