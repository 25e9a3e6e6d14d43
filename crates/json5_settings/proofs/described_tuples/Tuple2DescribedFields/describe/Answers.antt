use Rattle.json5_settings.proofs.FieldsSaid.{both_describe}
use Rattle.json5_settings.proofs.FieldsAdded.{both_added, on_ok_then, when_ok}
use Rattle.json5_settings.proofs.described_tuples.Tuple2DescribedFields.describe.Goals as goal

pub returns-in-Ok-clause-says : goal.returns-in-Ok-clause-says
returns-in-Ok-clause-says g c = both_describe (g.A.StructFields.layout (g.A.StructFields.shape c.args.self.0)) (g.B.StructFields.layout (g.B.StructFields.shape c.args.self.1)) g.A.DescribedFields.kinds g.B.DescribedFields.kinds c.describe-first.ensures.says c.describe-second.ensures.says

pub returns-in-Err-clause-says : goal.returns-in-Err-clause-says
returns-in-Err-clause-says g c = both_describe (g.A.StructFields.layout (g.A.StructFields.shape c.args.self.0)) (g.B.StructFields.layout (g.B.StructFields.shape c.args.self.1)) g.A.DescribedFields.kinds g.B.DescribedFields.kinds c.describe-first.ensures.says c.describe-second.ensures.says

pub returns-in-Ok-clause-adds : goal.returns-in-Ok-clause-adds
returns-in-Ok-clause-adds g c = on_ok_then c.describe-second.result c.describe-second.ensures.adds (λ second. both_added _ _ _ _ _ _ _ c.describe-first.ensures.says.one_each (when_ok c.describe-first.result _ c.in-Ok.is c.describe-first.ensures.adds) second)
