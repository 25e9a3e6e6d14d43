use Rattle.json5_settings_types.specs.Keys.{members_of}
use Rattle.json5_settings_types.specs.Rest.{of_others}
use Rattle.json5_settings_types.proofs.RestRead.{field_refused, field_takes, other_refused, other_takes}
use Rattle.json5_settings_types.proofs.rest.WithRestReadingFields.read.Goals as goal

pub returns-in-Ok-true-clause-takes : goal.returns-in-Ok-true-clause-takes
returns-in-Ok-true-clause-takes g c =
    let l = g.F.StructFields.layout (g.F.StructFields.kept c.args.self.now.reading) in
    let qs = members_of g.T.Deserialize.content c.args.self.now.rest.values.entries in
    rw c.in-Ok-true.ensures.same (field_takes l g.T.Deserialize.convert g.F.StructFields.faults (of_others g.T.Deserialize.convert g.T.Deserialize.refuses) _ _ qs _ _ _ _ (rw c.in-Ok-true.field-0-test at c.in-Ok-true.ensures.tries))

pub returns-in-Ok-false-clause-takes : goal.returns-in-Ok-false-clause-takes
returns-in-Ok-false-clause-takes g c =
    let l = g.F.StructFields.layout (g.F.StructFields.kept c.args.self.now.reading) in
    let qs = members_of g.T.Deserialize.content c.args.self.now.rest.values.entries in
    rw c.in-Ok-false.ensures.same (other_takes l g.T.Deserialize.convert g.F.StructFields.faults (of_others g.T.Deserialize.convert g.T.Deserialize.refuses) _ _ qs _ _ _ _ _ _ (rw c.in-Ok-false.field-0-test at c.in-Ok-false.ensures.tries) c.read-in-Ok-false.ensures.takes)

pub returns-in-Ok-false-clause-refused : goal.returns-in-Ok-false-clause-refused
returns-in-Ok-false-clause-refused g c =
    let l = g.F.StructFields.layout (g.F.StructFields.kept c.args.self.now.reading) in
    let qs = members_of g.T.Deserialize.content c.args.self.now.rest.values.entries in
    other_refused l g.T.Deserialize.convert g.F.StructFields.faults (of_others g.T.Deserialize.convert g.T.Deserialize.refuses) _ _ qs _ _ _ _ (rw c.in-Ok-false.field-0-test at c.in-Ok-false.ensures.tries) c.read-in-Ok-false.ensures.refused

pub returns-in-Err-clause-takes : goal.returns-in-Err-clause-takes
returns-in-Err-clause-takes g c =
    let l = g.F.StructFields.layout (g.F.StructFields.kept c.args.self.now.reading) in
    let qs = members_of g.T.Deserialize.content c.args.self.now.rest.values.entries in
    rw c.in-Err.ensures.same (field_takes l g.T.Deserialize.convert g.F.StructFields.faults (of_others g.T.Deserialize.convert g.T.Deserialize.refuses) _ _ qs _ _ _ _ c.in-Err.ensures.tries)

pub returns-in-Err-clause-refused : goal.returns-in-Err-clause-refused
returns-in-Err-clause-refused g c =
    let l = g.F.StructFields.layout (g.F.StructFields.kept c.args.self.now.reading) in
    let qs = members_of g.T.Deserialize.content c.args.self.now.rest.values.entries in
    field_refused l g.T.Deserialize.convert g.F.StructFields.faults (of_others g.T.Deserialize.convert g.T.Deserialize.refuses) _ _ qs _ _ _ _ c.in-Err.ensures.tries
