use Rattle.std.proofs.Common.{refl}
use Rattle.json5_edit.proofs.Surveyed.{itself, value_itself, surveys_so, opened_step, not_opened_step}
use Rattle.json5_edit.proofs.survey.find_entry.Goals as goal

pub returns-then-not-open : goal.returns-then-not-open
returns-then-not-open c = not_opened_step c.args.step c.args.room c.kind.ensures refl c.new-walk.ensures c.requires.1 (c.if-not-open.ensures.refused refl)

pub survey_entries-requires-clause-inside : goal.survey_entries-requires-clause-inside
survey_entries-requires-clause-inside c = itself (opened_step c.args.step c.args.room c.kind.ensures refl c.utf8.old c.new-walk.ensures (c.if-not-open.ensures.taken refl))

pub survey_entries-requires-clause-value : goal.survey_entries-requires-clause-value
survey_entries-requires-clause-value c = value_itself (opened_step c.args.step c.args.room c.kind.ensures refl c.utf8.old c.new-walk.ensures (c.if-not-open.ensures.taken refl)) c.requires.1

pub returns-in-Ok : goal.returns-in-Ok
returns-in-Ok c = surveys_so (opened_step c.args.step c.args.room c.kind.ensures refl c.utf8.old c.new-walk.ensures (c.if-not-open.ensures.taken refl)) c.in-Ok.ensures.surveyed
