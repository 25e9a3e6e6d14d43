use Rattle.json5_edit.proofs.Surveyed.{Passing}
use Rattle.json5_edit.proofs.survey.survey_entries.Given as goal

abbrev pub invariant-loop-count : goal.invariant-loop-count
invariant-loop-count l = Passing l.fn.step l.fn.walk l.walk l.count l.entry l.before l.end
