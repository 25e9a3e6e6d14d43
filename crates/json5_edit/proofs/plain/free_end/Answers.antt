use Rattle.json5_edit.specs.declared.paths.Step.TheVariants as step
use Rattle.json5_edit.proofs.Refused.{key_free}
use Rattle.json5_edit.proofs.StepsSurveyed.{key_taken, no_entry}
use Rattle.json5_edit.proofs.plain.free_end.Goals as goal

pub returns-in-None-entry-clause-free : goal.returns-in-None-entry-clause-free
returns-in-None-entry-clause-free c = key_free c.args.old.now c.args.key (no_entry {found = c.in-Some.found} (step.Key c.args.key) c.requires.0 c.in-None-entry.is (rw c.in-Some.is at c.in_ok-found.ensures))

pub returns-in-Some-entry-clause-refused : goal.returns-in-Some-entry-clause-refused
returns-in-Some-entry-clause-refused c = key_taken c.args.key _ c.requires.0 c.in-Some-entry.is (rw c.in-Some.is at c.in_ok-found.ensures)
