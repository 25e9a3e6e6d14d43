use Rattle.json5_edit.proofs.StepsSurveyed.{no_collection, no_entry}
use Rattle.json5_edit.proofs.plain.entry_found.Goals as goal

pub returns-in-None-entry-clause-refused : goal.returns-in-None-entry-clause-refused
returns-in-None-entry-clause-refused c = no_entry {found = c.in-Some.found} c.args.step c.requires.0 c.in-None-entry.is (rw c.in-Some.is at c.in_ok-found.ensures)

pub returns-in-None-clause-refused : goal.returns-in-None-clause-refused
returns-in-None-clause-refused c = no_collection c.args.step c.args.room c.args.old.now c.requires.0 c.requires.1 (rw c.in-None.is at c.in_ok-found.ensures)
