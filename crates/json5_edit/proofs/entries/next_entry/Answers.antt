use Rattle.json5_edit.proofs.EntriesPassed.{entry_moves}
use Rattle.json5_edit.proofs.entries.next_entry.Goals as goal

pub returns-in_default : goal.returns-in_default
returns-in_default c = rw c.in_default.is at c.in_ok-key.ensures.begun

pub returns : goal.returns
returns c = entry_moves _ (rw c.in-Some.is at c.in_ok-key.ensures.begun) c.in_ok-value.ensures
