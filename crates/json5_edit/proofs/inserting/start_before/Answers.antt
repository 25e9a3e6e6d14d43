use Rattle.json5_edit.proofs.MembersBefore.{has_member, object_value}
use Rattle.json5_edit.proofs.Removed.{found_entry}
use Rattle.json5_edit.proofs.inserting.start_before.Goals as goal

pub entry_found-requires : goal.entry_found-requires
entry_found-requires c = (c.requires.0, object_value c.args.room c.args.old.now c.requires)

pub returns-in-Ok-entry_found-clause-found : goal.returns-in-Ok-entry_found-clause-found
returns-in-Ok-entry_found-clause-found c = rw c.in-Key.is (has_member c.in-Key.next (found_entry c.in-Ok-entry_found.ensures.found))
