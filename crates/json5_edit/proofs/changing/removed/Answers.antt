use Rattle.json5_edit.proofs.Placed.{ok_then}
use Rattle.json5_edit.proofs.Removed.{end_tokens, loosened}
use Rattle.json5_edit.proofs.changing.removed.Goals as goal

pub removed_by_lines-requires : goal.removed_by_lines-requires
removed_by_lines-requires c = end_tokens c.args.found c.utf8.old c.requires

pub returns-in-Err-Failed : goal.returns-in-Err-Failed
returns-in-Err-Failed c = ok_then c.without_entry.result (λ new k. loosened c.args.leads k) c.without_entry.ensures
