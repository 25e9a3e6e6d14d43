use Rattle.std.proofs.Common.{[], string_bytes}
use Rattle.json5_edit.proofs.Placed.{ok_then}
use Rattle.json5_edit.proofs.Refused.{faulty}
use Rattle.json5_edit_values.proofs.PatchesMade.{patched_none}
use Rattle.json5_edit_values.proofs.patch.applying.document.Goals as goal

pub returns-in-Ok-clause-made : goal.returns-in-Ok-clause-made
returns-in-Ok-clause-made c = ok_then c.owned.result (λ made e. patched_none c.args.text.now (string_bytes made) e c.in-Ok.ensures.sound) c.owned.ensures.made

pub returns-in-Err-clause-refused : goal.returns-in-Err-clause-refused
returns-in-Err-clause-refused c = c.of_text.ensures c.args.text.now [] (faulty c.args.text.now c.in-Err.error c.in-Err.ensures.refused)
