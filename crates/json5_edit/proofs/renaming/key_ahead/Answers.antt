use Rattle.json5_edit.proofs.KeysSpelled.{first_seam, second_seam, key_taken}
use Rattle.json5_edit.proofs.renaming.key_ahead.Goals as goal

pub split_at-requires : goal.split_at-requires
split_at-requires c = first_seam c.args.text.now c.in-Ok.span c.utf8.text c.in-Ok.ensures.taken

pub split_at-requires-in-Ok : goal.split_at-requires-in-Ok
split_at-requires-in-Ok c = second_seam c.args.text.now c.in-Ok.span c.utf8.text c.in-Ok.ensures.taken

pub returns-in-Ok : goal.returns-in-Ok
returns-in-Ok c = key_taken c.args.text.now c.in-Ok.span c.utf8.text c.in-Ok.ensures.taken c.split_at.result.0.now c.split_at-in-Ok.result.1.now c.split_at.ensures.front c.split_at-in-Ok.ensures.back
