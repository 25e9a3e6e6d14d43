use Rattle.json5_edit.proofs.Removed.{start_seam, next_seam, end_seam, comma_taken}
use Rattle.json5_edit.proofs.plain.comma_ahead.Goals as goal

pub split_at-requires : goal.split_at-requires
split_at-requires c = start_seam c.args.text.now c.in-Ok.span c.utf8.text c.in-Ok.ensures.taken

pub split_at-requires-in-Ok : goal.split_at-requires-in-Ok
split_at-requires-in-Ok c = next_seam c.args.text.now c.in-Ok.span c.utf8.text c.in-Ok.ensures.taken

pub split_at-requires-in-Ok-2 : goal.split_at-requires-in-Ok-2
split_at-requires-in-Ok-2 c = end_seam c.args.text.now c.in-Ok.span c.utf8.text c.in-Ok.ensures.taken c.split_at-in-Ok.result.0.now c.split_at-in-Ok.ensures.front

pub returns-in-Ok : goal.returns-in-Ok
returns-in-Ok c = comma_taken c.args.text.now c.in-Ok.span c.utf8.text c.in-Ok.ensures.taken c.split_at.result.0.now c.split_at-in-Ok.result.0.now c.split_at-in-Ok-2.result.1.now c.split_at-in-Ok.result.1.now c.requires c.split_at.ensures.front c.split_at-in-Ok.ensures.front c.split_at-in-Ok.ensures.back c.split_at-in-Ok-2.ensures.back
