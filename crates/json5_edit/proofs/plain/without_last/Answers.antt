use Rattle.json5_edit.proofs.Placed.{ok_then}
use Rattle.json5_edit.proofs.PlainlyEdited.{boundary_there}
use Rattle.json5_edit.proofs.Removed.{bare_boundary, begins_with_comma, is_ahead_later, removed_after}
use Rattle.json5_edit.proofs.plain.without_last.Goals as goal

pub split_at-requires : goal.split_at-requires
split_at-requires c = boundary_there c.utf8.old c.requires.1.spot

pub comma_ahead-requires : goal.comma_ahead-requires
comma_ahead-requires c = begins_with_comma c.split_at.result.1.now c.utf8.old c.requires c.split_at.ensures.back

pub len_ahead-requires : goal.len_ahead-requires
len_ahead-requires c = is_ahead_later c.split_at.result.1.now c.in_ok-before.before.now c.in_ok-before.after.now c.in_ok-before.rest.now c.kind.ensures c.utf8.old c.requires c.split_at.ensures.back c.in_ok-before.ensures

pub split_at-requires-2 : goal.split_at-requires-2
split_at-requires-2 c = bare_boundary c.in_ok-before.rest.now c.in_ok-len.len c.in_ok-before.ensures.rest_text c.in_ok-len.ensures

pub returns : goal.returns
returns c = ok_then c.join_four.result (λ made k. removed_after c.args.old.now _ c.split_at.result.0.now c.split_at.result.1.now c.in_ok-before.before.now c.in_ok-before.after.now c.in_ok-before.rest.now c.split_at-2.result.0.now c.split_at-2.result.1.now c.in_ok-len.len c.kind.ensures c.requires.0.small c.utf8.old c.requires c.split_at.ensures.front c.split_at.ensures.back c.in_ok-before.ensures c.in_ok-len.ensures c.split_at-2.ensures.front c.split_at-2.ensures.back k) c.join_four.ensures
