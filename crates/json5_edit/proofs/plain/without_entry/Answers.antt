use Rattle.json5_edit.proofs.Placed.{ok_then}
use Rattle.json5_edit.proofs.PlainlyEdited.{boundary_there, rest_utf8}
use Rattle.json5_edit.proofs.Removed.{found_entry, is_ahead, removed_here, same_len, whole_boundary}
use Rattle.json5_edit.proofs.plain.without_entry.Goals as goal

pub split_at-requires : goal.split_at-requires
split_at-requires c = boundary_there c.utf8.old c.requires.entry.entry.spot

pub len_ahead-requires : goal.len_ahead-requires
len_ahead-requires c = is_ahead c.split_at.result.1.now c.kind.ensures c.utf8.old (found_entry c.requires) c.split_at.ensures.back

pub split_at-requires-2 : goal.split_at-requires-2
split_at-requires-2 c = whole_boundary c.split_at.result.1.now c.in_ok-len.len (rest_utf8 c.split_at.result.1.now c.utf8.old c.requires.entry.entry.spot c.split_at.ensures.back) c.in_ok-len.ensures

pub returns-in_default : goal.returns-in_default
returns-in_default c = ok_then c.join.result (λ made k. removed_here c.args.old.now _ c.split_at.result.0.now c.split_at.result.1.now c.split_at-2.result.0.now c.split_at-2.result.1.now c.in_ok-len.len c.kind.ensures c.requires.small c.utf8.old (found_entry c.requires) c.split_at.ensures.front c.split_at.ensures.back c.in_ok-len.ensures c.split_at-2.ensures.front c.split_at-2.ensures.back (λ e. rw c.in_default.is at c.requires.entry.before) k) c.join.ensures

pub without_last-requires : goal.without_last-requires
without_last-requires c = (found_entry c.requires, rw c.in-Some.is at c.requires.entry.before)

pub returns : goal.returns
returns c = ok_then c.join-2.result (λ made k. removed_here c.args.old.now _ c.split_at.result.0.now c.split_at.result.1.now c.split_at-2.result.0.now c.split_at-2.result.1.now c.in_ok-len.len c.kind.ensures c.requires.small c.utf8.old (found_entry c.requires) c.split_at.ensures.front c.split_at.ensures.back c.in_ok-len.ensures c.split_at-2.ensures.front c.split_at-2.ensures.back (λ e. absurd (c.if-len.false (same_len c.in_ok-len.ensures e))) k) c.join-2.ensures
