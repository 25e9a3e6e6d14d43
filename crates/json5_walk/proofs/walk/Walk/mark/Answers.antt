use Rattle.std.proofs.Common.{sym, refl, ap, ◌∙◌, ◌-◌, length}
use Rattle.json5_walk.proofs.Calls.{keeps_marking, live_takes, passed, room_left, mark_moves}
use Rattle.json5_walk.proofs.Refusals.{value_hopeless}
use Rattle.json5_walk.proofs.walk.Walk.mark.Goals as goal

pub invariant_of-self : goal.invariant_of-self
invariant_of-self c = (keeps_marking c.self.invariant.0 (live_takes _ c.if-not-takes_value.ensures) (mark_moves (record { start = c.saturating_sub-start.result; end = c.saturating_sub-end.result; room = c.saturating_sub-room.result }) c.if-not-takes_value.ensures (room_left c.self.inside.limit c.self.inside.inner c.self.inside.outer.items c.saturating_sub-room.ensures c.open_count.ensures c.len.ensures.value) (passed c.in-Ok.ensures.given) (c.saturating_sub-start.ensures ∙ ap (λ n. length c.self.inside.text.now - n) c.unread_len.ensures) (c.saturating_sub-end.ensures ∙ ap (λ n. length c.self.inside.text.now - n) c.unread_len-in-Ok.ensures)), c.self.invariant.1)

pub returns-in-Ok-clause-marked : goal.returns-in-Ok-clause-marked
returns-in-Ok-clause-marked c = rw (sym c.self.view_is) (mark_moves (record { start = c.saturating_sub-start.result; end = c.saturating_sub-end.result; room = c.saturating_sub-room.result }) c.if-not-takes_value.ensures (room_left c.self.inside.limit c.self.inside.inner c.self.inside.outer.items c.saturating_sub-room.ensures c.open_count.ensures c.len.ensures.value) (passed c.in-Ok.ensures.given) (c.saturating_sub-start.ensures ∙ ap (λ n. length c.self.inside.text.now - n) c.unread_len.ensures) (c.saturating_sub-end.ensures ∙ ap (λ n. length c.self.inside.text.now - n) c.unread_len-in-Ok.ensures))

pub returns-in-Err-clause-refused : goal.returns-in-Err-clause-refused
returns-in-Err-clause-refused c = rw (sym c.self.view_is) (value_hopeless {now = c.self.inside.scanner} c.self.invariant.0 (room_left c.self.inside.limit c.self.inside.inner c.self.inside.outer.items c.saturating_sub-room.ensures c.open_count.ensures c.len.ensures.value) refl c.in-Err.ensures.refused)
