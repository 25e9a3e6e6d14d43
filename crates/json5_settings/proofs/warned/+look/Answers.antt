use Rattle.std.proofs.Common.{refl}
use Rattle.json5_walk.proofs.Entries.{on_then}
use Rattle.json5_settings.proofs.WarningsTold.{looked_all, looked_more, looked_none, opened_later, opened_looks, scalar_looks}
use Rattle.json5_settings.proofs.warned.+look.Goals as goal

pub look-returns-then-open : goal.look-returns-then-open
look-returns-then-open t c = on_then c.look_into.result c.look_into.ensures (λ m. opened_looks (c.if-open.ensures.taken refl) m)

pub look-returns-then-open-2 : goal.look-returns-then-open-2
look-returns-then-open-2 t c = on_then c.look_into-then-open-2.result c.look_into-then-open-2.ensures (λ m. opened_later (c.if-open.ensures.kept refl) (c.if-open-2.ensures.taken refl) m)

pub look-returns : goal.look-returns
look-returns t c = on_then c.look_at.result c.look_at.ensures (λ m. scalar_looks (c.if-open.ensures.refused refl) (c.if-open.ensures.kept refl) (c.if-open-2.ensures.refused refl) (c.if-open-2.ensures.kept refl) m)

pub look_into-loop-init : goal.look_into-loop-init
look_into-loop-init t c = looked_none c.args.kind c.args.walk.now c.args.found.now.items c.new-keys.result c.new-keys.ensures.empty

pub look_into-returns-in_default-2 : goal.look_into-returns-in_default-2
look_into-returns-in_default-2 t c = looked_all c.loop.invariant (rw c.in_default-2.is at c.in_ok-key.ensures.begun)

pub look_into-loop-preserved : goal.look_into-loop-preserved
look_into-loop-preserved t c = looked_more c.loop.keys c.note_key.new.keys c.in-Some-2.key c.loop.invariant (rw c.in-Some-2.is at c.in_ok-key.ensures.begun) c.in_ok-note_key.ensures c.in_ok-look.ensures
