use Rattle.std.proofs.Common.{sym}
use Rattle.json5_walk.proofs.Calls.{keeps, live_takes, took_spaced_number}
use Rattle.json5_walk.proofs.walk.Walk.short_number.Goals as goal

pub invariant_of-self : goal.invariant_of-self
invariant_of-self c = rw c.if-not-short_number.ensures c.self.invariant

pub invariant_of-self-2 : goal.invariant_of-self-2
invariant_of-self-2 c =
    let (n, k) = c.if-not-short_number.ensures in
    (keeps c.self.invariant.0 (λ h. live_takes _ c.if-not-takes_value.ensures) (took_spaced_number k.gap k.literal n c.if-not-takes_value.ensures k.split k.is_gap k.is_number k.stops).moved, c.self.invariant.1)

pub returns : goal.returns
returns c =
    let (n, k) = c.if-not-short_number.ensures in
    rw (sym c.self.view_is) (n, took_spaced_number k.gap k.literal n c.if-not-takes_value.ensures k.split k.is_gap k.is_number k.stops)
