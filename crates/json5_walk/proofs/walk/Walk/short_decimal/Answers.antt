use Rattle.std.proofs.Common.{sym}
use Rattle.json5_grammar.specs.Language.Numbers.{decimal}
use Rattle.json5_walk.proofs.Calls.{keeps, live_takes, took_spaced_number}
use Rattle.json5_walk.proofs.walk.Walk.short_decimal.Goals as goal

pub invariant_of-self : goal.invariant_of-self
invariant_of-self c = let k = c.in-Some.ensures in (keeps c.self.invariant.0 (λ h. live_takes _ c.if-not-takes_value.ensures) (took_spaced_number k.gap k.literal (decimal _) c.if-not-takes_value.ensures k.split k.is_gap k.is_number k.stops).moved, c.self.invariant.1)

pub returns-in-Some : goal.returns-in-Some
returns-in-Some c = let k = c.in-Some.ensures in rw (sym c.self.view_is) (took_spaced_number k.gap k.literal (decimal _) c.if-not-takes_value.ensures k.split k.is_gap k.is_number k.stops)
