use Rattle.std.proofs.Common.{◌≡◌, ◌<◌, ◌%◌, ◌*◌, ◌^◌}
use Rattle.json5_schema.proofs.multiples.with_zeros.Given as goal

abbrev pub invariant-loop : goal.invariant-loop
invariant-loop l = (l.rest ≡ l.number * 10 ^ l.counter % l.divisor) × (l.rest < l.divisor)
