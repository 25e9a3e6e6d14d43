use Rattle.std.proofs.Common.{◌≡◌, ◌<◌, ◌%◌, take}
use Rattle.std.specs.Str.Parse.{digits_value}
use Rattle.json5_schema.proofs.multiples.remainder.Given as goal

abbrev pub invariant-loop-digit : goal.invariant-loop-digit
invariant-loop-digit l = (l.rest ≡ digits_value 10 (take l.digit-index l.digits) % l.divisor) × (l.rest < l.divisor)
