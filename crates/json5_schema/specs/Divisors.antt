-- What is divided by.
-- Private.
use Rattle.std.specs.Prelude.{ℕ, ◌<◌, ◌^◌}

-- above zero, and so small that ten times what is left has room
abbrev pub IsSmallDivisor : ℕ → Type 0
IsSmallDivisor divisor = (0 < divisor) × (divisor < 2 ^ 64)
