-- Durations as texts.
-- A promise rests on this.
use Rattle.std.specs.Prelude.{◌==◌, ◌<◌, ◌^◌, ℕ, if◌then◌else◌, nat_lt, List, [], ◌∷◌, length, Option, None, codes}
use Rattle.json5_settings_types.specs.Sums.{IsSum, Measure, comes_to, parts_text}

-- the units, by their nanoseconds
abbrev pub duration_units : List Measure
duration_units =
    record { name = codes "d"; size = 86400000000000 } ∷ record { name = codes "h"; size = 3600000000000 } ∷ record { name = codes "m"; size = 60000000000 } ∷ record { name = codes "s"; size = 1000000000 }
    ∷ record { name = codes "ms"; size = 1000000 } ∷ record { name = codes "us"; size = 1000 } ∷ record { name = codes "ns"; size = 1 } ∷ []

-- the text is so many nanoseconds: a sum of one part at least
abbrev pub IsDuration : List ℕ → ℕ → Type 0
IsDuration text n = IsSum duration_units text n × (0 < length text) × (n < 2 ^ 64)

abbrev pub duration_of : List ℕ → Option ℕ
duration_of text = if nat_lt 0 (length text) then comes_to duration_units 0 text else None

-- how so many nanoseconds are written: the greatest units first
abbrev pub duration_text : ℕ → List ℕ
duration_text n = if n == 0 then codes "0s" else parts_text duration_units n
