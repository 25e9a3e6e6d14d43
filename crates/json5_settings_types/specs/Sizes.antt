-- Sizes as texts.
-- A promise rests on this.
use Rattle.std.specs.Prelude.{◌==◌, ◌<◌, ◌^◌, ℕ, if◌then◌else◌, nat_lt, List, [], ◌∷◌, length, Option, None, codes}
use Rattle.json5_settings_types.specs.Sums.{IsAmount, Measure, amount_of, amount_text}

-- the units, by their bytes
abbrev pub size_units : List Measure
size_units =
    record { name = codes "PiB"; size = 1125899906842624 } ∷ record { name = codes "PB"; size = 1000000000000000 } ∷ record { name = codes "TiB"; size = 1099511627776 } ∷ record { name = codes "TB"; size = 1000000000000 }
    ∷ record { name = codes "GiB"; size = 1073741824 } ∷ record { name = codes "GB"; size = 1000000000 } ∷ record { name = codes "MiB"; size = 1048576 } ∷ record { name = codes "MB"; size = 1000000 }
    ∷ record { name = codes "KiB"; size = 1024 } ∷ record { name = codes "kB"; size = 1000 } ∷ record { name = codes "KB"; size = 1000 } ∷ record { name = codes "B"; size = 1 } ∷ []

-- the text is so many bytes
abbrev pub IsSize : List ℕ → ℕ → Type 0
IsSize text n = IsAmount size_units text n × (n < 2 ^ 64)

abbrev pub size_of : List ℕ → Option ℕ
size_of text = if nat_lt 0 (length text) then amount_of size_units text else None

-- how so many bytes are written: in the greatest unit of which they are a whole number
abbrev pub size_text : ℕ → List ℕ
size_text n = if n == 0 then codes "0B" else amount_text size_units n
