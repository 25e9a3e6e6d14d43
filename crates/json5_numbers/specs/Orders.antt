-- The order of decimals.
-- A promise rests on this.
use Rattle.std.specs.Prelude.{ℕ, ◌*◌, ◌^◌, Bool, List, ℤ, ◌-ℤ◌, Option, Some, None, if◌then◌else◌}
use Rattle.std.specs.Int.{int_min}
use Rattle.std.specs.Ordering.{int_cmp, bool_cmp}
use Rattle.std.specs.Str.Parse.{digits_value}
use Rattle.std.specs.declared.cmp.Ordering.{Ordering}
use Rattle.std.specs.declared.cmp.Ordering.TheVariants.{Less, Greater}
use Rattle.json5_grammar.specs.Language.Numbers.{Decimal, infinite, nan, finite, signed}
use Rattle.json5_types.specs.NumberWholes.{distance}

-- the digits times ten to the exponent, in units of ten to `low`, which is no larger
abbrev pub size_in : ℤ → List ℕ → ℤ → ℕ
size_in low ds e = digits_value 10 ds * 10 ^ distance (e -ℤ low)

-- two finite numbers, in units of ten to the smaller exponent
abbrev pub finite_cmp : Bool → List ℕ → ℤ → Bool → List ℕ → ℤ → Ordering
finite_cmp m ds e n fs g = int_cmp (signed m (size_in (int_min e g) ds e)) (signed n (size_in (int_min e g) fs g))

-- None at not-a-number; -0 is 0
abbrev pub decimal_cmp : Decimal → Decimal → Option Ordering
decimal_cmp (nan m) f = None
decimal_cmp (infinite m) (nan n) = None
decimal_cmp (infinite m) (infinite n) = Some (bool_cmp n m)
decimal_cmp (infinite m) (finite n fs g) = Some (if m then Less else Greater)
decimal_cmp (finite m ds e) (nan n) = None
decimal_cmp (finite m ds e) (infinite n) = Some (if n then Greater else Less)
decimal_cmp (finite m ds e) (finite n fs g) = Some (finite_cmp m ds e n fs g)
