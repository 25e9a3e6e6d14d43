-- What contracts see of a whole number.
-- A promise rests on this.
use Rattle.std.specs.Prelude.{◌≡◌, ◌↔◌, ℕ, suc, ◌^◌, ◌<◌, ◌≤◌, Bool, true, false, ℤ, pos, negsuc, Option, IsSome, IfSome}
use Rattle.json5_grammar.specs.Language.Numbers.{InWhole}

abbrev pub is_below_zero : ℤ → Bool
is_below_zero (pos n) = false
is_below_zero (negsuc n) = true

abbrev pub distance : ℤ → ℕ
distance (pos n) = n
distance (negsuc n) = suc n

-- after a minus at most 2^127 and not 0
abbrev pub IsSignedWhole : Bool → ℕ → Type 0
IsSignedWhole false n = n < 2 ^ 128
IsSignedWhole true n = (0 < n) × (n ≤ 2 ^ 127)

-- the whole number in a narrower type, if it fits; each whole number is in range
pub record Converts {A : Type 0} (number_of : A → ℤ) (fits : ℤ → Type 0) (z : ℤ) (result : Option A) : Type 0 where
  pub in_range : IsSome result ↔ fits z
  pub value : IfSome result (λ number. number_of number ≡ z)
  pub whole : InWhole z
