-- Forms of a number's value that code can compute in a fixed width.
-- Private.
use Rattle.std.specs.Prelude.{ℕ, ◌+◌, ◌*◌, min, cond, nat_lt, List, [], ◌∷◌, Option, Some, None}
use Rattle.std.specs.Char.{digit_value}

-- the number that decimal digits spell after n, or cap where that is less
abbrev pub capped : ℕ → ℕ → List ℕ → ℕ
capped cap n [] = n
capped cap n (c ∷ s) = capped cap (min cap (n * 10 + digit_value c)) s

-- the number that digits of this base spell after n, if it is below the bound
abbrev pub checked : ℕ → ℕ → ℕ → List ℕ → Option ℕ
checked bound base n [] = Some n
checked bound base n (c ∷ s) = cond (nat_lt (n * base + digit_value c) bound) (checked bound base (n * base + digit_value c) s) None
