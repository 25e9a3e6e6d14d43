-- Steps by which code finds a number. Private clauses and proofs alone cite them.
-- A promise rests on this.
use Rattle.std.specs.Prelude.{ℕ, ◌-◌, ◌^◌, ◌==◌, if◌then◌else◌, ℤ, pos, neg_ℤ, ◌+ℤ◌, ◌≤ℤ◌}

-- the exponent of digits without the zeros at their end: it grows by one for each zero, and zero has 0
abbrev pub raised : ℤ → ℕ → ℕ → ℤ
raised exponent count bare_count = if bare_count == 0 then pos 0 else exponent +ℤ pos (count - bare_count)

-- far within 128 bits
pub record IsSmallExponent (exponent : ℤ) : Type 0 where
  pub low : neg_ℤ (pos (2 ^ 120)) ≤ℤ exponent
  pub high : exponent ≤ℤ pos (2 ^ 120)
