-- Which numbers have a spelling: whole ones of 128 bits, and decimals in normal form.
-- A promise rests on this.
use Rattle.std.specs.Prelude.{ℕ, ◌-◌, ◌^◌, Bool, true, ◌&&◌, ◌||◌, not, nat_eq, List, ℤ, pos, neg_ℤ}
use Rattle.std.specs.List.{list_all}
use Rattle.std.specs.Ordering.{int_eq}
use Rattle.std.specs.Cmp.Lexicographic.{pointwise}
use lib.Signed.{le_z}
use Rattle.json5_grammar.specs.Language.Characters.{is_digit}
use Rattle.json5_grammar.specs.Language.Numbers.{Number, infinite, nan, finite, whole, decimal, without_zeros, is_empty}

abbrev pub is_within : ℤ → ℤ → ℤ → Bool
is_within low high z = le_z low z && le_z z high

-- digits without outer zeros, an exponent in range, and 0 for zero
abbrev pub is_normal : List ℕ → ℤ → Bool
is_normal ds e = list_all is_digit ds && (pointwise nat_eq (without_zeros ds) ds && (is_within (neg_ℤ (pos 32768)) (pos 32767) e && (not (is_empty ds) || int_eq e (pos 0))))

-- the test of `IsNumber`
unfoldable pub is_writable : Number → Bool
is_writable (whole z) = is_within (neg_ℤ (pos (2 ^ 127))) (pos (2 ^ 128 - 1)) z
is_writable (decimal (infinite m)) = true
is_writable (decimal (nan m)) = true
is_writable (decimal (finite m ds e)) = is_normal ds e
