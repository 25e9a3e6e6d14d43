-- Steps by which decimals are compared. Private clauses and proofs alone cite them.
-- Private.
use Rattle.std.specs.Prelude.{ℕ, Bool, true, false, ◌&&◌, ◌||◌, not, List, ℤ, if◌then◌else◌}
use Rattle.std.specs.Int.{int_min}
use Rattle.std.specs.Ordering.{nat_cmp, bool_cmp, ordering_reverse}
use Rattle.std.specs.declared.cmp.Ordering.{Ordering}
use Rattle.std.specs.declared.cmp.Ordering.TheVariants.{Less, Equal, Greater}
use Rattle.json5_grammar.specs.Language.Numbers.{Decimal, is_empty}
use Rattle.json5_types.specs.NumberDecimals.{is_infinity, digits_in, exponent_in}
use Rattle.json5_numbers.specs.Orders.{size_in}

abbrev pub digits_cmp : List ℕ → ℤ → List ℕ → ℤ → Ordering
digits_cmp ds e fs g = nat_cmp (size_in (int_min e g) ds e) (size_in (int_min e g) fs g)

-- whatever the signs; infinity is above all others
abbrev pub size_cmp : Decimal → Decimal → Ordering
size_cmp d f = if is_infinity d || is_infinity f then bool_cmp (is_infinity d) (is_infinity f) else digits_cmp (digits_in d) (exponent_in d) (digits_in f) (exponent_in f)

abbrev pub is_zero : Decimal → Bool
is_zero d = not (is_infinity d) && is_empty (digits_in d)

-- of two numbers with these signs, by the order of their sizes, and whether both are zero
abbrev pub signed_cmp : Bool → Bool → Bool → Ordering → Ordering
signed_cmp false false zeros sizes = sizes
signed_cmp true true zeros sizes = ordering_reverse sizes
signed_cmp true false zeros sizes = if zeros then Equal else Less
signed_cmp false true zeros sizes = if zeros then Equal else Greater
