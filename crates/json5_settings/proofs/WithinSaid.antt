-- Schemas of whole numbers within bounds say what their types convert.
use Rattle.std.proofs.Common.{◌≡◌, ◌∙◌, ◌^◌, ℕ, Bool, true, false, ◌&&◌, nat_lt, Option, Some, None, refl, arith, FitsSigned, w64}
use Rattle.std.specs.Prelude.{ℤ, pos, negsuc, neg_ℤ, ◌≤ℤ◌, ◌<ℤ◌, int_le, if◌then◌else◌, is_some}
use Rattle.std.specs.Int.Signed.{le_z}
use Rattle.std.proofs.lemmas.Bool.Decides.{nat_tests}
use Rattle.std.proofs.lemmas.Int.{ints}
use Rattle.json5_grammar.specs.Language.Numbers.{InWhole, whole, decimal}
use Rattle.json5_grammar.specs.Language.Trees.{Tree, null, boolean, number, text, array, object}
use Rattle.json5_de.specs.Convert.{as_number, as_whole, integer_below}
use Rattle.json5_de.specs.Refinement.{if_more}
use Rattle.json5_settings_types.specs.Bounds.{if_within}
use Rattle.json5_settings.specs.DescribedSchemas.{Says, whole_schema, within_of}
use Rattle.json5_settings.proofs.WholesSaid.{whole_says}

-- a number of 64 bits, if it is within the bounds
abbrev in_bounds : ℤ → ℤ → ℤ → Option ℤ
in_bounds low high z = if_more (if_within low high) (integer_below (2 ^ 63) z)

abbrev Is64 : ℤ → Type 0
Is64 z = (neg_ℤ (pos (2 ^ 63)) ≤ℤ z) × (z <ℤ pos (2 ^ 63))

both_tests : (a b : Bool) (z : ℤ) → (a && b) ≡ is_some (if a then (if b then Some z else None) else None)
both_tests true true z = refl
both_tests true false z = refl
both_tests false b z = refl

within_is : (low high z : ℤ) → (int_le low z && int_le z high) ≡ is_some (if_within low high z)
within_is low high z = both_tests (le_z low z) (le_z z high) z

neither : (a b : Bool) → b ≡ false → (a && b) ≡ false
neither true b h = h
neither false b h = refl

fits : (low high : ℤ) → Is64 low → Is64 high → (z : ℤ) → (int_le low z && int_le z high) ≡ is_some (in_bounds low high z)
fits low high l h (pos n) = by (nat_lt n (2 ^ 63)) refl
  where
    by : (b : Bool) → nat_lt n (2 ^ 63) ≡ b → (int_le low (pos n) && int_le (pos n) high) ≡ is_some (if_more (if_within low high) (if b then Some (pos n) else None))
    by true e = within_is low high (pos n)
    by false e = let k = h.1 in neither (int_le low (pos n)) (int_le (pos n) high) (grind (arith, ints, nat_tests, e, k))
fits low high l h (negsuc n) = by (nat_lt n (2 ^ 63)) refl
  where
    above : int_le low (negsuc n) ≡ false → (int_le low (negsuc n) && int_le (negsuc n) high) ≡ false
    above e = rw e refl

    by : (b : Bool) → nat_lt n (2 ^ 63) ≡ b → (int_le low (negsuc n) && int_le (negsuc n) high) ≡ is_some (if_more (if_within low high) (if b then Some (negsuc n) else None))
    by true e = within_is low high (negsuc n)
    by false e = let k = l.0 in above (grind (arith, ints, nat_tests, e, k))

same : (low high : ℤ) (t : Tree) → is_some (as_number (as_whole (in_bounds low high)) t) ≡ is_some (within_of low high t)
same low high (number (whole z)) = refl
same low high (number (decimal d)) = refl
same low high null = refl
same low high (boolean b) = refl
same low high (text u e) = refl
same low high (array ts) = refl
same low high (object ps) = refl

in_whole : (z : ℤ) → Is64 z → InWhole z
in_whole z h = let a = h.0 in let b = h.1 in (omega (arith, ints, a), omega (arith, ints, b))

bounds_say : (low high : ℤ) → Is64 low → Is64 high → Says (whole_schema low high) (within_of low high)
bounds_say low high l h =
    let says = whole_says low high (in_whole low l) (in_whole high h) (in_bounds low high) (fits low high l h) in
    record { steps = says.steps; verdict = λ n k root v t sound plain. says.verdict n k root v t sound plain ∙ same low high t }

pub within_says : (low high : ℤ) → FitsSigned w64 low → FitsSigned w64 high → Says (whole_schema low high) (within_of low high)
within_says low high l h = bounds_say low high (omega (arith, ints, l), omega (arith, ints, l)) (omega (arith, ints, h), omega (arith, ints, h))

pub ordered_say : (low high : ℤ) → neg_ℤ (pos (2 ^ 63)) ≤ℤ low → low ≤ℤ high → high <ℤ pos (2 ^ 63) → Says (whole_schema low high) (within_of low high)
ordered_say low high l m h = bounds_say low high (l, omega (arith, ints, m, h)) (omega (arith, ints, l, m), h)
