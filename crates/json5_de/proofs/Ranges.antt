-- A number of a range is within its ends.
use Rattle.std.proofs.Common.{◌≡◌, ℕ, ◌+◌, ◌≤◌, Bool, true, false, nat_lt, ℤ, pos, negsuc, nat_abs, ◌≤ℤ◌, Some, None, refl, sym, subst, arith}
use Rattle.std.specs.Prelude.{if◌then◌else◌}
use Rattle.std.proofs.lemmas.Bool.Decides.{nat_tests}
use Rattle.std.proofs.lemmas.Int.{ints, to_z-of_z}
use mir.Syntax.{w128}
use mir.Val.{to_z, of_z, SFits}
use Rattle.json5_de.specs.Convert.{natural_below, integer_below, IsUpTo, IsWithin}

natural_tested : (max m n : ℕ) (b : Bool) → nat_lt m (max + 1) ≡ b → (if b then Some m else None) ≡ Some n → IsUpTo max n
natural_tested max m n true h e =
    let same : m ≡ n = cc in
    let low : m ≤ max = grind (arith, nat_tests, h) in
    subst (λ x. IsUpTo max x) same low
natural_tested max m n false h e = absurd (cc)

pub natural_fits : (max n : ℕ) (z : ℤ) → natural_below (max + 1) z ≡ Some n → IsUpTo max n
natural_fits max n (pos m) e = natural_tested max m n (nat_lt m (max + 1)) refl e
natural_fits max n (negsuc m) e = absurd (cc)

integer_tested : (max k : ℕ) (z n : ℤ) → (k ≤ max → IsWithin (pos max) z) → (b : Bool) → nat_lt k (max + 1) ≡ b → (if b then Some z else None) ≡ Some n → IsWithin (pos max) n
integer_tested max k z n within true h e =
    let same : z ≡ n = cc in
    let low : k ≤ max = grind (arith, nat_tests, h) in
    subst (λ x. IsWithin (pos max) x) same (within low)
integer_tested max k z n within false h e = absurd (cc)

pub integer_fits : (max z n : ℤ) → pos 0 ≤ℤ max → integer_below (nat_abs max + 1) z ≡ Some n → IsWithin max n
integer_fits (pos m) (pos k) n p e = integer_tested m k (pos k) n (λ low. (omega (arith, ints, low), omega (arith, ints, low))) (nat_lt k (m + 1)) refl e
integer_fits (pos m) (negsuc k) n p e = integer_tested m k (negsuc k) n (λ low. (omega (arith, ints, low), omega (arith, ints, low))) (nat_lt k (m + 1)) refl e
integer_fits (negsuc m) z n p e = absurd (omega (arith, ints, p))

-- so is what is stored of it
pub stored_fits : (max n : ℤ) → SFits w128 max → IsWithin max n → IsWithin max (to_z w128 (of_z w128 n))
stored_fits max n fits (low, high) = subst (λ x. IsWithin max x) (sym (to_z-of_z w128 n (omega (arith, ints, fits, low, high)))) (low, high)
