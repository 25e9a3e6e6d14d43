-- The first byte that fails a test, as a run of bytes that pass it.
use Rattle.std.proofs.Common.{◌≡◌, ℕ, zero, suc, ◌<◌, Bool, true, false, not, List, [], ◌∷◌, length, refl, ap, sym, ◌∙◌, arith, Option, Some, None}
use Rattle.std.specs.Prelude.{slice_index}
use Rattle.std.specs.List.{prefix_len}
use Rattle.std.specs.Option.{unwrap_or}
use Rattle.memchr.specs.Find.{IsFirstByte}

all_pass : (q : ℕ → Bool) (d : List ℕ) → ((j : ℕ) → j < length d → q (slice_index d j) ≡ true) → prefix_len q d ≡ length d
all_pass q [] f = refl
all_pass q (c ∷ d) f = let k = all_pass q d (λ j l. f (suc j) (omega arith)) in rw (f 0 (omega arith)) (omega (arith, k))

first_fails : (q : ℕ → Bool) (d : List ℕ) (k : ℕ) → k < length d → ((j : ℕ) → j < k → q (slice_index d j) ≡ true) → q (slice_index d k) ≡ false → prefix_len q d ≡ k
first_fails q [] k l f h = absurd (omega arith)
first_fails q (c ∷ d) zero l f h = rw h refl
first_fails q (c ∷ d) (suc k) l f h = let n = first_fails q d k (omega arith) (λ j i. f (suc j) (omega arith)) h in rw (f 0 (omega arith)) (omega (arith, n))

-- where the search finds a byte, or nothing
module _ (test q : ℕ → Bool) (opposite : (x : ℕ) → q x ≡ not (test x)) (d : List ℕ) where
  passes : (x : ℕ) → (test x ≡ true → ⊥) → q x ≡ true
  passes x n = opposite x ∙ decide (test x) n
    where
      decide : (b : Bool) → (b ≡ true → ⊥) → not b ≡ true
      decide true n = absurd (n refl)
      decide false n = refl

  -- the length of the run; None is the end
  pub run_found : (r : Option ℕ) → IsFirstByte test d r → unwrap_or r (length d) ≡ prefix_len q d
  run_found None h = sym (all_pass q d (λ j l. passes (slice_index d j) (h j (omega arith) l)))
  run_found (Some k) h = sym (first_fails q d k h.0.high (λ j l. passes (slice_index d j) (h.0.before j (omega arith) l)) (opposite (slice_index d k) ∙ ap not h.1))
