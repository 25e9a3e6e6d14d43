-- What is left is no longer than before, and shorter after a comma or a closing bracket.
use Rattle.std.proofs.Common.{◌≡◌, ℕ, ◌<◌, ◌≤◌, Bool, true, false, cond, List, [], ◌∷◌, length, ap, sym, ◌∙◌, arith, length-append, Some}
use Rattle.std.specs.Prelude.{◌==◌}
use Rattle.json5_grammar.specs.declared.error_code.ErrorCode.TheVariants as codes
use Rattle.json5_grammar.specs.Faults.Fronts as fronts
use Rattle.json5_grammar.specs.Model.Reading.{Read, here, got, bad, and_then}
use Rattle.json5_grammar.specs.Model.ReadBlanks.{skip, between}
use Rattle.json5_grammar.specs.Model.ReadSteps.{colon_after, member_head, entry_head, entry_at, comma_at, separator, next_value}
use Rattle.json5_grammar.specs.Model.ReadTexts.{key}
use Rattle.json5_grammar.specs.Model.ReadValues.{colon_at}
use Rattle.json5_grammar.proofs.FoundPlaces.{Found}
use Rattle.json5_grammar.proofs.ValuesSound.{IsGap, IsKeyAt, gap_found, key_found}

-- ---- what is left is no longer than before

abbrev Short : {A : Type 0} → ℕ → Read A → Type 0
Short n (got a r) = length r ≤ n
Short n (bad e p) = Unit {0}

short_then : {A B : Type 0} (n : ℕ) (m : Read A) (f : A → List ℕ → Read B) → Short n m → ((a : A) (r : List ℕ) → length r ≤ n → Short n (f a r)) → Short n (and_then m f)
short_then n (got a r) f h k = k a r h
short_then n (bad e p) f h k = tt

short_within : {A : Type 0} (n m : ℕ) (read : Read A) → Short n read → n ≤ m → Short m read
short_within n m (got a r) h l = omega (arith, h, l)
short_within n m (bad e p) h l = tt

short_skip : (x : List ℕ) → Short (length x) (skip between x)
short_skip x = by_answer (skip between x) (gap_found x)
  where
    by_answer : (m : Read (Unit {0})) → Found (IsGap x) x m → Short (length x) m
    by_answer (got u r) g = omega (arith, ap length g.1, length-append g.0 r)
    by_answer (bad e p) g = tt

short_key : (x : List ℕ) → Short (length x) (key x)
unfolding key
short_key [] = tt
short_key (c ∷ r) = by_answer (key (c ∷ r)) (key_found c r)
  where
    by_answer : (m : Read (List ℕ × Bool)) → Found (IsKeyAt (c ∷ r)) (c ∷ r) m → Short (length (c ∷ r)) m
    by_answer (got a y) g = omega (arith, ap length g.1, length-append g.0 y)
    by_answer (bad e p) g = tt

short_colon : (x : List ℕ) → Short (length x) (colon_at x)
short_colon [] = tt
short_colon (c ∷ r) = by_test (c == 58)
  where
    by_test : (b : Bool) → Short (length (c ∷ r)) (cond {A = Read (Unit {0})} b (got tt r) (bad (Some codes.ExpectedColon) (here (c ∷ r))))
    by_test true = omega arith
    by_test false = tt

short_member : (k : fronts.BracketKind) (x : List ℕ) → Short (length x) (entry_at k x)
unfolding entry_at
short_member k x = short_then (length x) (skip between x) (λ u y. entry_head k y) (short_skip x) (λ u y l. short_within (length y) (length x) (entry_head k y) (head k y) l)
  where
    pair : (y : List ℕ) → Short (length y) (member_head y)
    pair y = short_then (length y) (key y) _ (short_key y) (λ a r l. short_then (length y) (colon_after r) _
        (short_then (length y) (skip between r) _ (short_within (length r) (length y) (skip between r) (short_skip r) l)
        (λ u z m. short_then (length y) (colon_at z) _ (short_within (length z) (length y) (colon_at z) (short_colon z) m) (λ v q o. short_within (length q) (length y) (skip between q) (short_skip q) o)))
        (λ u z m. m))

    closes : (b : Bool) (c : ℕ) (r : List ℕ) (m : Read Bool) → Short (length (c ∷ r)) m → Short (length (c ∷ r)) (cond b (got false r) m)
    closes true c r m h = omega arith
    closes false c r m h = h

    head : (k : fronts.BracketKind) (y : List ℕ) → Short (length y) (entry_head k y)
    head fronts.of_array [] = omega arith
    head fronts.of_object [] = tt
    head fronts.of_array (c ∷ r) = closes (c == 93) c r (got true (c ∷ r)) (omega arith)
    head fronts.of_object (c ∷ r) = closes (c == 125) c r (member_head (c ∷ r)) (pair (c ∷ r))

-- less is left after something was taken
abbrev Shorter : {A : Type 0} → ℕ → Read A → Type 0
Shorter n (got a r) = length r < n
Shorter n (bad e p) = Unit {0}

shorter_then : {A B : Type 0} (n : ℕ) (m : Read A) (f : A → List ℕ → Read B) → Short n m → ((a : A) (r : List ℕ) → length r ≤ n → Shorter n (f a r)) → Shorter n (and_then m f)
shorter_then n (got a r) f h k = k a r h
shorter_then n (bad e p) f h k = tt

then_short : {A B : Type 0} (n : ℕ) (m : Read A) (f : A → List ℕ → Read B) → Shorter n m → ((a : A) (r : List ℕ) → length r < n → Shorter n (f a r)) → Shorter n (and_then m f)
then_short n (got a r) f h k = k a r h
then_short n (bad e p) f h k = tt

below : {A : Type 0} (n m : ℕ) (read : Read A) → Short n read → n < m → Shorter m read
below n m (got a r) h l = omega (arith, h, l)
below n m (bad e p) h l = tt

shorter_separator : (k : fronts.BracketKind) (x : List ℕ) → Shorter (length x) (separator k x)
unfolding separator
shorter_separator k x = shorter_then (length x) (skip between x) (λ u y. comma_at k y) (short_skip x) (λ u y l. comma y l)
  where
    comma : (y : List ℕ) → length y ≤ length x → Shorter (length x) (comma_at k y)
    comma [] l = tt
    comma (c ∷ r) l = by_tests (c == 44) (c == fronts.closing k)
      where
        by_tests : (a b : Bool) → Shorter (length x) (cond a (got true r) (cond b (got false r) (bad (Some codes.ExpectedComma) (here (c ∷ r)))))
        by_tests true b = omega (arith, l)
        by_tests false true = omega (arith, l)
        by_tests false false = tt

shorter_next : (k : fronts.BracketKind) (x : List ℕ) → Shorter (length x) (next_value k true x)
shorter_next k x = then_short (length x) (separator k x) _ (shorter_separator k x) (λ goes y l. by_test goes y l)
  where
    by_test : (goes : Bool) (y : List ℕ) → length y < length x → Shorter (length x) (cond goes (entry_at k y) (got false y))
    by_test true y l = below (length y) (length x) (entry_at k y) (short_member k y) l
    by_test false y l = l

shorter_of : (n : ℕ) (b : Bool) (r : List ℕ) (m : Read Bool) → Shorter n m → m ≡ got b r → length r < n
shorter_of n b r (got a y) h f = let same : y ≡ r = cc in omega (arith, h, ap length same)
shorter_of n b r (bad c p) h f = absurd (cc)

-- a comma and what follows it, or the closing sign, take something
pub next_shorter : (k : fronts.BracketKind) (comma_due b : Bool) (x r : List ℕ) → next_value k comma_due x ≡ got b r → comma_due ≡ true → length r < length x
next_shorter k comma_due b x r e is = shorter_of (length x) b r (next_value k true x) (shorter_next k x) (sym (ap (λ d. next_value k d x) is) ∙ e)
