-- What is read of a value and of what is left of a bracket, step by step, with its trees.
use Rattle.std.proofs.Common.{◌≡◌, ℕ, suc, ◌≤◌, Bool, true, false, cond, List, [], ◌∷◌, length, refl, ap, sym, ◌∙◌, arith, Option, Some, None}
use Rattle.std.specs.Prelude.{◌==◌}
use Rattle.json5_grammar.specs.Faults.Codes.{ExpectedComma}
use Rattle.json5_grammar.specs.Faults.Fronts.{of_array, of_object}
use Rattle.json5_grammar.specs.Language.Trees.{Tree, Members, array, object, no_more, more, no_member, member}
use Rattle.json5_grammar.specs.Model.Reading.{Read, got, bad, here, and_then, placed}
use Rattle.json5_grammar.specs.Model.ReadBlanks.{skip, between}
use Rattle.json5_grammar.specs.Model.ReadTexts.{key}
use Rattle.json5_grammar.specs.Model.ReadValues.{read, read_elements, read_members, close_or, element_at, after_element, value_after, member_at, key_or, after_member}
use Rattle.json5_grammar.specs.Model.ReadSteps.{colon_after, entry_head, entry_at, comma_at, separator, trees_of, trees_after, read_pairs, pairs_after, key_head, key_at, first_of_trees, goes_on_with, member_or_end}
use Rattle.json5_grammar.proofs.FoundPlaces.{Found, then_then}
use Rattle.json5_grammar.proofs.ValueHeads.{read_step}
use Rattle.json5_grammar.proofs.ValuesSound.{IsGap, gap_found}
use Rattle.json5_grammar.proofs.ValueTurns.{gap_no_longer, member_same, pair_same, same_items, same_entries}
use Rattle.json5_grammar.proofs.ValueSteps.{value_after_colon}

-- ---- steps after steps

-- the blanks, and what the text after them gives
after_gap : {A B : Type 0} (x : List ℕ) (f : List ℕ → Read A) (g : List ℕ → Read B) (h : B → List ℕ → Read A) → ((y : List ℕ) → length y ≤ length x → f y ≡ and_then (g y) h)
    → and_then (skip between x) (λ u y. f y) ≡ and_then (and_then (skip between x) (λ u y. g y)) h
after_gap {A = A} {B = B} x f g h k = by_answer (skip between x) (gap_found x)
  where
    by_answer : (m : Read (Unit {0})) → Found (IsGap x) x m → and_then m (λ u y. f y) ≡ and_then (and_then m (λ u y. g y)) h
    by_answer (got u y) gap = k y (gap_no_longer x y u gap)
    by_answer (bad e p) gap = refl

-- ---- arrays

again : (d : ℕ) (m : Read Tree) → and_then m (λ t r. and_then (skip between r) (λ u y. and_then (after_element (trees_of d) y) (λ ts z. got (more t ts) z))) ≡ and_then m (λ t y. and_then (trees_after d y) (λ ts z. got (more t ts) z))
again d (got t r) = sym (then_then (skip between r) (λ u y. after_element (trees_of d) y) (λ ts z. got (more t ts) z))
again d (bad e p) = refl

first_member : (d n : ℕ) (y : List ℕ) → length y ≤ n → element_at (read d) (read_elements (read d) n) y ≡ first_of_trees d y
first_member d n y l = member_same d (read_elements (read d) n) (trees_of d) y (λ z s. same_items d n (suc (length z)) z (omega arith) (omega arith)) ∙ again d (read d y)

closes_or : {A : Type 0} (b : Bool) (nothing : A) (c : ℕ) (r : List ℕ) (m : Read A) (f : List ℕ → Read A) → m ≡ f (c ∷ r) → cond b (got nothing r) m ≡ and_then (cond b (got false r) (got true (c ∷ r))) (goes_on_with nothing f)
closes_or true nothing c r m f e = refl
closes_or false nothing c r m f e = e

array_head : (d n : ℕ) (y : List ℕ) → length y ≤ n → close_or (element_at (read d) (read_elements (read d) n) y) y ≡ and_then (entry_head of_array y) (goes_on_with no_more (first_of_trees d))
array_head d n [] l = first_member d n [] l
array_head d n (c ∷ r) l = closes_or (c == 93) no_more c r (element_at (read d) (read_elements (read d) n) (c ∷ r)) (first_of_trees d) (first_member d n (c ∷ r) l)

-- elements are one and the others, or the closing bracket
pub trees_step : (d : ℕ) (x : List ℕ) → trees_of d x ≡ and_then (entry_at of_array x) (goes_on_with no_more (first_of_trees d))
unfolding read_elements entry_at
trees_step d x = after_gap x (λ y. close_or (element_at (read d) (read_elements (read d) (length x)) y) y) (entry_head of_array) (goes_on_with no_more (first_of_trees d)) (array_head d (length x))

comma_or : {A : Type 0} (a b : Bool) (nothing : A) (c : ℕ) (r : List ℕ) (f : List ℕ → Read A)
    → cond a (f r) (cond b (got nothing r) (bad (Some ExpectedComma) (here (c ∷ r)))) ≡ and_then (cond a (got true r) (cond b (got false r) (bad (Some ExpectedComma) (here (c ∷ r))))) (goes_on_with nothing f)
comma_or true b nothing c r f = refl
comma_or false true nothing c r f = refl
comma_or false false nothing c r f = refl

array_comma : (d : ℕ) (y : List ℕ) → after_element (trees_of d) y ≡ and_then (comma_at of_array y) (goes_on_with no_more (trees_of d))
array_comma d [] = refl
array_comma d (c ∷ r) = comma_or (c == 44) (c == 93) no_more c r (trees_of d)

-- after an element come a comma and the others, or the closing bracket
pub trees_later : (d : ℕ) (x : List ℕ) → trees_after d x ≡ and_then (separator of_array x) (goes_on_with no_more (trees_of d))
unfolding separator
trees_later d x = after_gap x (after_element (trees_of d)) (comma_at of_array) (goes_on_with no_more (trees_of d)) (λ y l. array_comma d y)

-- ---- objects

pair_again : (d : ℕ) (a : List ℕ × Bool) (m : Read Tree) → and_then m (λ t r. and_then (skip between r) (λ u y. and_then (after_member (read_pairs d) y) (λ ps z. got (member a.0 a.1 t ps) z))) ≡ and_then m (λ t y. and_then (pairs_after d y) (λ ps z. got (member a.0 a.1 t ps) z))
pair_again d a (got t r) = sym (then_then (skip between r) (λ u y. after_member (read_pairs d) y) (λ ps z. got (member a.0 a.1 t ps) z))
pair_again d a (bad e p) = refl

value_again : (d : ℕ) (a : List ℕ × Bool) (m : Read (Unit {0}))
    → and_then (and_then m (λ u q. read d q)) (λ t y. and_then (skip between y) (λ u z. and_then (after_member (read_pairs d) z) (λ ps q. got (member a.0 a.1 t ps) q)))
    ≡ and_then (and_then m (λ u y. got (Some a) y)) (member_or_end d)
value_again d a (got u q) = pair_again d a (read d q)
value_again d a (bad e p) = refl

key_again : (d : ℕ) (m : Read (List ℕ × Bool))
    → and_then m (λ a r. and_then (value_after (read d) r) (λ t y. and_then (skip between y) (λ u z. and_then (after_member (read_pairs d) z) (λ ps q. got (member a.0 a.1 t ps) q))))
    ≡ and_then (and_then m (λ a r. and_then (colon_after r) (λ u y. got (Some a) y))) (member_or_end d)
key_again d (got a r) =
    ap (λ m. and_then m (λ t y. and_then (skip between y) (λ u z. and_then (after_member (read_pairs d) z) (λ ps q. got (member a.0 a.1 t ps) q)))) (value_after_colon (read d) r)
    ∙ value_again d a (colon_after r)
key_again d (bad e p) = refl

first_pair : (d n c : ℕ) (r : List ℕ) → length (c ∷ r) ≤ n → member_at (read d) (read_members (read d) n) (c ∷ r) ≡ and_then (and_then (key (c ∷ r)) (λ a r. and_then (colon_after r) (λ u y. got (Some a) y))) (member_or_end d)
first_pair d n c r l = pair_same d (read_members (read d) n) (read_pairs d) c r (λ z s. same_entries d n (suc (length z)) z (omega arith) (omega arith)) ∙ key_again d (key (c ∷ r))

brace_or : (d : ℕ) (b : Bool) (r : List ℕ) (m : Read Members) (n : Read (Option (List ℕ × Bool))) → m ≡ and_then n (member_or_end d) → cond b (got no_member r) m ≡ and_then (cond b (got None r) n) (member_or_end d)
brace_or d true r m n e = refl
brace_or d false r m n e = e

object_head : (d n : ℕ) (y : List ℕ) → length y ≤ n → key_or (member_at (read d) (read_members (read d) n) y) y ≡ and_then (key_head y) (member_or_end d)
object_head d n [] l = refl
object_head d n (c ∷ r) l = brace_or d (c == 125) r (member_at (read d) (read_members (read d) n) (c ∷ r)) _ (first_pair d n c r l)

-- pairs are one and the others, or the closing brace
pub pairs_step : (d : ℕ) (x : List ℕ) → read_pairs d x ≡ and_then (key_at x) (member_or_end d)
unfolding read_members key_at
pairs_step d x = after_gap x (λ y. key_or (member_at (read d) (read_members (read d) (length x)) y) y) key_head (member_or_end d) (object_head d (length x))

object_comma : (d : ℕ) (y : List ℕ) → after_member (read_pairs d) y ≡ and_then (comma_at of_object y) (goes_on_with no_member (read_pairs d))
object_comma d [] = refl
object_comma d (c ∷ r) = comma_or (c == 44) (c == 125) no_member c r (read_pairs d)

-- after a pair others come after a comma, or the closing brace
pub pairs_later : (d : ℕ) (x : List ℕ) → pairs_after d x ≡ and_then (separator of_object x) (goes_on_with no_member (read_pairs d))
unfolding separator
pairs_later d x = after_gap x (after_member (read_pairs d)) (comma_at of_object) (goes_on_with no_member (read_pairs d)) (λ y l. object_comma d y)

-- ---- brackets

-- an array's trees are those between its brackets
pub read_array : (d : ℕ) (r : List ℕ) → read (suc d) (91 ∷ r) ≡ placed (91 ∷ r) (and_then (trees_of d r) (λ ts y. got (array ts) y))
read_array d r = read_step (suc d) (91 ∷ r)

pub read_object : (d : ℕ) (r : List ℕ) → read (suc d) (123 ∷ r) ≡ placed (123 ∷ r) (and_then (read_pairs d r) (λ ps y. got (object ps) y))
read_object d r = read_step (suc d) (123 ∷ r)
