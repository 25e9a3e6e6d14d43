-- Reading the elements of arrays and the members of objects doesn't depend on the number of turns, if it is enough.
use Rattle.std.proofs.Common.{◌≡◌, ℕ, zero, suc, ◌<◌, ◌≤◌, Bool, List, [], ◌∷◌, ◌++◌, length, refl, ap, arith, length-append}
use Rattle.json5_grammar.specs.Language.Trees.{Trees, Members, more, member}
use Rattle.json5_grammar.specs.Model.Reading.{Read, got, bad, and_then}
use Rattle.json5_grammar.specs.Model.ReadBlanks.{skip, between}
use Rattle.json5_grammar.specs.Model.ReadTexts.{key}
use Rattle.json5_grammar.specs.Model.ReadValues.{read, read_elements, read_members, element_at, close_or, after_element, value_after, member_at, key_or, after_member}
use Rattle.json5_grammar.proofs.FoundPlaces.{Found}
use Rattle.json5_grammar.proofs.ValuesSound.{IsGap, IsValue, IsKeyAt, IsValueAfter, gap_found, key_found, value_found, before_rest, read_found}

-- two ways to go on that are the same where the first step leads
pub then_same : {A B : Type 0} (P : A → List ℕ → Type 0) (x : List ℕ) (m : Read A) (f g : A → List ℕ → Read B) → Found P x m → ((a : A) (r : List ℕ) → P a r → f a r ≡ g a r) → and_then m f ≡ and_then m g
then_same P x (got a r) f g h k = k a r h
then_same P x (bad e p) f g h k = refl

-- two readers are the same below a length
abbrev pub SameBelow : {A : Type 0} → ℕ → (List ℕ → Read A) → (List ℕ → Read A) → Type 0
SameBelow n f g = (z : List ℕ) → length z < n → f z ≡ g z

no_longer : (x w r : List ℕ) → x ≡ w ++ r → length r ≤ length x
no_longer x w r e = omega (arith, ap length e, length-append w r)

pub gap_no_longer : (x r : List ℕ) (u : Unit {0}) → IsGap x u r → length r ≤ length x
gap_no_longer x r u g = no_longer x g.0 r g.1

after_same : (f g : List ℕ → Read Trees) (y : List ℕ) → SameBelow (length y) f g → after_element f y ≡ after_element g y
after_same f g [] h = refl
after_same f g (c ∷ r) h = rw (h r (omega arith)) refl

after_pair_same : (f g : List ℕ → Read Members) (y : List ℕ) → SameBelow (length y) f g → after_member f y ≡ after_member g y
after_pair_same f g [] h = refl
after_pair_same f g (c ∷ r) h = rw (h r (omega arith)) refl

module _ (d : ℕ) where
  -- ---- members of arrays

  module _ (f g : List ℕ → Read Trees) where
    pub member_same : (x : List ℕ) → SameBelow (length x) f g → element_at (read d) f x ≡ element_at (read d) g x
    member_same x h = then_same (IsValue d x) x (read d x) _ _ (read_found d x) (λ t r v. then_same (IsGap r) r (skip between r) _ _ (gap_found r)
        (λ u y k. ap (λ m. and_then m (λ ts z. got (more t ts) z)) (after_same f g y (λ z l. let a = no_longer x v.0 r v.1 in let b = gap_no_longer r y u k in h z (omega (arith, a, b))))))

    close_same : (x : List ℕ) → SameBelow (length x) f g → close_or (element_at (read d) f x) x ≡ close_or (element_at (read d) g x) x
    close_same x h = ap (λ m. close_or m x) (member_same x h)

  pub same_items : (n m : ℕ) (x : List ℕ) → length x < n → length x < m → read_elements (read d) n x ≡ read_elements (read d) m x
  unfolding read_elements
  same_items zero m x l k = absurd (omega arith)
  same_items (suc n) zero x l k = absurd (omega arith)
  same_items (suc n) (suc m) x l k = then_same (IsGap x) x (skip between x) _ _ (gap_found x)
      (λ u y g. let a = gap_no_longer x y u g in close_same (read_elements (read d) n) (read_elements (read d) m) y (λ z s. same_items n m z (omega (arith, a)) (omega (arith, a))))

  -- ---- pairs of objects

  module _ (f g : List ℕ → Read Members) where
    after_value_same : (a : List ℕ × Bool) (x : List ℕ) → SameBelow (length x) f g
        → and_then (value_after (read d) x) (λ t r. and_then (skip between r) (λ u z. and_then (after_member f z) (λ ps q. got (member a.0 a.1 t ps) q)))
        ≡ and_then (value_after (read d) x) (λ t r. and_then (skip between r) (λ u z. and_then (after_member g z) (λ ps q. got (member a.0 a.1 t ps) q)))
    after_value_same a x h = then_same (IsValueAfter d x) x (value_after (read d) x) _ _ (value_found d (read d) (read_found d) x)
        (λ t r v. then_same (IsGap r) r (skip between r) _ _ (gap_found r) (λ u y k. ap (λ m. and_then m (λ ps z. got (member a.0 a.1 t ps) z)) (after_pair_same f g y
        (λ z l. let w = before_rest x r t v.0 in let a = no_longer x w.0 r w.1 in let b = gap_no_longer r y u k in h z (omega (arith, a, b))))))

    pub pair_same : (c : ℕ) (r : List ℕ) → SameBelow (length (c ∷ r)) f g → member_at (read d) f (c ∷ r) ≡ member_at (read d) g (c ∷ r)
    pair_same c r h = then_same (IsKeyAt (c ∷ r)) (c ∷ r) (key (c ∷ r)) _ _ (key_found c r)
        (λ a y k. after_value_same a y (λ z l. let b = no_longer (c ∷ r) k.0 y k.1 in h z (omega (arith, b))))

    brace_same : (x : List ℕ) → SameBelow (length x) f g → key_or (member_at (read d) f x) x ≡ key_or (member_at (read d) g x) x
    brace_same [] h = refl
    brace_same (c ∷ r) h = ap (λ m. key_or m (c ∷ r)) (pair_same c r h)

  pub same_entries : (n m : ℕ) (x : List ℕ) → length x < n → length x < m → read_members (read d) n x ≡ read_members (read d) m x
  unfolding read_members
  same_entries zero m x l k = absurd (omega arith)
  same_entries (suc n) zero x l k = absurd (omega arith)
  same_entries (suc n) (suc m) x l k = then_same (IsGap x) x (skip between x) _ _ (gap_found x)
      (λ u y g. let a = gap_no_longer x y u g in brace_same (read_members (read d) n) (read_members (read d) m) y (λ z s. same_entries n m z (omega (arith, a)) (omega (arith, a))))
