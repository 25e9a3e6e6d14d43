-- What is found at the front, and a fault's position in the input: steps one after another.
use Rattle.std.proofs.Common.{◌≡◌, ℕ, List, [], ◌++◌, refl, ap, sym, ◌∙◌, append_assoc, Option, Some, None}
use Rattle.json5_grammar.specs.Model.Reading.{Place, here, inner, Read, got, bad, and_then, placed, IsAt}

-- the place is in the text
abbrev pub IsIn : List ℕ → Place → Type 0
IsIn x (here q) = (b : List ℕ) × (x ≡ b ++ q)
IsIn x inner = Unit {0}

-- what is found is so, and what follows it; a fault's place is in the text
abbrev pub Found : {A : Type 0} → (A → List ℕ → Type 0) → List ℕ → Read A → Type 0
Found P x (got a r) = P a r
Found P x (bad e p) = IsIn x p

-- the place where the text begins
pub in_whole : (x : List ℕ) → IsIn x (here x)
in_whole x = ([], refl)

-- a place in what follows
pub in_after : (w x y : List ℕ) (p : Place) → x ≡ w ++ y → IsIn y p → IsIn x p
in_after w x y (here q) e (b, k) = (w ++ b, e ∙ ap (λ z. w ++ z) k ∙ sym (append_assoc w b q))
in_after w x y inner e k = tt

-- the place of a fault
pub in_at : (x : List ℕ) (place : Option (List ℕ)) (p : Place) → IsAt x place p → IsIn x p
in_at x (Some b) (here q) e = (b, e)
in_at x (Some b) inner e = tt
in_at x None (here q) e = absurd e
in_at x None inner e = tt

-- steps can be put together from either side
pub then_then : {A B C : Type 0} (m : Read A) (f : A → List ℕ → Read B) (g : B → List ℕ → Read C)
    → and_then (and_then m f) g ≡ and_then m (λ a r. and_then (f a r) g)
then_then (got a r) f g = refl
then_then (bad e p) f g = refl

-- and what follows from it
pub found_then : {A B : Type 0} (P : A → List ℕ → Type 0) (Q : B → List ℕ → Type 0) (x : List ℕ) (m : Read A) (f : A → List ℕ → Read B)
    → Found P x m → ((a : A) (r : List ℕ) → P a r → Found Q x (f a r)) → Found Q x (and_then m f)
found_then P Q x (got a r) f h k = k a r h
found_then P Q x (bad e p) f h k = h

-- what is found after w, from before it
pub found_after : {A : Type 0} (P Q : A → List ℕ → Type 0) (w x y : List ℕ) (m : Read A) → x ≡ w ++ y → Found P y m
    → ((a : A) (r : List ℕ) → P a r → Q a r) → Found Q x m
found_after P Q w x y (got a r) e h k = k a r h
found_after P Q w x y (bad c p) e h k = in_after w x y p e h

-- a fault without a place gets that of the text
pub found_placed : {A : Type 0} (P : A → List ℕ → Type 0) (x : List ℕ) (m : Read A) → Found P x m → Found P x (placed x m)
found_placed P x (got a r) h = h
found_placed P x (bad e (here q)) h = h
found_placed P x (bad e inner) h = in_whole x

-- what was answered was found
pub found : {A : Type 0} (P : A → List ℕ → Type 0) (x : List ℕ) (m : Read A) (a : A) (r : List ℕ) → Found P x m → m ≡ got a r → P a r
found P x (got b q) a r h e = let k : b ≡ a = cc in let l : q ≡ r = cc in rw (sym k, sym l) h
found P x (bad c p) a r h e = absurd (cc)

-- a refusal has its place in the text
pub refused_in : {A : Type 0} (P : A → List ℕ → Type 0) (x : List ℕ) (m : Read A) (e : _) (p : Place) → Found P x m → m ≡ bad e p → IsIn x p
refused_in P x (got b q) e p h k = absurd (cc)
refused_in P x (bad c q) e p h k = let l : q ≡ p = cc in rw (sym l) h
