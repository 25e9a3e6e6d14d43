-- Lists of so many elements.
use Rattle.std.proofs.Common.{◌≡◌, ℕ, Bool, true, false, List, length, refl, ap, ◌∙◌, arith, Option, Some, None}
use Rattle.std.specs.Prelude.{◌==◌, if◌then◌else◌}
use Rattle.json5_grammar.specs.Language.Trees.{Tree, Trees}
use Rattle.json5_grammar.specs.Model.Collections.{contents}
use Rattle.json5_de.specs.ConvertLists.{exactly, if_length}
use Rattle.json5_de.proofs.ElementLoops.{HasSoMany}
use Rattle.json5_grammar.proofs.CommonLemmas.{eq_from}

equal_to : (a b : ℕ) → a ≡ b → (a == b) ≡ true
equal_to a b h = grind arith

length_parts : {C : Type 0} (n : ℕ) (o : Option (List C)) (v : List C) → if_length n o ≡ Some v → (o ≡ Some v) × (length v ≡ n)
length_parts n None v e = absurd (cc)
length_parts n (Some cs) v e = by_test (length cs == n) refl e
  where
    by_test : (b : Bool) → (length cs == n) ≡ b → (if b then Some cs else None) ≡ Some v → (Some cs ≡ Some v) × (length v ≡ n)
    by_test true h k = let same : v ≡ cs = cc in (k, ap length same ∙ eq_from (length cs) n h)
    by_test false h k = absurd (cc)

exactly_parts : {C : Type 0} (f : Tree → Option C) (n : ℕ) (ts : Trees) (v : List C) → exactly n f ts ≡ Some v → (contents f ts ≡ Some v) × (length v ≡ n)
exactly_parts f n ts v e = length_parts n (contents f ts) v e

-- as a loop's lemmas want it
pub so_many : {C : Type 0} (f : Tree → Option C) (n : ℕ) → HasSoMany f (exactly n f) n
so_many f n ts v e = let (are, count) = exactly_parts f n ts v e in (v, are, count)

pub exactly_from : {C : Type 0} (f : Tree → Option C) (n : ℕ) (ts : Trees) (v : List C) → contents f ts ≡ Some v → length v ≡ n → exactly n f ts ≡ Some v
exactly_from f n ts v e l = rw (e, equal_to (length v) n l) refl
