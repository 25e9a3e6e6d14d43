-- Where a JSON pointer (RFC 6901) leads in a tree, and a tree with the value changed that stands there.
-- A promise rests on this.
use Rattle.std.specs.declared.alloc.Global.{Global}
use Rattle.std.specs.Prelude.{⊤, ◌≡◌, ℕ, List, [], ◌∷◌, Some, String, string_bytes}
use Rattle.json5_grammar.specs.Language.Trees.{Tree}
use Rattle.json5_types.specs.Pointers.{index_in}
use Rattle.json5_edit.specs.Parts.{part, put, positions_of}
use Rattle.json5_edit.specs.declared.paths.Step.{Step}
use Rattle.json5_edit.specs.declared.paths.Step.TheVariants as step

-- the step that a token is: to the member with this key, or to the element with this index
abbrev pub IsStep : (token : List ℕ) → Step → Type 0
IsStep token (step.Key k) = k.now ≡ token
IsStep token (step.Index i) = index_in token ≡ Some i

abbrev pub AreSteps : List (String Global) → List Step → Type 0
AreSteps [] [] = ⊤
AreSteps (w ∷ ws) (s ∷ ss) = IsStep (string_bytes w) s × AreSteps ws ss
AreSteps _ _ = ⊥

-- the steps lead to this value
abbrev pub HasAt : List Step → Tree → Tree → Type 0
HasAt steps t x = (positions : List ℕ) × (positions_of steps t ≡ Some positions) × (part positions t ≡ Some x)

-- the tree u is t with the value changed so to which the steps lead
pub record ChangesAt (Change : Tree → Tree → Type 0) (steps : List Step) (t u : Tree) : Type 0 where
  pub positions : List ℕ
  pub led : positions_of steps t ≡ Some positions
  pub old : Tree
  pub new : Tree
  pub there : part positions t ≡ Some old
  pub now : u ≡ put positions t new
  pub changed : Change old new

abbrev pub Becomes : Tree → Tree → Tree → Type 0
Becomes v old new = new ≡ v
