-- How the part of a value is found that a path leads to.
-- Private.
use Rattle.std.specs.Prelude.{◌≡◌, ℕ, Bool, true, false, nat_eq, List, [], ◌∷◌, Option, None, option_map}
use Rattle.std.specs.Cmp.Lexicographic.{pointwise}
use Rattle.json5_grammar.specs.Language.Trees.{Tree, no_more, no_member}
use Rattle.json5_types.specs.declared.error.Error.{Error}
use Rattle.json5_read.specs.declared.brackets.BracketKind.{BracketKind as Kind}
use Rattle.json5_read.specs.declared.brackets.BracketKind.TheVariants as kind
use Rattle.json5_walk.specs.Frames.{Frame, At, at_element, at_key, at_comma, value_frames}
use Rattle.json5_walk.specs.Walks.{Walked, Trail, IsAt, Moved, PassesValue, NeedsMemory, AwaitsValue}
use Rattle.json5_edit.specs.Comparing.{step_kind}
use Rattle.json5_edit.specs.Parts.{positions, positions_of}
use Rattle.json5_edit.specs.declared.paths.Step.{Step}
use Rattle.json5_edit.specs.declared.paths.Step.TheVariants as step

-- the marked value is the part of t that the path leads to, or none is; within these frames
abbrev pub Finds : List Frame → List Step → Tree → Option (List Frame) → Type 0
Finds o path t marked = option_map (λ f. positions f []) marked ≡ option_map (positions o) (positions_of path t)

-- a value was passed, and what the path leads to in it is marked
pub record Seeks (path : List Step) (old new : Walked) : Type 0 where
  pub text : new.text ≡ old.text
  pub limit : new.limit ≡ old.limit
  pub leads : (s : Trail) → IsAt old s → (t : Tree) × (m : Option (List Frame)) × IsAt new (record { now = at_comma t (value_frames s.now); marked = m }) × Finds (value_frames s.now) path t m

-- where a collection of this kind was just opened, within these frames
abbrev pub opened : Kind → List Frame → At
opened kind.Array o = at_element no_more o
opened kind.Object o = at_key no_member o

-- a collection that was just opened was passed, and what the path after the step leads to in it is marked
pub record SeeksEntry (s : Step) (path : List Step) (old new : Walked) : Type 0 where
  pub text : new.text ≡ old.text
  pub limit : new.limit ≡ old.limit
  pub leads : (o : List Frame) → IsAt old (record { now = opened (step_kind s) o; marked = None }) → (t : Tree) × (m : Option (List Frame)) × IsAt new (record { now = at_comma t o; marked = m }) × Finds o (s ∷ path) t m

abbrev pub SeeksOrSkips : Bool → List Step → Walked → Walked → Type 0
SeeksOrSkips true path old new = Seeks path old new
SeeksOrSkips false path old new = Moved (PassesValue old new) old new

-- whether the step goes to the entry with this key that so many come before
abbrev pub is_sought : Step → ℕ → List ℕ → Bool
is_sought (step.Index i) n key = nat_eq n i
is_sought (step.Key k) n key = pointwise nat_eq key k.now

-- ---- refusals

-- where a value must come, in a document, this is answered only where memory was refused
abbrev pub Spares : Walked → Error → Type 0
Spares v e = (s : Trail) → IsAt v s → AwaitsValue v → NeedsMemory v e

-- the same after a bracket of the step's kind that was just opened
abbrev pub SparesFrom : Step → Walked → Error → Type 0
SparesFrom s v e = (o : List Frame) → IsAt v (record { now = opened (step_kind s) o; marked = None }) → NeedsMemory v e
