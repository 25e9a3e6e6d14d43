-- Open brackets with what was read in them, and how a text goes on from within them to its end.
-- A promise rests on this.
use Rattle.std.specs.Prelude.{◌≡◌, ℕ, suc, ◌+◌, ◌≤◌, Bool, true, false, List, [], ◌∷◌, length}
use Rattle.json5_grammar.specs.Faults.Fronts.{BracketKind, of_array, of_object}
use Rattle.json5_grammar.specs.Language.Blanks.{LastBlanks}
use Rattle.json5_grammar.specs.Language.Documents.{Doc}
use Rattle.json5_grammar.specs.Language.Trees.{Tree, array, object, Trees, Members, more, member, depth, depths, member_depths}
use Rattle.json5_grammar.specs.Language.Values.{Reads}
use Rattle.json5_grammar.specs.Model.Collections.{IsKeyValue, Tail, MembersTail, joined_trees, joined_members}
use Rattle.json5_walk.specs.declared.next.Next.{Next}
use Rattle.json5_walk.specs.declared.next.Next.TheVariants as next

-- an open bracket with what was read in it: elements, or members and the key of the next
pub data Frame : Type 0 where
  in_array : Trees → Frame
  in_object : Members → List ℕ → Bool → Frame

-- the kinds of the open brackets, the innermost first
abbrev pub frame_kinds : List Frame → List BracketKind
frame_kinds [] = []
frame_kinds (in_array ts ∷ o) = of_array ∷ frame_kinds o
frame_kinds (in_object ps u escape_free ∷ o) = of_object ∷ frame_kinds o

-- within so many brackets a value of this depth fits
abbrev pub Fits : ℕ → ℕ → ℕ → Type 0
Fits limit n d = n + d ≤ limit

-- where a text ends: after a document's last blanks, or right after the value
pub data Until : Type 0 where
  text_end : Until
  value_end : Until

abbrev pub Last : Until → List ℕ → Type 0
Last text_end x = LastBlanks x
Last value_end x = x ≡ []

-- x is a document of the tree w, or a value with nothing after it
abbrev pub Spells : Until → ℕ → List ℕ → Tree → Type 0
Spells text_end limit x w = Doc limit x w
Spells value_end limit x w = Reads x w [] × (depth w ≤ limit)

-- after a value of the tree t, x closes the frames and ends so; the whole's tree is w
abbrev pub ClosesUntil : Until → ℕ → List Frame → Tree → List ℕ → Tree → Type 0
ClosesUntil e limit [] t x w = Last e x × (w ≡ t)
ClosesUntil e limit (in_array ts ∷ o) t x w = (us : Trees) × (r : List ℕ) × Tail us true x r × Fits limit (suc (length o)) (depths us) × ClosesUntil e limit o (array (joined_trees ts (more t us))) r w
ClosesUntil e limit (in_object ps u escape_free ∷ o) t x w = (qs : Members) × (r : List ℕ) × MembersTail qs true x r × Fits limit (suc (length o)) (member_depths qs) × ClosesUntil e limit o (object (joined_members ps (member u escape_free t qs))) r w

abbrev pub ClosesTo : ℕ → List Frame → Tree → List ℕ → Tree → Type 0
ClosesTo limit o t x w = ClosesUntil text_end limit o t x w

-- where a walk is: what is due, what was read in the innermost bracket or just now, and the frames around it
pub data At : Type 0 where
  at_value : List Frame → At
  at_element : Trees → List Frame → At
  at_key : Members → List Frame → At
  at_colon : Members → List ℕ → Bool → List Frame → At
  at_comma : Tree → List Frame → At

abbrev pub next_of : At → Next
next_of (at_value o) = next.Value
next_of (at_element ts o) = next.Element
next_of (at_key ps o) = next.Key
next_of (at_colon ps u escape_free o) = next.Colon
next_of (at_comma t o) = next.Comma

abbrev pub kinds_of : At → List BracketKind
kinds_of (at_value o) = frame_kinds o
kinds_of (at_element ts o) = of_array ∷ frame_kinds o
kinds_of (at_key ps o) = of_object ∷ frame_kinds o
kinds_of (at_colon ps u escape_free o) = of_object ∷ frame_kinds o
kinds_of (at_comma t o) = frame_kinds o

-- the frames around a value, where one is due
abbrev pub value_frames : At → List Frame
value_frames (at_value o) = o
value_frames (at_element ts o) = in_array ts ∷ o
value_frames (at_key ps o) = o
value_frames (at_colon ps u escape_free o) = o
value_frames (at_comma t o) = o

-- a bracket is open, or the value isn't complete
abbrev pub is_inner : At → Bool
is_inner (at_value o) = true
is_inner (at_element ts o) = true
is_inner (at_key ps o) = true
is_inner (at_colon ps u escape_free o) = true
is_inner (at_comma t []) = false
is_inner (at_comma t (f ∷ o)) = true

-- where blanks may come before such an end
abbrev pub takes_blanks : Until → At → Bool
takes_blanks text_end a = true
takes_blanks value_end a = is_inner a

-- x goes on with what is due, closes the frames and ends so; the whole's tree is w
abbrev pub CompletesUntil : Until → ℕ → At → List ℕ → Tree → Type 0
CompletesUntil e limit (at_value o) x w = (t : Tree) × (r : List ℕ) × Reads x t r × Fits limit (length o) (depth t) × ClosesUntil e limit o t r w
CompletesUntil e limit (at_element ts o) x w = (us : Trees) × (r : List ℕ) × Tail us false x r × Fits limit (suc (length o)) (depths us) × ClosesUntil e limit o (array (joined_trees ts us)) r w
CompletesUntil e limit (at_key ps o) x w = (qs : Members) × (r : List ℕ) × MembersTail qs false x r × Fits limit (suc (length o)) (member_depths qs) × ClosesUntil e limit o (object (joined_members ps qs)) r w
CompletesUntil e limit (at_colon ps u escape_free o) x w = (t : Tree) × (r : List ℕ) × IsKeyValue x t r × Fits limit (suc (length o)) (depth t) × ClosesUntil e limit (in_object ps u escape_free ∷ o) t r w
CompletesUntil e limit (at_comma t o) x w = ClosesUntil e limit o t x w

abbrev pub CompletesTo : ℕ → At → List ℕ → Tree → Type 0
CompletesTo limit a x w = CompletesUntil text_end limit a x w
