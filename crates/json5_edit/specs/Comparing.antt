-- Two collections that have the same entries but for some.
-- A promise rests on this.
use Rattle.std.specs.Prelude.{◌≡◌, ◌≢◌, ℕ, List, [], ◌∷◌, ◌++◌, length, Option, Some, None, ⊤}
use Rattle.json5_grammar.specs.Language.Trees.{Tree}
use Rattle.json5_types.specs.Cows.{cow_bytes}
use Rattle.json5_read.specs.declared.brackets.BracketKind.{BracketKind as Kind}
use Rattle.json5_read.specs.declared.brackets.BracketKind.TheVariants as kind
use Rattle.json5_walk.specs.Moves.{EndsEntries}
use Rattle.json5_walk.specs.Walks.{Walked, Moved}
use Rattle.json5_edit.specs.Entries.{entries, kind_of, TakesEntry, Holds, Closed}
use Rattle.json5_edit.specs.declared.paths.Before.{Before}
use Rattle.json5_edit.specs.declared.paths.Before.TheVariants as before_place
use Rattle.json5_edit.specs.declared.paths.Step.{Step}
use Rattle.json5_edit.specs.declared.paths.Step.TheVariants as step
use Rattle.json5_edit.specs.declared.entries.Entry.{Entry}

-- the collection t with these entries after its own
pub record With (t : Tree) (es : List (List ℕ × Tree)) (u : Tree) : Type 0 where
  pub more : entries u ≡ entries t ++ es
  pub same_kind : kind_of u ≡ kind_of t

-- both walks passed the same entries
pub record BothPass (x y : List ℕ) (t u : Tree) (v w : Walked) (es : List (List ℕ × Tree)) : Type 0 where
  pub left : Tree
  pub right : Tree
  pub left_with : With t es left
  pub right_with : With u es right
  pub left_holds : Holds x left v
  pub right_holds : Holds y right w

-- both walks passed an entry with this key and this spelling of its value, or a closing bracket
abbrev pub PassesPair : Walked → Walked → Walked → Walked → Option Entry → Type 0
PassesPair v w left right None = Moved EndsEntries v left × Moved EndsEntries w right
PassesPair v w left right (Some e) = Moved (TakesEntry (cow_bytes e.key) e.value.now) v left × Moved (TakesEntry (cow_bytes e.key) e.value.now) w right

-- the walk passed a closing bracket
abbrev pub EndsToo : Walked → Walked → Option Entry → Type 0
EndsToo old new None = Moved EndsEntries old new
EndsToo old new (Some e) = ⊥

-- both walks passed so many entries, the same ones
pub record PassesFront (n : ℕ) (v w left right : Walked) : Type 0 where
  pub passed : (x y : List ℕ) (t u : Tree) → Holds x t v → Holds y u w → (es : List (List ℕ × Tree)) × BothPass x y t u left right es × (length es ≡ n)

-- no entry has this key
abbrev pub LacksKey : List ℕ → List (List ℕ × Tree) → Type 0
LacksKey key [] = ⊤
LacksKey key (e ∷ es) = (e.0 ≢ key) × LacksKey key es

-- the step goes to none of the entries by its key
abbrev pub Lacks : Step → List (List ℕ × Tree) → Type 0
Lacks (step.Index i) es = ⊤
Lacks (step.Key k) es = LacksKey k.now es

-- the step doesn't go to a member with this key
abbrev pub IsOther : Step → List ℕ → Type 0
IsOther (step.Index i) key = ⊤
IsOther (step.Key k) key = key ≢ k.now

-- both walks passed the same entries and the closing bracket
pub record BothClose (x y : List ℕ) (t u : Tree) (v w : Walked) (es : List (List ℕ × Tree)) : Type 0 where
  pub left : Tree
  pub right : Tree
  pub left_with : With t es left
  pub right_with : With u es right
  pub left_closed : Closed x left v
  pub right_closed : Closed y right w

abbrev pub PassesRest : Step → Walked → Walked → Walked → Walked → Type 0
PassesRest s v w left right = (x y : List ℕ) (t u : Tree) → Holds x t v → Holds y u w → (es : List (List ℕ × Tree)) × BothClose x y t u left right es × Lacks s es

-- ---- what one more member comes before

-- so many members may come before one there
abbrev pub FitsFront : Before → ℕ → Type 0
FitsFront before_place.First n = n ≡ 0
FitsFront (before_place.Key k) n = ⊤

-- a member may come before these: before any, or before the last one with this key
abbrev pub MayPrecede : Before → List (List ℕ × Tree) → Type 0
MayPrecede before_place.First es = ⊤
MayPrecede (before_place.Key k) es = (next : Tree) × (rest : List (List ℕ × Tree)) × (es ≡ (k.now, next) ∷ rest) × LacksKey k.now rest

-- a member comes between these: before all others, or before the last one with this key
abbrev pub ComesBetween : Before → List (List ℕ × Tree) → List (List ℕ × Tree) → Type 0
ComesBetween before_place.First before after = before ≡ []
ComesBetween (before_place.Key k) before after = MayPrecede (before_place.Key k) after

abbrev pub PassesAfter : Before → Walked → Walked → Walked → Walked → Type 0
PassesAfter b v w left right = (x y : List ℕ) (t u : Tree) → Holds x t v → Holds y u w → (es : List (List ℕ × Tree)) × BothClose x y t u left right es × MayPrecede b es

-- ---- what a step goes to

abbrev pub step_kind : Step → Kind
step_kind (step.Index i) = kind.Array
step_kind (step.Key k) = kind.Object

abbrev pub step_key : Step → List ℕ
step_key (step.Index i) = []
step_key (step.Key k) = k.now

-- how many entries come before it: as the step says, or as were found
abbrev pub step_place : Step → ℕ → ℕ
step_place (step.Index i) found = i
step_place (step.Key k) found = found

-- in a collection of its kind the step goes to the entry between these: that with its index, or the last with its key
abbrev pub GoesTo : Step → List (List ℕ × Tree) → List (List ℕ × Tree) → Type 0
GoesTo (step.Index i) before after = length before ≡ i
GoesTo (step.Key k) before after = LacksKey k.now after

-- ---- collections that have the same entries, or differ by one

pub record HaveSameEntries (t u : Tree) : Type 0 where
  pub same : entries u ≡ entries t
  pub same_kind : kind_of u ≡ kind_of t

-- the collection u is t without the entry that the step goes to
pub record IsWithout (s : Step) (t u : Tree) : Type 0 where
  pub was_kind : kind_of t ≡ Some (step_kind s)
  pub kind : kind_of u ≡ Some (step_kind s)
  pub before : List (List ℕ × Tree)
  pub after : List (List ℕ × Tree)
  pub gone : Tree
  pub was : entries t ≡ before ++ ((step_key s, gone) ∷ after)
  pub now : entries u ≡ before ++ after
  pub there : GoesTo s before after

-- the collection u is t with one entry more, the last: with this key and this value
pub record IsWithLast (k : Kind) (key : List ℕ) (value : Tree) (t u : Tree) : Type 0 where
  pub was_kind : kind_of t ≡ Some k
  pub kind : kind_of u ≡ Some k
  pub one_more : entries u ≡ entries t ++ ((key, value) ∷ [])

-- the array u is t with one element more, before that with this index: with this value
pub record IsWithAt (i : ℕ) (value : Tree) (t u : Tree) : Type 0 where
  pub was_kind : kind_of t ≡ Some kind.Array
  pub kind : kind_of u ≡ Some kind.Array
  pub before : List (List ℕ × Tree)
  pub after : List (List ℕ × Tree)
  pub was : entries t ≡ before ++ after
  pub now : entries u ≡ before ++ (([], value) ∷ after)
  pub there : length before ≡ i

-- the object u is t with one member more, which comes there: with this key and this value
pub record IsWithMember (b : Before) (key : List ℕ) (value : Tree) (t u : Tree) : Type 0 where
  pub was_kind : kind_of t ≡ Some kind.Object
  pub kind : kind_of u ≡ Some kind.Object
  pub before : List (List ℕ × Tree)
  pub after : List (List ℕ × Tree)
  pub was : entries t ≡ before ++ after
  pub now : entries u ≡ before ++ ((key, value) ∷ after)
  pub there : ComesBetween b before after

-- the object u is t with another key for its last member that has this one
pub record IsRenamed (name key : List ℕ) (t u : Tree) : Type 0 where
  pub was_kind : kind_of t ≡ Some kind.Object
  pub kind : kind_of u ≡ Some kind.Object
  pub before : List (List ℕ × Tree)
  pub after : List (List ℕ × Tree)
  pub value : Tree
  pub was : entries t ≡ before ++ ((name, value) ∷ after)
  pub now : entries u ≡ before ++ ((key, value) ∷ after)
  pub last : LacksKey name after
