-- A value that is put where a path leads, whether one was there or not.
-- A promise rests on this.
use Rattle.std.specs.declared.alloc.Global.{Global}
use Rattle.std.specs.Prelude.{⊤, ◌≡◌, ◌≢◌, ◌⊎◌, ℕ, ◌+◌, ◌<◌, List, [], ◌∷◌, ◌++◌, length, None, Result, String}
use Rattle.std.specs.Str.{chars}
use lib.Chars.{codes}
use Rattle.json5_grammar.specs.Language.Documents.{Doc, max_depth}
use Rattle.json5_grammar.specs.Language.Trees.{Tree, null, depth}
use Rattle.json5_grammar.specs.Language.Values.{Val}
use Rattle.json5_read.specs.declared.brackets.BracketKind.TheVariants as kind
use Rattle.json5_edit.specs.Changes.{EditsWith, ChangesBy, IsInserted, IsPushed}
use Rattle.json5_edit.specs.Comparing.{IsWithLast, step_key, step_kind}
use Rattle.json5_edit.specs.Entries.{empty_of, entries}
use Rattle.json5_edit.specs.Parts.{positions_of}
use Rattle.json5_edit.specs.Places.{LeadsNowhere}
use Rattle.json5_edit.specs.Refusals.{HasKey, IsFaulty, IsNo, Reaches, RefusesInsert, RefusesPush}
use Rattle.json5_edit.specs.Sets.{IsSet}
use Rattle.json5_edit.specs.declared.faults.EditError.{EditError}
use Rattle.json5_edit.specs.declared.faults.EditError.TheVariants as error
use Rattle.json5_edit.specs.declared.paths.Step.{Step}
use Rattle.json5_edit.specs.declared.paths.Step.TheVariants as step
use Rattle.json5_edit_style.specs.declared.habits.Names.{Names}
use Rattle.json5_edit_values.specs.Locations.{ChangesAt, HasAt}

-- ---- trees

-- the step goes behind the entries of t: to a key that no member has, or to an index that is their count
abbrev pub GoesBehind : Step → Tree → Type 0
GoesBehind (step.Key k) t = HasKey k.now t → ⊥
GoesBehind (step.Index i) t = length (entries t) ≡ i

-- the collection u is t with the entry behind the others to which the step goes: v
abbrev pub Gets : Step → (v t u : Tree) → Type 0
Gets s v t u = GoesBehind s t × IsWithLast (step_kind s) (step_key s) v t u

-- what is there before these steps go on from it: an empty object or array
abbrev pub begun : List Step → Tree
begun [] = null
begun (s ∷ ss) = empty_of (step_kind s)

-- v is put where the steps lead in t, in the place of what is there; where a step leads nowhere, an entry comes behind the
-- others, in which the steps after it go on
abbrev pub Puts : List Step → (v t u : Tree) → Type 0
Puts [] v t u = u ≡ v
Puts (s ∷ ss) v t u = ChangesAt (Puts ss v) (s ∷ []) t u ⊎ ((w : Tree) × Puts ss v (begun ss) w × Gets s w t u)

-- the value that these bytes spell
abbrev pub PutsSpelled : (value : List ℕ) → List Step → Tree → Tree → Type 0
PutsSpelled value steps t u = (v : Tree) × Val (chars value) v × Puts steps v t u

-- ---- texts

-- one entry more, behind the others
abbrev pub GetsText : Step → List ℕ → (outer : List Step) → (value made : List ℕ) → Type 0
GetsText (step.Key k) text outer value made = IsInserted text outer k.now value made
GetsText (step.Index i) text outer value made = Reaches (GoesBehind (step.Index i)) text outer × IsPushed text outer value made

-- what an entry begins as in which these steps go on: the value, or an empty object or array
abbrev pub first_in : List Step → (value : List ℕ) → List ℕ
first_in [] value = value
first_in (step.Key k ∷ ss) value = codes "{}"
first_in (step.Index i ∷ ss) value = codes "[]"

-- an entry for each of these steps, one within the other, and the value in the last
abbrev pub GetsAlong : List ℕ → (outer steps : List Step) → (value made : List ℕ) → Type 0
GetsAlong text outer [] value made = made ≡ text
GetsAlong text outer (s ∷ ss) value made = (between : List ℕ) × GetsText s text outer (first_in ss value) between × GetsAlong between (outer ++ (s ∷ [])) ss value made

-- where the path leads nowhere: the text has an entry more for each step from which on it doesn't lead, put in as by
-- `insert` and `push`, and the tree is the old one with the value put there
abbrev pub IsAdded : List ℕ → List Step → (value made : List ℕ) → Type 0
IsAdded text path value made =
    LeadsNowhere text path × ChangesBy (PutsSpelled value path) text made
    × ((outer : List Step) × (rest : List Step) × (path ≡ outer ++ rest) × (rest ≢ []) × GetsAlong text outer rest value made)

-- where it leads somewhere: as by `set`
abbrev pub IsPut : List ℕ → List Step → (value made : List ℕ) → Type 0
IsPut text path value made = (IsSet text path value made × ChangesBy (PutsSpelled value path) text made) ⊎ IsAdded text path value made

-- or as it was
abbrev pub IsPutIfAbsent : List ℕ → List Step → (value made : List ℕ) → Type 0
IsPutIfAbsent text path value made = (Reaches (λ t. ⊤) text path × (made ≡ text)) ⊎ IsAdded text path value made

-- ---- why it isn't

-- there is no such entry, and none can come behind the others: t is another value, or has fewer elements
abbrev pub RefusesStep : Step → Tree → EditError → Type 0
RefusesStep (step.Key k) t error.NotObject = IsNo kind.Object t
RefusesStep (step.Index i) t error.NotArray = IsNo kind.Array t
RefusesStep (step.Index i) t error.Nowhere = length (entries t) ≢ i
RefusesStep s t e = ⊥

-- at one of the steps, in t or in what is begun for the steps behind one that leads nowhere
abbrev pub RefusesSteps : List Step → Tree → EditError → Type 0
RefusesSteps [] t e = ⊥
RefusesSteps (s ∷ ss) t e = ((x : Tree) × HasAt (s ∷ []) t x × RefusesSteps ss x e) ⊎ ((positions_of (s ∷ []) t ≡ None) × (RefusesStep s t e ⊎ RefusesSteps ss (begun ss) e))

-- the bytes are no value alone, or one that is too deep within so many brackets
abbrev pub IsNoValueWithin : ℕ → List ℕ → Type 0
IsNoValueWithin n value = (v : Tree) → Val (chars value) v → max_depth < n + depth v

-- `put`
abbrev pub RefusesPut : List ℕ → List Step → (value : List ℕ) → EditError → Type 0
RefusesPut text path value (error.Text e) = IsFaulty text e
RefusesPut text path value (error.Value e) = IsNoValueWithin (length path) value
RefusesPut text path value error.NoMemory = ⊤
RefusesPut text path value e = (t : Tree) × Doc max_depth (chars text) t × RefusesSteps path t e

-- ---- what a call answers

-- `put` and `put_in`, where a name stands so as the first key
abbrev pub PutsAt : Names → List ℕ → List Step → (value : List ℕ) → Result (String Global) EditError → Type 0
PutsAt first text path value result = EditsWith first text value (IsPut text path value) (RefusesPut text path value) result

-- ---- private clauses alone cite these

abbrev pub RefusesEntry : Step → List ℕ → (outer : List Step) → (value : List ℕ) → EditError → Type 0
RefusesEntry (step.Key k) text outer value e = RefusesInsert text outer k.now value e
RefusesEntry (step.Index i) text outer value e = RefusesPush text outer value e ⊎ (Reaches (λ t. length (entries t) ≢ i) text outer × (e ≡ error.Nowhere))

abbrev pub RefusesAlong : List ℕ → (outer steps : List Step) → (value : List ℕ) → EditError → Type 0
RefusesAlong text outer [] value e = e ≡ error.NoMemory
RefusesAlong text outer (s ∷ ss) value e =
    RefusesEntry s text outer (first_in ss value) e ⊎ ((between : List ℕ) × GetsText s text outer (first_in ss value) between × RefusesAlong between (outer ++ (s ∷ [])) ss value e)

-- an entry is brought in, and the rest along the steps
abbrev pub EditsEntry : Names → Step → List ℕ → (outer : List Step) → (value : List ℕ) → Result (String Global) EditError → Type 0
EditsEntry first s text outer value result = EditsWith first text value (GetsText s text outer value) (RefusesEntry s text outer value) result

abbrev pub EditsAlong : Names → List ℕ → (outer steps : List Step) → (value : List ℕ) → Result (String Global) EditError → Type 0
EditsAlong first text outer steps value result = EditsWith first text value (GetsAlong text outer steps value) (RefusesAlong text outer steps value) result
