-- An object with its members in the order of their keys.
-- A promise rests on this.
use Rattle.std.specs.declared.cmp.Ordering.{Ordering}
use Rattle.std.specs.Prelude.{◌≡◌, ℕ, List, [], ◌∷◌, Some, ⊤}
use Rattle.std.specs.Cmp.Lexicographic.{slice_cmp}
use Rattle.std.specs.List.Sorted.{IsSortedByKey, IsStableByKey}
use Rattle.std.specs.Ordering.{nat_cmp}
use Rattle.std.specs.Str.{chars}
use Rattle.json5_grammar.specs.Language.Documents.{Doc, max_depth}
use Rattle.json5_grammar.specs.Language.Trees.{Tree}
use Rattle.json5_grammar.specs.Language.Values.{Val}
use Rattle.json5_lexemes.specs.Plain.{KeepsPlain}
use Rattle.json5_read.specs.declared.brackets.BracketKind.TheVariants as kind
use Rattle.json5_types.specs.Cows.{cow_bytes}
use Rattle.json5_walk.specs.Walks.{Walked}
use Rattle.json5_edit.specs.Changes.{ChangesBy, IsChanged}
use Rattle.json5_edit.specs.Comparing.{With}
use Rattle.json5_edit.specs.Entries.{entries, kind_of, Closed, Holds}
use Rattle.json5_edit.specs.Places.{IsValue}
use Rattle.json5_edit.specs.declared.entries.Entry.{Entry}
use Rattle.json5_edit.specs.declared.paths.Step.{Step}

-- texts in UTF-8 by their bytes, which is the order of their characters' code points
abbrev pub text_cmp : List ℕ → List ℕ → Ordering
text_cmp = slice_cmp nat_cmp

abbrev pub key_of : List ℕ × Tree → List ℕ
key_of e = e.0

-- the object u has the members of t in the order of their keys: of each key the same ones, in the order that they had
pub record HasMembersSorted (t u : Tree) : Type 0 where
  pub was_kind : kind_of t ≡ Some kind.Object
  pub kind : kind_of u ≡ Some kind.Object
  pub sorted : IsSortedByKey key_of text_cmp (entries u)
  pub same : IsStableByKey key_of text_cmp (entries t) (entries u)

-- the text made is the text with the members so sorted of the object that the path leads to
abbrev pub IsOrdered : List ℕ → List Step → List ℕ → Type 0
IsOrdered text path made = IsChanged HasMembersSorted text path made

-- the same of an object's text, which fits and is as plain as before
abbrev pub Sorts : ℕ → List ℕ → List ℕ → Type 0
Sorts room old new = ChangesBy HasMembersSorted old new × IsValue room (chars new) × KeepsPlain old new

-- ---- entries as they were passed

abbrev pub entry_key : Entry → List ℕ
entry_key e = cow_bytes e.key

-- the texts of the entries spell these keys and values
abbrev pub Spell : List Entry → List (List ℕ × Tree) → Type 0
Spell [] [] = ⊤
Spell [] (p ∷ ps) = ⊥
Spell (e ∷ es) [] = ⊥
Spell (e ∷ es) (p ∷ ps) = (cow_bytes e.key ≡ p.0) × Val (chars e.value.now) p.1 × Spell es ps

-- the walk passed these entries and the closing bracket
abbrev pub PassesAll : List Entry → Walked → Walked → Type 0
PassesAll es old new = (x : List ℕ) (t : Tree) → Holds x t old → (ps : List (List ℕ × Tree)) × (u : Tree) × With t ps u × Closed x u new × Spell es ps

-- the text is an object with these members
abbrev pub ListsMembers : List ℕ → List Entry → Type 0
ListsMembers text es = (t : Tree) × Doc max_depth (chars text) t × (kind_of t ≡ Some kind.Object) × Spell es (entries t)

-- new has the entries of old in the order of their keys
abbrev pub AreInOrder : List Entry → List Entry → Type 0
AreInOrder old new = IsSortedByKey entry_key text_cmp new × IsStableByKey entry_key text_cmp old new
