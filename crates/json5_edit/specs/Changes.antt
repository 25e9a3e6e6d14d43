-- A text with a collection changed.
-- A promise rests on this.
use denote.Ref.{Bor}
use Rattle.std.specs.declared.alloc.Global.{Global}
use Rattle.std.specs.Prelude.{◌≡◌, ℕ, ◌+◌, ◌≤◌, List, [], ◌∷◌, ◌++◌, length, IfErr, IfOk, Result, Some, String, string_bytes}
use Rattle.std.specs.Str.{chars}
use Rattle.json5_grammar.specs.Language.Documents.{Doc, max_depth}
use Rattle.json5_grammar.specs.Language.Trees.{Tree}
use Rattle.json5_grammar.specs.Language.Values.{Val}
use Rattle.json5_edit_style.specs.declared.habits.Names.{Names}
use Rattle.json5_edit_style.specs.declared.habits.Names.TheVariants as names
use Rattle.json5_lexemes.specs.Plain.{KeepsPlain, StaysPlain}
use Rattle.json5_read.specs.declared.brackets.BracketKind.{BracketKind as Kind}
use Rattle.json5_read.specs.declared.brackets.BracketKind.TheVariants as kind
use Rattle.json5_edit.specs.Entries.{entries}
use Rattle.json5_edit.specs.Comparing.{IsWithout, IsWithLast, IsWithAt, IsWithMember, IsRenamed}
use Rattle.json5_edit.specs.Parts.{part, put, positions_of}
use Rattle.json5_edit.specs.Pieces.{Cuts, CutsWith, Grows, Respells}
use Rattle.json5_edit.specs.Refusals.{IsFree, RefusesInsert}
use Rattle.json5_edit.specs.declared.belongings.Lead.{Lead}
use Rattle.json5_edit.specs.declared.belongings.Lead.TheVariants as leads
use Rattle.json5_edit.specs.declared.faults.EditError.{EditError}
use Rattle.json5_edit.specs.declared.paths.Before.{Before}
use Rattle.json5_edit.specs.declared.paths.Step.{Step}
use Rattle.json5_edit.specs.declared.paths.Step.TheVariants as step

-- ---- collections alone

-- both texts are documents, and the trees are so changed
abbrev pub ChangesBy : (Tree → Tree → Type 0) → List ℕ → List ℕ → Type 0
ChangesBy Change old new = (t : Tree) × (u : Tree) × Doc max_depth (chars old) t × Doc max_depth (chars new) u × Change t u

-- one entry more, the last, with the value that these bytes spell
abbrev pub Gains : Kind → List ℕ → List ℕ → Tree → Tree → Type 0
Gains k key value t u = (v : Tree) × Val (chars value) v × IsWithLast k key v t u

-- one element more, before that with this index, with the value that these bytes spell
abbrev pub GainsAt : ℕ → List ℕ → Tree → Tree → Type 0
GainsAt i value t u = (v : Tree) × Val (chars value) v × IsWithAt i v t u

-- one member more, which comes there, with the value that these bytes spell
abbrev pub GainsMember : Before → List ℕ → List ℕ → Tree → Tree → Type 0
GainsMember b key value t u = (v : Tree) × Val (chars value) v × IsWithMember b key v t u

-- ---- whole texts

-- the text `made` is the text with the collection that the path leads to changed so; both are documents, and the tree
-- is the old one with that part replaced
pub record IsChanged (Change : Tree → Tree → Type 0) (text : List ℕ) (path : List Step) (made : List ℕ) : Type 0 where
  pub before : List ℕ
  pub old : List ℕ
  pub new : List ℕ
  pub after : List ℕ
  pub was : text ≡ before ++ (old ++ after)
  pub now : made ≡ before ++ (new ++ after)
  pub tree : Tree
  pub old_tree : Tree
  pub new_tree : Tree
  pub positions : List ℕ
  pub led : positions_of path tree ≡ Some positions
  pub old_value : Val (chars old) old_tree
  pub new_value : Val (chars new) new_tree
  pub there : part positions tree ≡ Some old_tree
  pub document : Doc max_depth (chars text) tree
  pub still : Doc max_depth (chars made) (put positions tree new_tree)
  pub changed : Change old_tree new_tree

-- without the entry that the path leads to: of the collection's text one part goes, and perhaps the comma before it
abbrev pub IsRemoved : List ℕ → List Step → List ℕ → Type 0
IsRemoved text path made = (outer : List Step) × (s : Step) × (path ≡ outer ++ (s ∷ [])) × (c : IsChanged (IsWithout s) text outer made) × Cuts c.old c.new

-- the same, where the comments before the entry go or stay; as plain as before
abbrev pub RemovesWith : Lead → List ℕ → List Step → List ℕ → Type 0
RemovesWith l text path made = ((outer : List Step) × (s : Step) × (path ≡ outer ++ (s ∷ [])) × (c : IsChanged (IsWithout s) text outer made) × CutsWith l c.old c.new) × KeepsPlain text made

-- where they stay
abbrev pub IsRemovedAlone : List ℕ → List Step → List ℕ → Type 0
IsRemovedAlone text path made = RemovesWith leads.Stays text path made

-- with one more element at the end of the array that the path leads to: it comes alone, and perhaps a comma before it
abbrev pub IsPushed : List ℕ → List Step → List ℕ → List ℕ → Type 0
IsPushed text path value made = (c : IsChanged (Gains kind.Array [] value) text path made) × Grows kind.Array value c.old c.new

-- the collection that this text spells has an entry with the index
abbrev pub HasIndex : ℕ → List ℕ → Type 0
HasIndex i old = (t : Tree) × Val (chars old) t × (i + 1 ≤ length (entries t))

-- with one more element of the array that the path leads to, before that with this index, which is there: so too
abbrev pub IsPutIn : List ℕ → List Step → ℕ → List ℕ → List ℕ → Type 0
IsPutIn text path i value made = (c : IsChanged (GainsAt i value) text path made) × Grows kind.Array value c.old c.new × HasIndex i c.old

-- with one more member, the last, of the object that the path leads to, where none had the key: so too
abbrev pub IsInserted : List ℕ → List Step → List ℕ → List ℕ → List ℕ → Type 0
IsInserted text path key value made = (c : IsChanged (Gains kind.Object key value) text path made) × Grows kind.Object value c.old c.new × IsFree key c.old

-- with another key, which no member had, for the member that the path leads to: one key is spelled anew
abbrev pub IsRekeyed : List ℕ → List Step → List ℕ → List ℕ → Type 0
IsRekeyed text path key made = (outer : List Step) × (k : Bor (List ℕ)) × (path ≡ outer ++ (step.Key k ∷ [])) × (c : IsChanged (IsRenamed k.now key) text outer made) × Respells c.old c.new × IsFree key c.old

-- made is as plain as the text where the value is so too, if a name stands between quotes as the first key
abbrev pub StaysPlainQuoted : Names → List ℕ → List ℕ → List ℕ → Type 0
StaysPlainQuoted first text value made = first ≡ names.Quoted → StaysPlain text value made

-- with one more member that comes before others, where none had the key; as plain as the text, as said above
abbrev pub InsertsBefore : Before → Names → List ℕ → List Step → List ℕ → List ℕ → List ℕ → Type 0
InsertsBefore b first text path key value made = ((c : IsChanged (GainsMember b key value) text path made) × Grows kind.Object value c.old c.new × IsFree key c.old) × StaysPlainQuoted first text value made

-- ---- what a call answers

-- a text that is so plain and so made, or why there is none
pub record Edits (Plain Made : List ℕ → Type 0) (Refuses : EditError → Type 0) (result : Result (String Global) EditError) : Type 0 where
  pub made : IfOk result (λ new. Made (string_bytes new))
  pub plain : IfOk result (λ new. Plain (string_bytes new))
  pub refused : IfErr result Refuses

-- the same of a value that is brought in, where a name stands so as the first key
abbrev pub EditsWith : Names → (text value : List ℕ) → (Made : List ℕ → Type 0) → (Refuses : EditError → Type 0) → Result (String Global) EditError → Type 0
EditsWith first text value Made Refuses result = Edits (StaysPlainQuoted first text value) Made Refuses result

-- `insert` and `insert_in`
abbrev pub Inserts : Names → List ℕ → List Step → (key value : List ℕ) → Result (String Global) EditError → Type 0
Inserts first text path key value result = EditsWith first text value (IsInserted text path key value) (RefusesInsert text path key value) result
