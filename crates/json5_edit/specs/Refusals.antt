-- Why an edit isn't made. `NoMemory` says nothing, and `Failed` is never answered but where its call says so.
-- A promise rests on this.
use Rattle.std.specs.Prelude.{◌≡◌, ◌≢◌, ◌⊎◌, ℕ, ◌+◌, ◌-◌, List, [], ◌∷◌, ◌++◌, length, Some, ⊤}
use Rattle.std.specs.Str.{chars}
use Rattle.json5_grammar.specs.Faults.Refusals.{BlamesText}
use Rattle.json5_grammar.specs.Language.Documents.{Doc, max_depth}
use Rattle.json5_grammar.specs.Language.Trees.{Tree, object}
use Rattle.json5_grammar.specs.Language.Values.{Val}
use Rattle.json5_types.specs.declared.error.Error.{Error}
use Rattle.json5_tokens.specs.Cursor.{Refused, IsOutOfMemory}
use Rattle.json5_read.specs.declared.brackets.BracketKind.{BracketKind as Kind}
use Rattle.json5_read.specs.declared.brackets.BracketKind.TheVariants as kind
use Rattle.json5_read.specs.ModelSteps.{IsUnprompted}
use Rattle.json5_read.specs.DocumentReads.{unread_text}
use Rattle.json5_walk.specs.Walks.{IsDocument}
use Rattle.json5_edit.specs.Entries.{kind_of as kind_of_tree}
use Rattle.json5_edit.specs.Parts.{part, member_of, positions_of}
use Rattle.json5_edit.specs.Places.{IsValue, LeadsNowhere}
use Rattle.json5_edit.specs.declared.faults.EditError.{EditError}
use Rattle.json5_edit.specs.declared.faults.EditError.TheVariants as error
use Rattle.json5_edit.specs.declared.paths.Before.{Before}
use Rattle.json5_edit.specs.declared.paths.Before.TheVariants as before_place
use Rattle.json5_edit.specs.declared.paths.Step.{Step}
use Rattle.json5_edit.specs.declared.paths.Step.TheVariants as step

-- ---- what is refused

-- the text is no document, and this is the fault of reading it
pub record IsFaulty (text : List ℕ) (e : Error) : Type 0 where
  pub no_document : IsDocument text → ⊥
  pub fault : Refused (BlamesText max_depth) (unread_text (chars text)) e
  pub unprompted : IsUnprompted e

-- the text is a document, and the path leads in it to a value of which this holds
pub record Reaches (Such : Tree → Type 0) (text : List ℕ) (path : List Step) : Type 0 where
  pub tree : Tree
  pub document : Doc max_depth (chars text) tree
  pub positions : List ℕ
  pub led : positions_of path tree ≡ Some positions
  pub value : Tree
  pub there : part positions tree ≡ Some value
  pub such : Such value

-- the text is a document, and where the path leads, so many brackets further in, `new` is no value alone or is too deep
pub record Misfits (further : ℕ) (text : List ℕ) (path : List Step) (new : List ℕ) : Type 0 where
  pub tree : Tree
  pub document : Doc max_depth (chars text) tree
  pub positions : List ℕ
  pub led : positions_of path tree ≡ Some positions
  pub misfit : IsValue (max_depth - (length positions + further)) (chars new) → ⊥

-- another value than a collection of this kind
abbrev pub IsNo : Kind → Tree → Type 0
IsNo k t = kind_of_tree t ≢ Some k

-- an object that has a member with this key
abbrev pub HasKey : List ℕ → Tree → Type 0
HasKey key (object ps) = (found : ℕ × Tree) × (member_of key ps ≡ Some found)
HasKey key _ = ⊥

-- the path has no step, or its last one goes to an element
abbrev pub EndsInNoKey : List Step → Type 0
EndsInNoKey path = (path ≡ []) ⊎ ((outer : List Step) × (i : ℕ) × (path ≡ outer ++ (step.Index i ∷ [])))

-- ---- the refusals of each call

-- `find`: with the text's fault, or because memory ran out
abbrev pub RefusesText : List ℕ → Error → Type 0
RefusesText text e = IsOutOfMemory e ⊎ IsFaulty text e

-- what every edit can be refused with
abbrev pub RefusesPath : List ℕ → List Step → EditError → Type 0
RefusesPath text path (error.Text e) = IsFaulty text e
RefusesPath text path error.Nowhere = LeadsNowhere text path
RefusesPath text path error.NoMemory = ⊤
RefusesPath text path _ = ⊥

-- `set`
abbrev pub RefusesSet : List ℕ → List Step → List ℕ → EditError → Type 0
RefusesSet text path new (error.Value e) = Misfits 0 text path new
RefusesSet text path new e = RefusesPath text path e

-- `remove`
abbrev pub RefusesRemove : List ℕ → List Step → EditError → Type 0
RefusesRemove text path error.Nowhere = LeadsNowhere text path ⊎ (path ≡ [])
RefusesRemove text path e = RefusesPath text path e

-- `comment`: `Failed` isn't excluded, where another text couldn't be made either
abbrev pub RefusesComment : List ℕ → List Step → EditError → Type 0
RefusesComment text path error.Failed = ⊤
RefusesComment text path e = RefusesRemove text path e

-- `sort`: so too
abbrev pub RefusesSort : List ℕ → List Step → EditError → Type 0
RefusesSort text path error.NotObject = Reaches (IsNo kind.Object) text path
RefusesSort text path error.Failed = ⊤
RefusesSort text path e = RefusesPath text path e

-- `push`
abbrev pub RefusesPush : List ℕ → List Step → List ℕ → EditError → Type 0
RefusesPush text path value error.NotArray = Reaches (IsNo kind.Array) text path
RefusesPush text path value (error.Value e) = Misfits 1 text path value
RefusesPush text path value e = RefusesPath text path e

-- `insert_element`: there is no element with the index
abbrev pub RefusesPutIn : List ℕ → List Step → ℕ → List ℕ → EditError → Type 0
RefusesPutIn text path i value error.Nowhere = LeadsNowhere text (path ++ (step.Index i ∷ []))
RefusesPutIn text path i value error.NotArray = Reaches (IsNo kind.Array) text path
RefusesPutIn text path i value (error.Value e) = Misfits 1 text path value
RefusesPutIn text path i value e = RefusesPath text path e

-- `insert`
abbrev pub RefusesInsert : List ℕ → List Step → List ℕ → List ℕ → EditError → Type 0
RefusesInsert text path key value error.NotObject = Reaches (IsNo kind.Object) text path
RefusesInsert text path key value error.Taken = Reaches (HasKey key) text path
RefusesInsert text path key value (error.Value e) = Misfits 1 text path value
RefusesInsert text path key value e = RefusesPath text path e

-- `insert_before`: no member has the key of the other
abbrev pub RefusesBefore : Before → List ℕ → List Step → List ℕ → List ℕ → EditError → Type 0
RefusesBefore (before_place.Key k) text path key value error.Nowhere = LeadsNowhere text (path ++ (step.Key k ∷ []))
RefusesBefore b text path key value e = RefusesInsert text path key value e

-- `rename`: the member's object has the new key
abbrev pub RefusesRename : List ℕ → List Step → List ℕ → EditError → Type 0
RefusesRename text path key error.NoKey = EndsInNoKey path
RefusesRename text path key error.Taken = (outer : List Step) × (s : Step) × (path ≡ outer ++ (s ∷ [])) × Reaches (HasKey key) text outer
RefusesRename text path key e = RefusesPath text path e

-- ---- within a collection's text

-- for a reason that isn't the caller's
abbrev pub IsOwn : EditError → Type 0
IsOwn error.NoMemory = ⊤
IsOwn error.Failed = ⊤
IsOwn _ = ⊥

-- a value that is no such collection
abbrev pub BeginsNo : Kind → List ℕ → Type 0
BeginsNo k x = (t : Tree) → Val x t → IsNo k t

-- a step that goes to no entry
abbrev pub RefusesStep : List ℕ → Step → EditError → Type 0
RefusesStep old s error.Nowhere = LeadsNowhere old (s ∷ [])
RefusesStep old s error.NoMemory = ⊤
RefusesStep old s _ = ⊥

-- no member has the key of the other
abbrev pub RefusesStart : Before → List ℕ → EditError → Type 0
RefusesStart (before_place.Key k) old error.Nowhere = LeadsNowhere old (step.Key k ∷ [])
RefusesStart b old error.NoMemory = ⊤
RefusesStart b old _ = ⊥

-- no member of the object that this text spells has the key
abbrev pub IsFree : List ℕ → List ℕ → Type 0
IsFree key old = (t : Tree) → Val (chars old) t → HasKey key t → ⊥

-- a text of no such collection
abbrev pub RefusesKind : Kind → List ℕ → EditError → Type 0
RefusesKind kind.Array old error.NotArray = BeginsNo kind.Array (chars old)
RefusesKind kind.Object old error.NotObject = BeginsNo kind.Object (chars old)
RefusesKind k old error.NoMemory = ⊤
RefusesKind k old _ = ⊥

-- the same, or a key that a member has
abbrev pub RefusesFree : List ℕ → List ℕ → EditError → Type 0
RefusesFree old key error.Taken = (t : Tree) × Doc max_depth (chars old) t × HasKey key t
RefusesFree old key e = RefusesKind kind.Object old e

-- what is no value alone in which so many brackets may be open at once
abbrev pub RefusesValue : ℕ → List ℕ → EditError → Type 0
RefusesValue room new (error.Value e) = IsValue room (chars new) → ⊥
RefusesValue room new error.NoMemory = ⊤
RefusesValue room new _ = ⊥
