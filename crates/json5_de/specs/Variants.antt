-- An enum by its variants, one plan: the name of each, and what is made of its content.
-- A promise rests on this.
use Rattle.std.specs.Prelude.{◌≡◌, ◌==◌, ◌+◌, if◌then◌else◌, ℕ, List, [], ◌∷◌, map, Option, Some, None, Result, IfOk}
use Rattle.json5_grammar.specs.Language.Trees.{Tree}
use Rattle.json5_types.specs.declared.error.Error.{Error}
use Rattle.json5_de.specs.State.{State, SameText}
use Rattle.json5_de.specs.DeserializeLaw.{IsOkOrMemory, Unprompted}
use Rattle.json5_de.specs.ConvertLists.{if_some}
use Rattle.json5_de.specs.Enums.{EnumAccessState, NameRead, GivesContent, ContentLeft, enum_of, unit_content, content_of}

-- a variant's name, and what its content converts to
pub record Variant (C : Type 0) : Type 0 where
  pub name : List ℕ
  pub convert : Option Tree → Option C

-- one that holds nothing
abbrev pub unit : {C : Type 0} → List ℕ → C → Variant C
unit name c = record { name = name; convert = λ t. if_some (λ none. c) (unit_content t) }

-- one that holds what f converts
abbrev pub holding : {A C : Type 0} → List ℕ → (Tree → Option A) → (A → C) → Variant C
holding name f make = record { name = name; convert = λ t. if_some make (content_of f t) }

abbrev pub names : {C : Type 0} → List (Variant C) → List (List ℕ)
names vs = map (λ v. v.name) vs

-- what is made of the content of the variant at index k, if these begin at index n; no name has an index after the last
abbrev pub from_index : {C : Type 0} → ℕ → List (Variant C) → ℕ → Option Tree → Option C
from_index n [] k t = None
from_index n (v ∷ []) k t = v.convert t
from_index n (v ∷ w ∷ vs) k t = if k == n then v.convert t else from_index (n + 1) (w ∷ vs) k t

abbrev pub at_index : {C : Type 0} → List (Variant C) → ℕ → Option Tree → Option C
at_index vs = from_index 0 vs

-- what these variants take of a tree
abbrev pub one_of : {C : Type 0} → List (Variant C) → Tree → Option C
one_of vs = enum_of (names vs) (at_index vs)

-- the content of the variant that was named is read, and the value to its end
pub record FinishesVariant {V C : Type 0} (content : V → C) (convert : Option Tree → Option C) (old : EnumAccessState) (new : State) (result : Result V Error) : Type 0 where
  pub read : IfOk result (λ v. (names : List (List ℕ)) (from : State) → NameRead names from old → GivesContent content convert names from old.variant new v)
  pub left : (t : Option Tree) (r : List ℕ) (c : C) → ContentLeft t r old → convert t ≡ Some c → IsOkOrMemory result
  pub unprompted : Unprompted old.reader result
  pub same_text : SameText old.reader new
