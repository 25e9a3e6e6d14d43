-- What reading an enum by its names and the contents of its variants means.
-- A promise rests on this.
use Rattle.std.specs.Prelude.{◌≡◌, ◌≢◌, ◌⊎◌, ◌==◌, ◌-◌, if◌then◌else◌, ℕ, false, List, Option, Result, IfErr}
use Rattle.json5_grammar.specs.Language.Trees.{Tree}
use Rattle.json5_types.specs.declared.error.Error.{Error}
use Rattle.json5_de.specs.State.{State}
use Rattle.json5_de.specs.ConvertLists.{if_some}
use Rattle.json5_de.specs.Refinement.{ReadsExactly}
use Rattle.json5_de.specs.Enums.{EnumAccessState, NameRead, RefusesName, enum_of}
use Rattle.json5_de.specs.Variants.{FinishesVariant}

-- the content of the first of some variants, or of a later one
pub data Either (A B : Type 0) : Type 0 where
  first : A → Either A B
  later : B → Either A B

-- the first variant takes a content at index 0, and the later ones, which are counted from 0 again, at the others
abbrev pub first_or_later : {A B : Type 0} → (ℕ → Option Tree → Option A) → (ℕ → Option Tree → Option B) → ℕ → Option Tree → Option (Either A B)
first_or_later f g k t = if k == 0 then if_some first (f 0 t) else if_some later (g (k - 1) t)

-- how the content of the variant at an index is refused
abbrev pub ContentFaults : Type 1
ContentFaults = ℕ → EnumAccessState → Error → Type 0

abbrev pub fault_of_either : ContentFaults → ContentFaults → ContentFaults
fault_of_either f g k old e = ((k ≡ 0) × f 0 old e) ⊎ ((k ≢ 0) × g (k - 1) old e)

-- the content of the variant at index k is read, and the value to its end
pub record TakesContent {V C : Type 0} (content : V → C) (convert : ℕ → Option Tree → Option C) (faults : ContentFaults) (k : ℕ) (old : EnumAccessState) (new : State) (result : Result V Error) : Type 0 where
  pub finishes : FinishesVariant content (convert k) old new result
  pub refused : IfErr result (faults k old)

-- why no variant is read: none is named, or the content of the one that is named is refused
pub data VariantFault (names : List (List ℕ)) (faults : ContentFaults) (old : State) (e : Error) : Type 0 where
  not_named : RefusesName names old e → VariantFault names faults old e
  in_variant : (now : EnumAccessState) → NameRead names old now → faults now.variant now e → VariantFault names faults old e

-- how such an enum is refused
abbrev pub RefusesEnum : List (List ℕ) → ContentFaults → State → Error → State → Type 0
RefusesEnum names faults old e new = old.failed ≡ false → VariantFault names faults old e

-- one of these variants is read from the front
abbrev pub ReadsEnum : {V C : Type 0} → (V → C) → List (List ℕ) → (ℕ → Option Tree → Option C) → ContentFaults → State → State → Result V Error → Type 0
ReadsEnum content names convert faults = ReadsExactly content (enum_of names convert) (λ t. false) (RefusesEnum names faults)
