-- Values by their names.
-- A promise rests on this.
use Rattle.std.specs.Prelude.{ℕ, zero, suc, List, [], ◌∷◌, Option, Some, None, Result}
use Rattle.json5_grammar.specs.Language.Trees.{Tree}
use Rattle.json5_types.specs.declared.error.Error.{Error}
use Rattle.json5_de.specs.Convert.{variant_of}
use Rattle.json5_de.specs.DeserializeLaw.{ReadsValue}
use Rattle.json5_de.specs.State.{State}
use Rattle.json5_de.specs.TokenKinds.{RefusedAs, variant_kind, escape_free_text}
use Rattle.json5_de.specs.Refinement.{refined}

-- the value at this index, if there is one
abbrev pub value_at : {T : Type 0} → List T → ℕ → Option T
value_at [] k = None
value_at (v ∷ vs) zero = Some v
value_at (v ∷ vs) (suc k) = value_at vs k

-- a string that is one of these names, as the value at the same index; of equal names it is the first's
abbrev pub one_named : {T : Type 0} → List (List ℕ) → List T → Tree → Option T
one_named names values = refined (variant_of names) (value_at values)

-- one of these names is read from the front, as its value
abbrev pub ReadsOneOf : {T : Type 0} → List (List ℕ) → List T → State → State → Result T Error → Type 0
ReadsOneOf names values = ReadsValue (λ v. v) (one_named names values) escape_free_text (RefusedAs (variant_kind names))
