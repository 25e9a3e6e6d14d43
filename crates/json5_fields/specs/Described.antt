-- What reading by a description means.
-- A promise rests on this.
use Rattle.std.specs.Prelude.{◌≡◌, ℕ, false, List, ◌∷◌, None, Result}
use Rattle.json5_grammar.specs.Language.Characters.{right_brace}
use Rattle.json5_grammar.specs.Model.Collections.{object_of}
use Rattle.json5_types.specs.declared.error.Error.{Error}
use Rattle.json5_tokens.specs.Cursor.{IsOutOfMemory}
use Rattle.json5_de.specs.State.{State}
use Rattle.json5_de.specs.Arrays.{IsAtBracket}
use Rattle.json5_de.specs.Objects.{MapAccessState}
use Rattle.json5_de.specs.Plans.{Plan}
use Rattle.json5_de.specs.Refinement.{ReadsExactly}
use Rattle.json5_de.specs.StructFaults.{ValueFaults, StructFault, OpenedObject, ReadSince, or_of, of_any}
use Rattle.json5_fields.specs.Layouts.{Layout, held_plan}
use Rattle.json5_fields.specs.Spares.{Spares, struct_free}
use Rattle.json5_fields.specs.Only.{only_these, only_plan, of_unknown}

-- as a struct of these fields, or memory ran out for a default after all members were read
pub data DescribedFault {S D : Type 0} (plan : Plan S D) (faults : ValueFaults) (old : State) (e : Error) : Type 0 where
  in_fields : StructFault plan faults old e → DescribedFault plan faults old e
  no_default : (first now : MapAccessState) (s : S) (r : List ℕ) → OpenedObject old first → ReadSince plan.step plan.start s None first now → now.at.reader.unread ≡ right_brace ∷ r → IsOutOfMemory e → IsAtBracket now.at e → DescribedFault plan faults old e

-- how a struct of these fields is refused
abbrev pub RefusesDescribed : {S D : Type 0} → Layout S D → ValueFaults → State → Error → State → Type 0
RefusesDescribed l faults old e new = old.failed ≡ false → DescribedFault (held_plan l) (or_of faults of_any) old e

-- an object of these fields is read from the front
abbrev pub ReadsDescribed : {S D V : Type 0} → (V → D) → Layout S D → Spares → ValueFaults → State → State → Result V Error → Type 0
ReadsDescribed content l spares faults = ReadsExactly content (object_of l.convert) (struct_free spares) (RefusesDescribed l faults)

-- the same, if it may have no other field
abbrev pub RefusesOnly : {S D : Type 0} → Layout S D → ValueFaults → State → Error → State → Type 0
RefusesOnly l faults old e new = old.failed ≡ false → DescribedFault (only_plan l) (or_of faults of_unknown) old e

abbrev pub ReadsOnly : {S D V : Type 0} → (V → D) → Layout S D → Spares → ValueFaults → State → State → Result V Error → Type 0
ReadsOnly content l spares faults = ReadsExactly content (object_of (only_these l)) (struct_free spares) (RefusesOnly l faults)
