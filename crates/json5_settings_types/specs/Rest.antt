-- A struct that keeps the members which none of its fields has.
-- A promise rests on this.
use Rattle.std.proofs.Common.{refl}
use Rattle.std.specs.Prelude.{◌≡◌, ℕ, false, if◌then◌else◌, List, [], Option, Some, Result}
use Rattle.std.specs.Str.{encode_utf8_all}
use Rattle.json5_grammar.specs.Language.Trees.{Tree, Members, no_member, member}
use Rattle.json5_grammar.specs.Model.Collections.{joint, object_of, pair_contents}
use Rattle.json5_types.specs.declared.error.Error.{Error}
use Rattle.json5_de.specs.Convert.{every_text}
use Rattle.json5_de.specs.ConvertLists.{if_some}
use Rattle.json5_de.specs.Plans.{Plan, Step, run}
use Rattle.json5_de.specs.Refinement.{ReadsExactly, if_more}
use Rattle.json5_de.specs.State.{State}
use Rattle.json5_de.specs.StructFaults.{ValueFaults, or_of}
use Rattle.json5_fields.specs.Described.{DescribedFault}
use Rattle.json5_fields.specs.FieldCalls.{of_type}
use Rattle.json5_fields.specs.Layouts.{Held, Layout, has_name, held_step}
use Rattle.json5_settings_types.specs.Keys.{key_step, of_memory, same_key}
use Rattle.json5_settings_types.specs.Twins.{if_no_twins}

-- the members that have none of the names
abbrev pub others_of : List (List ℕ) → Members → Members
others_of names no_member = no_member
others_of names (member u escape_free t ps) = if has_name names (encode_utf8_all u) then others_of names ps else member u escape_free t (others_of names ps)

-- what counts of members, by the bytes of their keys
abbrev pub Kept : Type 0 → Type 0
Kept C = List (List ℕ × C)

-- what the fields take of an object, and the others of its members, whose keys differ
abbrev pub with_rest : {S D C : Type 0} → Layout S D → (Tree → Option C) → Members → Option (D × Kept C)
with_rest l values ps = joint (l.convert ps) (if_more (if_no_twins same_key) (pair_contents every_text values (others_of l.names ps)))

-- a member goes to the field that has its name, or comes last of the others
unfoldable pub rest_step : {S D C : Type 0} → (Tree → Option C) → Step (Held S D × Kept C)
rest_step values s u t = if has_name s.0.0.names u then if_some (λ h. (h, s.1)) (held_step s.0 u t) else if_some (λ q. (s.0, q)) (key_step values s.1 u t)

abbrev pub rest_build : {S D C : Type 0} → Held S D × Kept C → Option (D × Kept C)
rest_build s = joint (s.0.0.build s.0.1) (Some s.1)

-- the fields and the others as a plan
abbrev pub rest_plan : {S D C : Type 0} → Layout S D → (Tree → Option C) → Plan (Held S D × Kept C) (D × Kept C)
rest_plan l values = record { step = rest_step values; start = ((l, l.start), []); build = rest_build; convert = λ ps. if_more rest_build (run (rest_step values) ((l, l.start), []) ps); says = λ ps. refl }

-- the faults of the others: those of their type, of a key that comes again, or for want of memory
abbrev pub of_others : {C : Type 0} → (Tree → Option C) → (State → Error → State → Type 0) → ValueFaults
of_others values refuses = or_of (of_type values refuses) of_memory

abbrev pub RefusesRest : {S D C : Type 0} → Layout S D → ValueFaults → (Tree → Option C) → (State → Error → State → Type 0) → State → Error → State → Type 0
RefusesRest l faults values refuses old e new = old.failed ≡ false → DescribedFault (rest_plan l values) (or_of faults (of_others values refuses)) old e

-- an object of these fields and others is read from the front
abbrev pub ReadsRest : {S D C V : Type 0} → (V → D × Kept C) → Layout S D → ValueFaults → (Tree → Option C) → (State → Error → State → Type 0) → State → State → Result V Error → Type 0
ReadsRest content l faults values refuses = ReadsExactly content (object_of (with_rest l values)) (λ t. false) (RefusesRest l faults values refuses)
