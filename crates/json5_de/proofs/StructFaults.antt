-- Why a struct is refused, from what its calls say.
use Rattle.std.proofs.Common.{◌≡◌, ℕ, Bool, true, false, List, refl, sym, ap, ◌∙◌, subst, Option, Some, None, Ok, Err}
use Rattle.std.specs.Prelude.{Result, IfErr, IsErrAnd, is_some}
use Rattle.json5_grammar.specs.declared.error_code.ErrorCode.TheVariants as codes
use Rattle.json5_grammar.specs.Model.Collections.{IsBrace}
use Rattle.json5_grammar.specs.Language.Trees.{Tree}
use Rattle.json5_grammar.proofs.CommonLemmas.{true_false}
use Rattle.json5_grammar.proofs.ObjectsRead.{brace_closes}
use Rattle.json5_types.specs.declared.error.Error.{Error}
use Rattle.json5_types.specs.Errors.{code, kind_of}
use Rattle.json5_de.specs.State.{State, SameText}
use Rattle.json5_de.specs.ConvertLists.{if_some}
use Rattle.json5_de.specs.Faults.{RefusedBy}
use Rattle.json5_de.specs.Arrays.{NotOpened, IsAtBracket}
use Rattle.json5_de.specs.AnyTree.{RefusesTree}
use Rattle.json5_read.specs.Brackets.{curly}
use Rattle.json5_de.specs.KeyKinds.{RefusedAsKey, string_key}
use Rattle.json5_de.specs.Keys.{KeyConversion}
use Rattle.json5_de.specs.Objects.{MapAccessState, GivesMemberKey, OpensMap, ClosesMap}
use Rattle.json5_de.specs.ObjectFaults.{KeyRefusedAtBrace}
use Rattle.json5_de.specs.Fields.{FieldFault, in_field, twice, FieldRead, RefusesHere, IsOwnAtBracket}
use Rattle.json5_de.specs.Lending.{map_state_of, KeepsMap}
use Rattle.json5_de.specs.declared.map.MapAccess.{MapAccess}
use Rattle.json5_de.specs.Plans.{Step, Plan, ReadsMembers}
use Rattle.json5_de.specs.StructFaults.{ValueFaults, may_stand, of_field, first, second, of_any, RefusesMember, ReadSince, MembersFault, at_key, at_value, RefusesMembers, OpenedObject, StructFault, not_opened, in_pairs, missing}
use Rattle.json5_de.proofs.ElementLoops.{handed_on}
use Rattle.json5_de.proofs.Structs.{ReadingStruct, StandsFor, Part, Passes}

-- ---- the value of a key

some_made : {A B : Type 0} (g : A → B) (o : Option A) → is_some (if_some g o) ≡ is_some o
some_made g None = refl
some_made g (Some a) = refl

module _ {S : Type 0} (faults : ValueFaults) {step : Step S} {old : MapAccessState} where
  -- a field's value is refused; s has what was read of the others, and the field's faults are among those of all
  pub field_refused : {V C : Type 0} {content : V → C} {convert : Tree → Option C} {refuses : State → Error → State → Type 0} {name : List ℕ} {new : MapAccessState} {field next : Option V} {result : Result (Unit {0}) Error} (s : S) (part : Part step name convert)
      → ((may : Tree → Bool) (e : Error) → of_field name convert refuses name may old e → faults name may old e) → FieldRead content convert refuses old new field next result → RefusesMember faults step (part.set s (if_some content field)) name old result
  field_refused {V} {C} {content = content} {convert = convert} {refuses = refuses} {name = name} {field = field} {result = result} s part one is = by result is.cause
    where
      may : Option V → Tree → Bool
      may o = may_stand step (part.set s (if_some content o)) name

      fault : (o : Option V) (e : Error) → FieldFault refuses old o e → of_field name convert refuses name (may o) old e
      fault None e (in_field none refused) = first refl (λ t. ap is_some (part.takes s t) ∙ some_made (λ c. part.set s (Some c)) (convert t)) refused
      fault None e (twice some own) = absurd (cc)
      fault (Some v) e (in_field none refused) = absurd (cc)
      fault (Some v) e (twice some own) = second refl (λ t. ap is_some (part.twice s (content v) t)) own

      by : (result : Result (Unit {0}) Error) → IfErr result (λ e. old.at.reader.failed ≡ false → FieldFault refuses old field e) → RefusesMember faults step (part.set s (if_some content field)) name old result
      by (Ok done) cause = tt
      by (Err e) cause = λ live. one (may field) e (fault field e (cause live))

  -- a value that is passed over is refused
  pub passed_refused : {name : List ℕ} (result : Result (Unit {0}) Error) (s : S) → ((may : Tree → Bool) (e : Error) → of_any name may old e → faults name may old e) → Passes step name
      → RefusesHere (λ s own after. RefusesTree s own) old result → RefusesMember faults step s name old result
  passed_refused {name = name} result s one passes is = by result is
    where
      by : (result : Result (Unit {0}) Error) → RefusesHere (λ s own after. RefusesTree s own) old result → RefusesMember faults step s name old result
      by (Ok done) cause = tt
      by (Err e) cause = λ live. one (may_stand step s name) e (record { every = λ t. ap is_some (passes.same s t); fault = cause live })

-- ---- the members

same_place : (old now : MapAccessState) (e : Error) → SameText old.at.reader now.at.reader → now.at.start ≡ old.at.start → IsAtBracket now.at e → IsAtBracket old.at e
same_place old now e same_text same_brace there before after = there before (record { rest = after.rest; split = same_text ∙ after.split; counted = same_brace ∙ after.counted })

-- a reader that returns a key or None hasn't failed
pub live_before : {X C : Type 0} (content : X → C) (keys : KeyConversion C) (old new : MapAccessState) (o : Option X) → GivesMemberKey content keys old new o → old.at.reader.failed ≡ true → ⊥
live_before content keys old new None (at, comma_due, none) f = true_false f at.live
live_before content keys old new (Some k) (u, escape_free, took, is, comma_due, waits) f = true_false f took.live

module _ {S : Type 0} {step : Step S} {start : S} {old : MapAccessState} where
  -- what was read so far, perhaps a key after it
  read_since : {s : S} {key : Option (List ℕ)} {now : MapAccessState} (m : ReadingStruct step start old s key now) → SameText old.at.reader now.at.reader → now.at.start ≡ old.at.start → old.at.reader.failed ≡ false → ReadSince step start s m.waits old now
  read_since m same_text same_brace live = record { live = m.live live; same_text = same_text; same_brace = same_brace; pairs = m.pairs; are = m.are; read = m.read }

  module _ (faults : ValueFaults) {s : S} {now : MapAccessState} (e : Error) (result : Result (Unit {0}) Error) where
    -- the next key was refused
    pub key_cause : IsErrAnd result (λ y. y ≡ e) → ReadingStruct step start old s None now → SameText old.at.reader now.at.reader → now.at.start ≡ old.at.start
        → (now.at.reader.failed ≡ false → KeyRefusedAtBrace (RefusedAsKey string_key) now e) → (old.at.reader.failed ≡ true → (kind_of e ≡ code codes.Failed) × IsAtBracket now.at e) → RefusesMembers step faults start old result
    key_cause is_err m same_text same_brace fault failed = handed_on (λ r. RefusesMembers step faults start old r) e result is_err (record {
      cause = λ live. by live m.waits m.named (read_since m same_text same_brace live);
      before = λ f. let (kind, there) = failed f in (kind, same_place old now e same_text same_brace there);
    })
      where
        by : old.at.reader.failed ≡ false → (waits : Option (List ℕ × Bool)) → StandsFor None waits → ReadSince step start s waits old now → MembersFault step faults start old e
        by live None named since = at_key s now since (fault since.live)
        by live (Some w) named since = absurd named

    -- the value of a key was refused
    pub value_cause : {name : List ℕ} → IsErrAnd result (λ y. y ≡ e) → ReadingStruct step start old s (Some name) now → SameText old.at.reader now.at.reader → now.at.start ≡ old.at.start
        → (now.at.reader.failed ≡ false → faults name (may_stand step s name) now e) → (old.at.reader.failed ≡ true → ⊥) → RefusesMembers step faults start old result
    value_cause {name = name} is_err m same_text same_brace fault never = handed_on (λ r. RefusesMembers step faults start old r) e result is_err (record {
      cause = λ live. by m.waits m.named (read_since m same_text same_brace live);
      before = λ f. absurd (never f);
    })
      where
        by : (waits : Option (List ℕ × Bool)) → StandsFor (Some name) waits → ReadSince step start s waits old now → MembersFault step faults start old e
        by None named since = absurd named
        by (Some (u, escape_free)) named since = at_value s now u escape_free since (subst (λ w. faults w (may_stand step s w) now e) (sym named) (fault since.live))

-- ---- the struct

module _ {I : Type 0} {Held : MapAccess I → Type 0} {old : State} (map : MapAccess I) (opens : OpensMap Held map_state_of old (Ok map)) where
  opened_object : OpenedObject old (map_state_of map)
  opened_object = record { opened = opens.bracket.opened.0; start = opens.bracket.start; read = opens.read }

  begun_live : (map_state_of map).at.reader.failed ≡ false
  begun_live = ap (λ (s : State). s.failed) opens.read.rest ∙ opens.read.live

abbrev HasFault : {S D U : Type 0} → Plan S D → ValueFaults → State → Result U Error → Type 0
HasFault plan faults old result = IfErr result (λ e. old.failed ≡ false → StructFault plan faults old e)

module _ {S D : Type 0} (plan : Plan S D) (faults : ValueFaults) {old : State} {U : Type 0} (e : Error) (result : Result U Error) (is_err : IsErrAnd result (λ y. y ≡ e)) where
  struct_fault : (old.failed ≡ false → StructFault plan faults old e) → HasFault plan faults old result
  struct_fault fault = handed_on (λ r. HasFault plan faults old r) e result is_err fault

  -- no object was opened
  pub unopened : RefusedBy (NotOpened curly old.level) old e → HasFault plan faults old result
  unopened refused = struct_fault (λ live. not_opened refused)

  module _ {I : Type 0} {Held : MapAccess I → Type 0} (map : MapAccess I) (opens : OpensMap Held map_state_of old (Ok map)) where
    -- its members were refused
    pub pairs_refused : RefusesMembers plan.step faults plan.start (map_state_of map) (Err e) → HasFault plan faults old result
    pairs_refused refuses = struct_fault (λ live. in_pairs (map_state_of map) (opened_object map opens) (refuses.cause (begun_live map opens)))

    -- all members were read, and a field is missing
    pub missing_refused : {n : S} {now : MapAccess I} → KeepsMap map now → ReadsMembers plan.step plan.start n (map_state_of map) (map_state_of now) (Ok tt) → plan.build n ≡ None → IsOwnAtBracket (map_state_of now).at e → HasFault plan faults old result
    missing_refused {n = n} {now = now} keeps reads none own = struct_fault (λ live.
        let (ps, are, on) = reads.read in
        let (r, at) = reads.at_brace in
        missing (map_state_of map) (map_state_of now) n r (opened_object map opens) (record { live = reads.live; same_text = keeps.same_text; same_brace = keeps.start; pairs = ps; are = are; read = on }) at none own)

-- after all members were read its brace is there
pub closes_there : {S : Type 0} {step : Step S} {start n : S} {old now : MapAccessState} {last : State} {e : Error} → ReadsMembers step start n old now (Ok tt) → ClosesMap now last (Err e) → {A : Type 0} → A
closes_there {now = now} reads closes =
    let (r, at) = reads.at_brace in
    let ok = closes.bracket.complete r reads.live (subst (λ x. IsBrace now.at.comma_due x r) (sym at) (brace_closes now.at.comma_due r)) in
    absurd (cc)
