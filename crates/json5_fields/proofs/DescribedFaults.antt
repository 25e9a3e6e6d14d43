-- Why reading by a description is refused after all members were read.
use Rattle.std.proofs.Common.{◌≡◌, ◌⊎◌, ◌∙◌, ◌+◌, ◌≤◌, refl, sym, ap, subst, ℕ, Bool, List, true, false, Option, inl, inr, Some, None, Result, Ok, Err}
use Rattle.std.proofs.lemmas.Bool.{and_parts}
use Rattle.std.specs.Prelude.{IsErrAnd, IfErr, IsOk}
use Rattle.json5_grammar.specs.Language.Documents.{max_depth}
use Rattle.json5_grammar.specs.Language.Values.{Reads}
use Rattle.json5_grammar.proofs.MembersConverted.{object_only}
use Rattle.json5_grammar.specs.Model.Collections.{object_of}
use Rattle.json5_grammar.specs.Language.Trees.{Tree, no_member, depth}
use Rattle.json5_types.specs.declared.error.Error.{Error}
use Rattle.json5_tokens.specs.Cursor.{IsOutOfMemory}
use Rattle.json5_de.specs.State.{State, SameText}
use Rattle.json5_de.specs.DeserializeLaw.{Gives, Completes, CompletesFree, Unprompted}
use Rattle.json5_de.specs.Refinement.{ReadsExactly}
use Rattle.json5_de.specs.Fields.{IsOwnAtBracket}
use Rattle.json5_de.specs.Plans.{Plan, run, object_free, ReadsFree, ReadsMembers}
use Rattle.json5_de.specs.StructFaults.{ValueFaults, StructFault}
use Rattle.json5_de.specs.Objects.{MapAccessState, MembersLeft, OpensMap}
use Rattle.json5_de.specs.Lending.{map_state_of, KeepsMap}
use Rattle.json5_de.specs.declared.map.MapAccess.{MapAccess}
use Rattle.json5_de.proofs.ElementLoops.{handed_on}
use Rattle.json5_de.proofs.Refinement.{parts, reads_content}
use Rattle.json5_de.proofs.Structs.{end_free, fields_free, missing_completes}
use Rattle.json5_de.proofs.StructFaults.{missing_refused}
use Rattle.json5_fields.specs.Spares.{Spares, struct_free}
use Rattle.json5_fields.specs.Described.{DescribedFault, in_fields, no_default}

-- what a call was refused with is handed on, and that is all that is said of a value that is refused
pub refuses_exactly : {V C : Type 0} {content : V → C} {convert : Tree → Option C} {free : Tree → Bool} {refuses : State → Error → State → Type 0} {old new : State} (e : Error) (result : Result V Error) → IsErrAnd result (λ y. y ≡ e)
    → Completes convert old result → CompletesFree free convert old result → IfErr result (λ y. refuses old y new) → Unprompted old result → SameText old new → ReadsExactly content convert free refuses old new result
refuses_exactly e (Ok v) is complete no_memory refused unprompted same_text = absurd is
refuses_exactly e (Err y) is complete no_memory refused unprompted same_text = record { sound = tt; complete = complete; no_memory = no_memory; refused = refused; unprompted = unprompted; same_text = same_text }

-- what was read is a value's content, and then there is no other answer
pub gives_exactly : {V C : Type 0} {content : V → C} {convert : Tree → Option C} {free : Tree → Bool} {refuses : State → Error → State → Type 0} {old new : State} (v : V) → Gives content convert old new v → SameText old new → ReadsExactly content convert free refuses old new (Ok v)
gives_exactly {content = content} {convert = convert} {old = old} {new = new} v gives same_text = record {
  sound = gives;
  complete = reads_content content convert old new (Ok v) gives tt;
  no_memory = λ t r d live reads shallow is spare. refl;
  refused = tt;
  unprompted = tt;
  same_text = same_text;
}

-- it is refused as its fields are
pub in_its_fields : {S D U : Type 0} (plan : Plan S D) (faults : ValueFaults) (old : State) (result : Result U Error) → IfErr result (λ e. old.failed ≡ false → StructFault plan faults old e) → IfErr result (λ e. old.failed ≡ false → DescribedFault plan faults old e)
in_its_fields plan faults old (Ok u) is = tt
in_its_fields plan faults old (Err e) is = λ live. in_fields (is live)

-- a field is missing, or memory ran out for a default
module _ {S D U I : Type 0} {Held : MapAccess I → Type 0} {old : State} where
  pub unfinished_completes : (plan : Plan S D) (map : MapAccess I) (opens : OpensMap Held map_state_of old (Ok map)) (e : Error) (result : Result U Error) → IsErrAnd result (λ y. y ≡ e) → {n : S} {now : MapAccessState} → ReadsMembers plan.step plan.start n (map_state_of map) now (Ok tt)
      → (plan.build n ≡ None) ⊎ IsOutOfMemory e → Completes (object_of plan.convert) old result
  unfinished_completes plan map opens e result is_err reads (inl none) = missing_completes plan map opens e result is_err reads none
  unfinished_completes plan map opens e result is_err reads (inr memory) = handed_on (λ r. Completes (object_of plan.convert) old r) e result is_err (record { memory = λ t r c live read shallow is. memory })

  pub unfinished_refused : (plan : Plan S D) (faults : ValueFaults) (e : Error) (result : Result U Error) → IsErrAnd result (λ y. y ≡ e) → (map : MapAccess I) (opens : OpensMap Held map_state_of old (Ok map)) {n : S} {now : MapAccess I} → KeepsMap map now
      → ReadsMembers plan.step plan.start n (map_state_of map) (map_state_of now) (Ok tt) → (plan.build n ≡ None) ⊎ IsOutOfMemory e → IsOwnAtBracket (map_state_of now).at e → IfErr result (λ e. old.failed ≡ false → DescribedFault plan faults old e)
  unfinished_refused plan faults e result is_err map opens keeps reads (inl none) own = in_its_fields plan faults old result (missing_refused plan faults e result is_err map opens keeps reads none own)
  unfinished_refused plan faults e result is_err map opens {n = n} {now = now} keeps reads (inr memory) own = handed_on (λ r. IfErr r (λ e. old.failed ≡ false → DescribedFault plan faults old e)) e result is_err (λ live.
      let (ps, are, on) = reads.read in
      let (r, at) = reads.at_brace in
      no_default (map_state_of map) (map_state_of now) n r (record { opened = opens.bracket.opened.0; start = opens.bracket.start; read = opens.read })
      (record { live = reads.live; same_text = keeps.same_text; same_brace = keeps.start; pairs = ps; are = are; read = on }) at memory own.there)

only_values : {S D U : Type 0} (plan : Plan S D) (spares : Spares) (old : State) (result : Result U Error) → CompletesFree (object_free spares.values) (object_of plan.convert) old result → CompletesFree (struct_free spares) (object_of plan.convert) old result
only_values plan spares old result free t r d live reads shallow is spare = free t r d live reads shallow is (and_parts spares.defaults (object_free spares.values t) spare).1

-- a struct that takes no memory isn't refused
module _ {S D U I : Type 0} {Held : MapAccess I → Type 0} {old : State} (plan : Plan S D) (spares : Spares) (e : Error) (result : Result U Error) (is_err : IsErrAnd result (λ y. y ≡ e)) where
  -- where an object can be read, it is opened
  pub opened_free : OpensMap {A = MapAccess I} Held map_state_of old (Err e) → CompletesFree (struct_free spares) (object_of plan.convert) old result
  opened_free opens t r d live reads shallow is spare =
      let (ps, same, converts) = object_only plan.convert t d is in
      absurd (opens.left ps r live (subst (λ u. Reads old.unread u r) same reads) (subst (λ u. old.level + depth u ≤ max_depth) same shallow))

  module _ (map : MapAccess I) (opens : OpensMap Held map_state_of old (Ok map)) where
    pub read_free : ReadsFree {V = Unit {0}} spares.values plan.step plan.start (map_state_of map) (Err e) → CompletesFree (struct_free spares) (object_of plan.convert) old result
    read_free free = only_values plan spares old result (fields_free plan map opens e result spares.values is_err free)

    pub closed_free : {n : S} {now : MapAccessState} → ReadsMembers plan.step plan.start n (map_state_of map) now (Ok tt) → ((r : List ℕ) → MembersLeft no_member r now → IsOk {T = Unit {0}} {E = Error} (Err e)) → CompletesFree (struct_free spares) (object_of plan.convert) old result
    closed_free reads ends = only_values plan spares old result (end_free plan map opens e result spares.values is_err reads ends)

    pub finished_free : {n : S} {now : MapAccessState} → ReadsMembers plan.step plan.start n (map_state_of map) now (Ok tt) → ((d : D) → spares.defaults ≡ true → plan.build n ≡ Some d → IsOk {T = U} {E = Error} (Err e)) → CompletesFree (struct_free spares) (object_of plan.convert) old result
    finished_free reads free = handed_on (λ r. CompletesFree (struct_free spares) (object_of plan.convert) old r) e result is_err (λ t r d live taken shallow is spare.
        let (ps, same, converts) = object_only plan.convert t d is in
        let (m, are, built) = parts plan.build (run plan.step plan.start ps) d (sym (plan.says ps) ∙ converts) in
        let (one, rest) = reads.left ps r m are (opens.left ps r live (subst (λ u. Reads old.unread u r) same taken) (subst (λ u. old.level + depth u ≤ max_depth) same shallow)) in
        free d (and_parts spares.defaults (object_free spares.values t) spare).0 (sym (ap plan.build one) ∙ built))
