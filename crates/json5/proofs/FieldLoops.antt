-- An object whose members are read by a loop of one's own: `next_key`, and then the value of a field, or a refusal.
use Rattle.std.proofs.Common.{◌≡◌, ◌∙◌, ℕ, true, false, List, refl, ap, Some, None, Ok, Err}
use Rattle.std.proofs.lemmas.Bool.{false≢true}
use Rattle.std.specs.Borrow.{MutBor}
use Rattle.std.specs.Prelude.{Result, IsErrAnd}
use Rattle.json5_grammar.specs.Model.Collections.{object_of}
use Rattle.json5_types.specs.declared.error.Error.{Error}
use Rattle.json5_de.specs.Refinement.{ReadsExactly}
use Rattle.json5_de.specs.State.{State, SameText}
use Rattle.json5_de.specs.TokenKinds.{no_tree}
use Rattle.json5_de.specs.Convert.{every_text}
use Rattle.json5_de.specs.KeyKinds.{RefusedAsKey, string_key}
use Rattle.json5_de.specs.Lending.{map_state_of, at_its_key, KeepsMap, KeyIsNamed, NoKeyPending, OpensMapAccess, ReadsNextKey, RefusesWithOwn}
use Rattle.json5_de.specs.Objects.{MapAccessState, OpensMap}
use Rattle.json5_de.specs.Plans.{Step, TakesMember, ReadsMembers}
use Rattle.json5_de.specs.StructFaults.{ValueFaults, RefusesMember, RefusesMembers, or_of}
use Rattle.json5_de.specs.declared.map.MapAccess.{MapAccess}
use Rattle.json5_de.proofs.KeyPlaces.{named_text}
use Rattle.json5_de.proofs.Structs.{ReadingStruct, no_pairs, reads_name, takes_pair, all_read, fields_complete, fields_unprompted, key_refuses, pair_refuses, live_after_key, live_at_brace, brace_next}
use Rattle.json5_de.proofs.StructFaults.{key_cause, pairs_refused, value_cause}
use Rattle.json5_fields.specs.FieldCalls.{Tries}
use Rattle.json5_fields.specs.Layouts.{Layout, all_differ}
use Rattle.json5_fields.specs.Only.{of_unknown, only_plan, only_step, only_these, whole_only}
use Rattle.json5_fields.specs.Described.{RefusesOnly}
use Rattle.json5_fields.proofs.DescribedFaults.{in_its_fields, refuses_exactly}
use Rattle.json5_fields.proofs.Described.{only_take, only_refuse, unknown_taken, unknown_refused}

-- ---- any loop

-- between two members: s is what was read of the fields since the object was opened, and `none` what was read of them then
pub record MembersSoFar {I S : Type 0} (step : Step S) (none s : S) (first now : MapAccess I) : Type 0 where
  pub live : (map_state_of first).at.reader.failed ≡ false
  pub access : KeepsMap first now
  pub no_key : NoKeyPending now
  pub reading : ReadingStruct step none (map_state_of first) s None (map_state_of now)

-- the loop ends with a refusal: no object whose members make something of the fields is refused so, unless memory runs out, and
-- why this one is
pub record Stopped {S : Type 0} (step : Step S) (faults : ValueFaults) (none : S) (first : MapAccessState) (e : Error) : Type 0 where
  pub last : S
  pub now : MapAccessState
  pub reads : ReadsMembers step none last first now (Err e)
  pub refuses : RefusesMembers step faults none first (Err e)

keeps_on : {I : Type 0} {first mid new : MapAccess I} → KeepsMap first mid → KeepsMap mid new → KeepsMap first new
keeps_on before after = record { same_reference = after.same_reference ∙ before.same_reference; blocks = after.blocks; start = after.start ∙ before.start; same_text = after.same_text ∙ before.same_text }

-- the object was opened
pub begins : {I S : Type 0} (step : Step S) (none : S) {reader : MutBor State} {old : State} (first : MapAccess I) → OpensMapAccess reader old (Ok first) → MembersSoFar step none none first first
begins step none first opens = record {
  live = ap (λ (s : State). s.failed) opens.read.rest ∙ opens.read.live;
  access = record { same_reference = refl; blocks = opens.held.blocks; start = refl; same_text = refl };
  no_key = opens.no_key;
  reading = no_pairs step none (map_state_of first);
}

-- the name of a key that was read as a text
pub named : {I X : Type 0} {content : X → List ℕ} {refuses : State → Error → State → Type 0} {k : X} {at mid : MapAccess I} → ReadsNextKey content every_text refuses at mid (Ok (Some k)) → KeyIsNamed (content k) mid
named key = named_text key.begins

module _ {I X S : Type 0} {content : X → List ℕ} {step : Step S} {none s : S} {first at : MapAccess I} where
  after_key : {k : X} {mid : MapAccess I} → MembersSoFar step none s first at → ReadsNextKey content every_text (RefusedAsKey string_key) at mid (Ok (Some k)) → ReadingStruct step none (map_state_of first) s (Some (content k)) (map_state_of mid)
  after_key {k = k} {mid = mid} m key = reads_name content k m.reading (live_after_key content every_text (map_state_of at) (map_state_of mid) k key.sound) key.read key.left

  -- the value of a key was read, which makes n of what was read
  pub steps : {k : X} {mid new : MapAccess I} {n : S} → MembersSoFar step none s first at → ReadsNextKey content every_text (RefusedAsKey string_key) at mid (Ok (Some k)) → KeepsMap mid new → NoKeyPending new
      → TakesMember step s n (content k) (map_state_of mid) (map_state_of new) (Ok tt) → MembersSoFar step none n first new
  steps m key access no_key takes = record { live = m.live; access = keeps_on m.access (keeps_on key.access access); no_key = no_key; reading = takes_pair (after_key m key) takes }

  -- no key is left
  pub all_members : {new : MapAccess I} → MembersSoFar step none s first at → ReadsNextKey content every_text (RefusedAsKey string_key) at new (Ok None) → ReadsMembers step none s (map_state_of first) (map_state_of new) (Ok tt)
  all_members {new = new} m key = all_read content m.reading (live_at_brace content every_text (map_state_of at) (map_state_of new) key.sound) (brace_next content every_text (map_state_of at) (map_state_of new) key.sound) key.read key.left

  pub access_at_brace : {new : MapAccess I} → MembersSoFar step none s first at → ReadsNextKey content every_text (RefusedAsKey string_key) at new (Ok None) → KeepsMap first new
  access_at_brace m key = keeps_on m.access key.access

  module _ (faults : ValueFaults) where
    -- a key is refused
    pub key_stops : {new : MapAccess I} {e : Error} → MembersSoFar step none s first at → ReadsNextKey content every_text (RefusedAsKey string_key) at new (Err e) → Stopped step faults none (map_state_of first) e
    key_stops {new = new} {e = e} m key = record {
      last = s;
      now = map_state_of new;
      reads = key_refuses e (Err e) content refl m.reading key.refused.failed key.refused.unprompted key.left;
      refuses = key_cause faults e (Err e) refl m.reading m.access.same_text m.access.start key.refused.cause (λ f. absurd (cc (f, m.live)));
    }

    -- the value of a key is refused
    pub value_stops : {k : X} {mid : MapAccess I} {new : MapAccessState} {n : S} {e : Error} → MembersSoFar step none s first at → ReadsNextKey content every_text (RefusedAsKey string_key) at mid (Ok (Some k))
        → TakesMember step s n (content k) (map_state_of mid) new (Err e) → RefusesMember faults step s (content k) (map_state_of mid) (Err e) → Stopped step faults none (map_state_of first) e
    value_stops {mid = mid} {new = new} {e = e} m key takes refused =
        let access = keeps_on m.access key.access in
        record {
          last = s;
          now = new;
          reads = pair_refuses e (Err e) refl (after_key m key) takes;
          refuses = value_cause faults e (Err e) refl (after_key m key) access.same_text access.start refused (λ f. absurd (cc (f, m.live)));
        }

-- ---- a loop over the fields of a description, which allows no others

-- between two members: s is what was read of these fields
abbrev pub FieldsSoFar : {I S D : Type 0} → Layout S D → S → MapAccess I → MapAccess I → Type 0
FieldsSoFar l s first now = MembersSoFar only_step (l, l.start) (l, s) first now

module _ {I X S D : Type 0} {content : X → List ℕ} {l : Layout S D} (faults : ValueFaults) {s n : S} {first at : MapAccess I} {k : X} {mid new : MapAccess I} where
  -- the value of a field was read
  pub field_steps : FieldsSoFar l s first at → ReadsNextKey content every_text (RefusedAsKey string_key) at mid (Ok (Some k)) → Tries l faults s n (content k) mid new (Ok true) → FieldsSoFar l n first new
  field_steps m key is = steps m key is.access is.pending (only_take l faults is)

  -- the value of a field is refused
  pub field_stops : {e : Error} → FieldsSoFar l s first at → ReadsNextKey content every_text (RefusedAsKey string_key) at mid (Ok (Some k)) → Tries l faults s n (content k) mid new (Err e)
      → Stopped only_step (or_of faults of_unknown) (l, l.start) (map_state_of first) e
  field_stops m key is = value_stops (or_of faults of_unknown) m key (only_take l faults is) (only_refuse l faults is)

  -- no field has this name, and the key is refused
  pub unknown_stops : {last : MapAccess I} {e : Error} → FieldsSoFar l s first at → ReadsNextKey content every_text (RefusedAsKey string_key) at mid (Ok (Some k)) → Tries l faults s n (content k) mid new (Ok false)
      → RefusesWithOwn (at_its_key new) new e last → Stopped only_step (or_of faults of_unknown) (l, l.start) (map_state_of first) e
  unknown_stops {last = last} {e = e} m key passes own =
      value_stops (or_of faults of_unknown) m key (unknown_taken l faults s n (content k) mid new passes e last own.failed own.unprompted) (unknown_refused l faults s n (content k) mid new passes e (named key) own.own)

-- an object of these fields alone is refused so
pub stopped : {I V S D : Type 0} {content : V → D} {l : Layout S D} {faults : ValueFaults} {Held : MapAccess I → Type 0} {old new : State} → all_differ l.names ≡ true → (e : Error) (result : Result V Error) → IsErrAnd result (λ y. y ≡ e)
    → (map : MapAccess I) → OpensMap Held map_state_of old (Ok map) → Stopped only_step (or_of faults of_unknown) (l, l.start) (map_state_of map) e → SameText old new → ReadsExactly content (object_of (only_these l)) no_tree (RefusesOnly l faults) old new result
stopped {l = l} {faults = faults} {old = old} differ e result is_err map opens stop same_text =
    refuses_exactly e result is_err
    (fields_complete (whole_only l differ) map opens e result is_err stop.reads)
    (λ t r d live reads shallow is spare. absurd (false≢true spare))
    (in_its_fields (only_plan l) (or_of faults of_unknown) old result (pairs_refused (only_plan l) (or_of faults of_unknown) e result is_err map opens stop.refuses))
    (fields_unprompted (whole_only l differ) map opens e result is_err stop.reads)
    same_text
