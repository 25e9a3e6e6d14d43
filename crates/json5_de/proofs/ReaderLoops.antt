-- A loop that asks the reader itself for the elements of an array or the members of an object: what each call means.
use Rattle.std.proofs.Common.{◌≡◌, ◌∙◌, ◌<◌, ℕ, Bool, true, false, List, [], ◌∷◌, ◌++◌, length, refl, sym, ap, subst, arith, Option, Some, None, Ok, Err}
use Rattle.json5_grammar.specs.Language.Trees.{Tree, Trees, Members, member}
use Rattle.json5_grammar.proofs.ArraysPartlyRead.{element_shorter}
use Rattle.json5_grammar.proofs.ObjectsRead.{key_shorter, key_value_shorter}
use Rattle.json5_types.specs.declared.error.Error.{Error}
use Rattle.json5_read.specs.Brackets.{square, curly}
use Rattle.json5_read.specs.Offsets.{StartsAfter, PositionedAt}
use Rattle.json5_de.specs.State.{State, SameText}
use Rattle.json5_de.specs.Keys.{KeyConversion}
use Rattle.json5_de.specs.DeserializeLaw.{IsUnprompted}
use Rattle.json5_de.proofs.ReadSteps.{input_of}
use Rattle.json5_de.specs.Arrays.{AccessState, OpensArray, TakesOpening, GivesElement, ElementsLeft, LeavesFewer, ElementsRead}
use Rattle.json5_de.specs.AccessCalls.{TakesElement, RefusedAtBracket}
use Rattle.json5_de.specs.Objects.{MapAccessState, OpensMap, GivesMemberKey, GivesMemberValue, MembersLeft, LeavesAValue, LeavesObjectMembers, ReadsAKey}
use Rattle.json5_de.specs.ObjectFaults.{ReadsKeyOfMember, ReadsValueOfMember, KeyRefusedAtBrace, ValueRefusedAtBrace}
use Rattle.json5_de.proofs.ArrayElements.{opens_array, refuses_array, reads_more, leaves_fewer}
use Rattle.json5_de.proofs.ElementLoops as elements
use Rattle.json5_de.proofs.ElementLoops.{Reading}
use Rattle.json5_de.proofs.MemberLoops as members
use Rattle.json5_de.proofs.MemberLoops.{ReadingMembers, AfterKey}
use Rattle.json5_de.proofs.ObjectMembers.{opens_map, refuses_map, reads_a_key, reads_a_pair, leaves_a_value, leaves_pairs}

-- what is around the next entry, as an access would see it
abbrev pub array_from : State → ℕ → Bool → AccessState
array_from reader start comma_due = record { reader = reader; start = start; comma_due = comma_due }

abbrev pub object_from : State → ℕ → Bool → Bool → MapAccessState
object_from reader start comma_due pending = record { at = array_from reader start comma_due; pending = pending }

abbrev pub just_opened : State → ℕ → AccessState
just_opened new start = array_from new start false

abbrev pub just_opened_map : State → ℕ → MapAccessState
just_opened_map new start = object_from new start false false

-- ---- an array

pub array_opened : (old new : State) (start : ℕ) → TakesOpening square old new (Ok start) → OpensArray (λ n. Unit {0}) (just_opened new) old (Ok start)
array_opened old new start k = opens_array (just_opened new) (just_opened new) old start start tt refl k.opens

pub array_not_opened : (old new : State) (e : Error) → TakesOpening square old new (Err e) → OpensArray (λ n. Unit {0}) (just_opened new) old (Err e)
array_not_opened old new e k = refuses_array (just_opened new) (just_opened new) old e k.opens

-- an element was read
pub reads_element : {V C : Type 0} (content : V → C) (f : Tree → Option C) (refuses : State → Error → State → Type 0) {from now after : State} {vs ws : List V} {start : ℕ} {comma_due : Bool} (v : V) → Reading content f from vs (array_from now start comma_due) → ws ≡ vs ++ v ∷ []
    → TakesElement content f refuses comma_due now after (Ok (Some v)) → Reading content f from ws (array_from after start true)
reads_element content f refuses {now = now} {after = after} {start = start} {comma_due = comma_due} v m e k =
    let (t, took, due, is) = k.sound in
    let old = array_from now start comma_due in
    let new = array_from after start true in
    let gives : GivesElement content f old new (Some v) = (t, took, refl, is) in
    elements.steps content content v v refl m e refl (reads_more content f old new (Some v) gives) (leaves_fewer content f old new (Ok (Some v)) gives (λ t r c live element shallow is. tt) (λ r live close. refl))

pub element_shortens : {V C : Type 0} (content : V → C) (f : Tree → Option C) (refuses : State → Error → State → Type 0) {now after : State} {comma_due : Bool} (v : V) → TakesElement content f refuses comma_due now after (Ok (Some v)) → length after.unread < length now.unread
element_shortens content f refuses {now = now} {after = after} {comma_due = comma_due} v k = let (t, took, due, is) = k.sound in element_shorter comma_due now.unread after.unread t took.element

-- the bracket is next
pub at_bracket : {V C : Type 0} (content : V → C) (f : Tree → Option C) (refuses : State → Error → State → Type 0) {now after : State} (start : ℕ) {comma_due : Bool} → TakesElement content f refuses comma_due now after (Ok None)
    → GivesElement content f (array_from now start comma_due) (array_from after start comma_due) None
at_bracket content f refuses start k = let (at, due) = k.sound in (at, refl)

pub all_elements : {V C : Type 0} (content : V → C) (f : Tree → Option C) (refuses : State → Error → State → Type 0) {from now after : State} {start : ℕ} {comma_due : Bool} → TakesElement content f refuses comma_due now after (Ok None)
    → (ts : Trees) → ElementsRead from ts (array_from now start comma_due) → ElementsRead from ts (array_from after start comma_due)
all_elements content f refuses {from = from} {now = now} {after = after} {start = start} {comma_due = comma_due} k ts e =
    reads_more content f (array_from now start comma_due) (array_from after start comma_due) None (at_bracket content f refuses start k) from ts e

pub no_element_left : {V C : Type 0} (content : V → C) (f : Tree → Option C) (refuses : State → Error → State → Type 0) {now after : State} (start : ℕ) {comma_due : Bool} → TakesElement content f refuses comma_due now after (Ok None)
    → (ts : Trees) (r : List ℕ) → ElementsLeft ts r (array_from now start comma_due) → LeavesFewer content f ts r (array_from after start comma_due) (Ok None)
no_element_left content f refuses {now = now} {after = after} start {comma_due = comma_due} k =
    leaves_fewer content f (array_from now start comma_due) (array_from after start comma_due) (Ok None) (at_bracket content f refuses start k) (λ t r c live element shallow is. tt) (λ r live close. refl)

-- an element was refused, and its fault got the bracket's position if it had none
module _ {V C : Type 0} (content : V → C) (f : Tree → Option C) (refuses : State → Error → State → Type 0) {now after : State} {start : ℕ} {comma_due : Bool} {own e : Error} (k : TakesElement content f refuses comma_due now after (Err own))
    (placed : PositionedAt (StartsAfter after.input start) own e) where
  pub element_refused : (ts : Trees) (r : List ℕ) → ElementsLeft ts r (array_from now start comma_due) → LeavesFewer content f ts r (array_from after start comma_due) (Err e)
  element_refused = leaves_fewer content f (array_from now start comma_due) (array_from after start comma_due) (Err e) tt (λ t r c live element shallow is. placed.kind ∙ k.complete t r c live element shallow is) k.closing

  pub element_fault : RefusedAtBracket refuses (array_from now start comma_due) e
  element_fault = record { own = own; after = after; cause = k.cause; placed = subst (λ x. PositionedAt (StartsAfter x start) own e) k.steady.same_text placed }

  pub element_unprompted : {from : State} {vs : List V} → Reading content f from vs (array_from now start comma_due) → IsUnprompted e
  element_unprompted m h = k.steady.unprompted (ap (λ (s : State). s.failed) m.read.rest ∙ m.read.live) (sym placed.kind ∙ h)

  pub same_text_after_element : {from last : State} {vs : List V} {failed : Bool} → Reading content f from vs (array_from now start comma_due) → last ≡ record after { failed = failed } → SameText from last
  same_text_after_element m blocked = input_of blocked ∙ k.steady.same_text ∙ input_of m.read.rest

-- ---- an object

pub object_opened : (old new : State) (start : ℕ) → TakesOpening curly old new (Ok start) → OpensMap (λ n. Unit {0}) (just_opened_map new) old (Ok start)
object_opened old new start k = opens_map (just_opened new) (just_opened_map new) old start start tt refl refl k.opens

pub object_not_opened : (old new : State) (e : Error) → TakesOpening curly old new (Err e) → OpensMap (λ n. Unit {0}) (just_opened_map new) old (Err e)
object_not_opened old new e k = refuses_map (just_opened new) (just_opened_map new) old e k.opens

module _ {K V C D : Type 0} (key : K → C) (value : V → D) (keys : KeyConversion C) (values : Tree → Option D) (refuses : State → Error → State → Type 0) {from now after : State} {ps : List (K × V)} {start : ℕ} {comma_due : Bool} where
  -- a key was read
  pub reads_key : (k : K) → ReadingMembers key value keys values from ps None (object_from now start comma_due false) → ReadsKeyOfMember key keys refuses comma_due now after (Ok (Some k)) → AfterKey key value keys values from ps k (object_from after start comma_due true)
  reads_key k m read =
      let (u, escape_free, took, is, due, pending) = read.sound in
      let old = object_from now start comma_due false in
      let new = object_from after start comma_due true in
      let gives : GivesMemberKey key keys old new (Some k) = (u, escape_free, took, is, refl, refl) in
      members.reads_key key value keys values k m refl (reads_a_key key keys old new (Some k) gives) (leaves_a_value key keys old new (Ok (Some k)) refl gives (λ u escape_free r c live key is. tt) (λ r live close. refl))

  -- and its value
  pub reads_value : {qs : List (K × V)} (k : K) (v : V) → AfterKey key value keys values from ps k (object_from now start comma_due true) → qs ≡ ps ++ (k, v) ∷ [] → ReadsValueOfMember value values refuses now after (Ok v) → ReadingMembers key value keys values from qs None (object_from after start true false)
  reads_value k v m e read =
      let (t, took, is, due, pending) = read.sound in
      let old = object_from now start comma_due true in
      let new = object_from after start true false in
      let gives : GivesMemberValue value values old new v = (t, took, is, refl, refl) in
      members.reads_value key value keys values k v m e refl (reads_a_pair value values old new v gives) (leaves_pairs value values old new (Ok v) refl gives (λ t r c live value shallow is. tt))

pub member_shortens : {K V C D : Type 0} (key : K → C) (value : V → D) (keys : KeyConversion C) (values : Tree → Option D) (refuses refuses_value : State → Error → State → Type 0) {now mid after : State} {comma_due : Bool} (k : K) (v : V)
    → ReadsKeyOfMember key keys refuses comma_due now mid (Ok (Some k)) → ReadsValueOfMember value values refuses_value mid after (Ok v) → length after.unread < length now.unread
member_shortens key value keys values refuses refuses_value {now = now} {mid = mid} {after = after} {comma_due = comma_due} k v read took =
    let (u, escape_free, took_key, is_key, due, pending) = read.sound in
    let (t, took_value, is, due, pending) = took.sound in
    let one = key_shorter comma_due now.unread mid.unread u escape_free took_key.key in
    let two = key_value_shorter mid.unread after.unread t took_value.value in
    omega (arith, one, two)

-- the brace is next
module _ {K C : Type 0} (key : K → C) (keys : KeyConversion C) (refuses : State → Error → State → Type 0) {now after : State} (start : ℕ) {comma_due : Bool} (k : ReadsKeyOfMember key keys refuses comma_due now after (Ok None)) where
  pub gives_none : GivesMemberKey key keys (object_from now start comma_due false) (object_from after start comma_due false) None
  gives_none = let (at, due, pending) = k.sound in (at, refl, refl)

  pub all_members : ReadsAKey key keys (object_from now start comma_due false) (object_from after start comma_due false) None
  all_members = reads_a_key key keys (object_from now start comma_due false) (object_from after start comma_due false) None gives_none

  pub no_member_left : (ps : Members) (r : List ℕ) → MembersLeft ps r (object_from now start comma_due false) → LeavesAValue key keys ps r (object_from after start comma_due false) (Ok None)
  no_member_left = leaves_a_value key keys (object_from now start comma_due false) (object_from after start comma_due false) (Ok None) refl gives_none (λ u escape_free r c live key is. tt) (λ r live close. refl)

-- a key was refused, and its fault got the brace's position if it had none
module _ {K C : Type 0} (key : K → C) (keys : KeyConversion C) (refuses : State → Error → State → Type 0) {now after : State} {start : ℕ} {comma_due : Bool} {own e : Error} (k : ReadsKeyOfMember key keys refuses comma_due now after (Err own))
    (placed : PositionedAt (StartsAfter after.input start) own e) where
  pub key_refused : (ps : Members) (r : List ℕ) → MembersLeft ps r (object_from now start comma_due false) → LeavesAValue key keys ps r (object_from after start comma_due false) (Err e)
  key_refused = leaves_a_value key keys (object_from now start comma_due false) (object_from after start comma_due false) (Err e) refl tt (λ u escape_free r c live key is. placed.kind ∙ k.complete u escape_free r c live key is) k.closing

  pub key_fault : KeyRefusedAtBrace refuses (object_from now start comma_due false) e
  key_fault = record { own = own; after = after; cause = k.cause; placed = subst (λ x. PositionedAt (StartsAfter x start) own e) k.steady.same_text placed }

  pub key_unprompted : {V D : Type 0} {value : V → D} {values : Tree → Option D} {from : State} {ps : List (K × V)} → ReadingMembers key value keys values from ps None (object_from now start comma_due false) → IsUnprompted e
  key_unprompted m h = k.steady.unprompted (ap (λ (s : State). s.failed) m.read.rest ∙ m.read.live) (sym placed.kind ∙ h)

  pub same_text_after_key : {V D : Type 0} {value : V → D} {values : Tree → Option D} {from last : State} {ps : List (K × V)} {failed : Bool} → ReadingMembers key value keys values from ps None (object_from now start comma_due false) → last ≡ record after { failed = failed } → SameText from last
  same_text_after_key m blocked = input_of blocked ∙ k.steady.same_text ∙ input_of m.read.rest

-- a value was
module _ {V D : Type 0} (value : V → D) (values : Tree → Option D) (refuses : State → Error → State → Type 0) {now after : State} {start : ℕ} {comma_due : Bool} {own e : Error} (k : ReadsValueOfMember value values refuses now after (Err own))
    (placed : PositionedAt (StartsAfter after.input start) own e) where
  pub value_refused : (u : List ℕ) (escape_free : Bool) (t : Tree) (ps : Members) (r : List ℕ) → MembersLeft (member u escape_free t ps) r (object_from now start comma_due true) → LeavesObjectMembers value values t ps r (object_from after start comma_due true) (Err e)
  value_refused = leaves_pairs value values (object_from now start comma_due true) (object_from after start comma_due true) (Err e) refl tt (λ t r c live value shallow is. placed.kind ∙ k.complete t r c live value shallow is)

  pub value_fault : ValueRefusedAtBrace refuses (object_from now start comma_due true) e
  value_fault = record { own = own; after = after; cause = k.cause; placed = subst (λ x. PositionedAt (StartsAfter x start) own e) k.steady.same_text placed }

  pub value_unprompted : {K C : Type 0} {key : K → C} {keys : KeyConversion C} {from : State} {ps : List (K × V)} (name : K) → AfterKey key value keys values from ps name (object_from now start comma_due true) → IsUnprompted e
  value_unprompted name (u, escape_free, is, m) h = k.steady.unprompted (ap (λ (s : State). s.failed) m.read.rest ∙ m.read.live) (sym placed.kind ∙ h)

  pub same_text_after_value : {K C : Type 0} {key : K → C} {keys : KeyConversion C} {from last : State} {ps : List (K × V)} {failed : Bool} (name : K) → AfterKey key value keys values from ps name (object_from now start comma_due true) → last ≡ record after { failed = failed } → SameText from last
  same_text_after_value name (u, escape_free, is, m) blocked = input_of blocked ∙ k.steady.same_text ∙ input_of m.read.rest
