-- The turns of the loop that reads a value of any kind: continuing an array or an object.
use Rattle.std.proofs.Common.{◌≡◌, ℕ, ◌-◌, ◌<◌, Bool, true, List, [], ◌∷◌, ◌++◌, length, refl, ap, sym, ◌∙◌, subst, arith, length-append, ◌⊎◌, inl, inr, Some, None, Vec, String}
use Rattle.std.specs.Prelude.{Result, Ok, Err}
use Rattle.std.specs.declared.alloc.Global.{Global}
use Rattle.json5_grammar.specs.Model.Reading.{Read, got, and_then}
use Rattle.json5_types.specs.declared.error.Error.{Error}
use Rattle.json5_tokens.specs.Cursor.{Cursor, Took, IsOutOfMemory}
use Rattle.json5_types.specs.declared.value.Value.{Value}
use Rattle.json5_types.specs.declared.value.Value as value
use Rattle.json5_types.specs.ValueMeanings.{Datum, value_of}
use Rattle.json5_types.proofs.ValuesCompared.{view-Array, view-Object}
use Rattle.json5_read.specs.declared.brackets.BracketKind.{BracketKind}
use Rattle.json5_read.specs.declared.unfinished.Next.{Next}
use Rattle.json5_read.specs.declared.unfinished.Next.TheVariants as next
use Rattle.json5_read.specs.declared.unfinished.Unfinished.{Unfinished}
use Rattle.json5_read.specs.declared.unfinished.Unfinished.TheVariants as unfinished
use Rattle.json5_read.specs.BuildSteps.{AtBracket, array_at, object_at, value_in_at, start_of, value_in, Building, BuildingInside, TurnsBuildingInside}
use Rattle.json5_read.specs.OwnedReads.{datum_at}
use Rattle.json5_read.specs.TakenEntries.{TakesElements, TakesMembers}
use Rattle.json5_read.specs.Nesting.{Within}
use Rattle.json5_read.specs.Offsets.{StartsAfter, PositionedAt}
use Rattle.json5_read.specs.ModelSteps.{SameText, RefusesRead}
use Rattle.json5_read.proofs.BuildRests.{array_grown, object_grown}
use Rattle.json5_read.proofs.Nesting.{value_reached, closed, inside_blamed}
use Rattle.json5_read.proofs.SkipInvariant.{no_more_left}

-- ---- continuing an array or an object

room_within : (room : ℕ) (fs : List Unfinished) (f : Unfinished) → room - length (fs ++ f ∷ []) ≡ room - length fs - 1
room_within room fs f = omega (arith, length-append fs (f ∷ []))

module _ (m : ℕ → Read Datum) (at : ℕ) (comma_due : Bool) (fs : List Unfinished) (old : Cursor) where
  -- a value of it comes next
  pub turn_goes : (after : List Unfinished) (f : Unfinished) (k : BracketKind) (new : Cursor) (s : List ℕ) → at ≡ start_of f → AtBracket k new → Took old s new → ((d : ℕ) → m d ≡ and_then (datum_at d new) (value_in f d)) → after ≡ fs ++ f ∷ [] → (comma_due ≡ true → length new.unread < length old.unread)
      → TurnsBuildingInside m at comma_due fs after old new (Ok (next.Opens k))
  turn_goes after f k new s is front took reads grown less = record {
    goes = λ room w q h. subst (λ z. Building room w z (next.Opens k) new) (sym grown)
        (subst (λ d. Within start_of value_in room w (fs ++ f ∷ []) (datum_at d new) new) (sym (room_within room fs f))
        (value_reached start_of value_in room old w (m (room - length fs - 1)) fs at q h f new (datum_at (room - length fs - 1) new) s is took (reads (room - length fs - 1))));
    front = front;
    refused = tt;
    same_text = took.same;
    shorter = less;
    no_longer = no_more_left old new s took;
  }

  -- it ended
  pub turn_closed : (new : Cursor) (v : Value) (s : List ℕ) → Took old s new → ((d : ℕ) → m d ≡ got (value_of v) new.unread) → (comma_due ≡ true → length new.unread < length old.unread) → TurnsBuildingInside m at comma_due fs fs old new (Ok (next.Ended v))
  turn_closed new v s took reads less = record {
    goes = λ room w q h. closed start_of value_in room old w (m (room - length fs - 1)) fs at q h new (value_of v) s took (reads (room - length fs - 1));
    front = tt;
    refused = tt;
    same_text = took.same;
    shorter = less;
    no_longer = no_more_left old new s took;
  }

  pub turn_refused : (after : List Unfinished) (new : Cursor) (own e : Error) → IsOutOfMemory own ⊎ ((d : ℕ) → RefusesRead old.input (m d) own) → SameText old new → PositionedAt (StartsAfter new.input at) own e → TurnsBuildingInside m at comma_due fs after old new (Err e)
  turn_refused after new own e (inl memory) g k = record { goes = tt; front = tt; refused = inl (k.kind ∙ memory); same_text = g; shorter = tt; no_longer = tt }
  turn_refused after new own e (inr b) g k = record {
    goes = tt;
    front = tt;
    refused = inr (λ room w q h. inside_blamed start_of value_in room old w (m (room - length fs - 1)) fs at q h new.input own e (b (room - length fs - 1)) k g);
    same_text = g;
    shorter = tt;
    no_longer = tt;
  }

  -- memory ran out
  pub turn_lacks_memory : (after : List Unfinished) (new : Cursor) (e : Error) → IsOutOfMemory e → SameText old new → TurnsBuildingInside m at comma_due fs after old new (Err e)
  turn_lacks_memory after new e memory g = record { goes = tt; front = tt; refused = inl memory; same_text = g; shorter = tt; no_longer = tt }

-- ---- arrays

module _ (before : List Value) (elements : Vec Value Global) (at : ℕ) (comma_due : Bool) (fs : List Unfinished) (old new : Cursor) where
  pub element_next : (k : BracketKind) (after : List Unfinished) → TakesElements comma_due before elements.items old new (Ok (Some k)) → after ≡ fs ++ unfinished.Array at elements ∷ [] → TurnsBuildingInside (array_at before comma_due old) at comma_due fs after old new (Ok (next.Opens k))
  element_next k after t grown =
      let ((l, less), front) = t.goes in
      turn_goes (array_at before comma_due old) at comma_due fs old after (unfinished.Array at elements) k new l.taken refl front l.took l.reads grown less

  pub elements_end : TakesElements comma_due before elements.items old new (Ok None) → TurnsBuildingInside (array_at before comma_due old) at comma_due fs fs old new (Ok (next.Ended (value.Array elements)))
  elements_end t =
      let (l, less) = t.goes in
      turn_closed (array_at before comma_due old) at comma_due fs old new (value.Array elements) l.taken l.took (λ d. l.reads d ∙ ap (λ x. got x new.unread) (sym (view-Array elements))) less

  pub elements_refused : (own e : Error) → TakesElements comma_due before elements.items old new (Err own) → PositionedAt (StartsAfter new.input at) own e → TurnsBuildingInside (array_at before comma_due old) at comma_due fs fs old new (Err e)
  elements_refused own e t k = turn_refused (array_at before comma_due old) at comma_due fs old fs new own e t.refused t.same_text k

-- ---- objects

module _ (before : List (String Global × Value)) (members : Vec (String Global × Value) Global) (at : ℕ) (comma_due : Bool) (fs : List Unfinished) (old new : Cursor) where
  pub member_next : (key : String Global) (k : BracketKind) (after : List Unfinished) → TakesMembers comma_due before members.items old new (Ok (Some (key, k))) → after ≡ fs ++ unfinished.Object at members key ∷ []
      → TurnsBuildingInside (object_at before comma_due old) at comma_due fs after old new (Ok (next.Opens k))
  member_next key k after t grown =
      let ((l, less), front) = t.goes in
      turn_goes (object_at before comma_due old) at comma_due fs old after (unfinished.Object at members key) k new l.taken refl front l.took l.reads grown less

  pub members_end : TakesMembers comma_due before members.items old new (Ok None) → TurnsBuildingInside (object_at before comma_due old) at comma_due fs fs old new (Ok (next.Ended (value.Object members)))
  members_end t =
      let (l, less) = t.goes in
      turn_closed (object_at before comma_due old) at comma_due fs old new (value.Object members) l.taken l.took (λ d. l.reads d ∙ ap (λ x. got x new.unread) (sym (view-Object members))) less

  pub members_refused : (own e : Error) → TakesMembers comma_due before members.items old new (Err own) → PositionedAt (StartsAfter new.input at) own e → TurnsBuildingInside (object_at before comma_due old) at comma_due fs fs old new (Err e)
  members_refused own e t k = turn_refused (object_at before comma_due old) at comma_due fs old fs new own e t.refused t.same_text k

-- ---- a value in an array or an object that is unfinished

-- the same of a reading that is equal at each depth
pub turns_as : (m n : ℕ → Read Datum) (at : ℕ) (comma_due : Bool) (fs after : List Unfinished) (old new : Cursor) (result : Result Next Error) → ((d : ℕ) → m d ≡ n d) → TurnsBuildingInside n at comma_due fs after old new result → TurnsBuildingInside m at comma_due fs after old new result
turns_as m n at comma_due fs after old new (Ok found) same k = record {
  goes = λ room w q h. k.goes room w q (subst (λ z. InsideOf room w q z) (same (room - length fs - 1)) h);
  front = k.front;
  refused = tt;
  same_text = k.same_text;
  shorter = k.shorter;
  no_longer = k.no_longer;
}
  where
    InsideOf : ℕ → Read Datum → List ℕ → Read Datum → Type 0
    InsideOf room w q z = BuildingInside room w fs at (λ d. z) q old
turns_as m n at comma_due fs after old new (Err e) same k = record { goes = tt; front = tt; refused = by_cause k.refused; same_text = k.same_text; shorter = tt; no_longer = tt }
  where
    by_cause : IsOutOfMemory e ⊎ ((room : ℕ) (w : Read Datum) (q : List ℕ) → BuildingInside room w fs at n q old → RefusesRead old.input w e) → IsOutOfMemory e ⊎ ((room : ℕ) (w : Read Datum) (q : List ℕ) → BuildingInside room w fs at m q old → RefusesRead old.input w e)
    by_cause (inl memory) = inl memory
    by_cause (inr b) = inr (λ room w q h. b room w q (subst (λ z. BuildingInside room w fs at (λ d. z) q old) (same (room - length fs - 1)) h))

pub element_attached : (f : Unfinished) (at : ℕ) (elements grown : Vec Value Global) (v : Value) (fs after : List Unfinished) (old new : Cursor) (result : Result Next Error) → f ≡ unfinished.Array at elements → grown.items ≡ elements.items ++ v ∷ []
    → TurnsBuildingInside (array_at grown.items true old) at true fs after old new result → TurnsBuildingInside (value_in_at f v old) (start_of f) true fs after old new result
element_attached f at elements grown v fs after old new result is more k =
    subst (λ g. TurnsBuildingInside (value_in_at g v old) (start_of g) true fs after old new result) (sym is)
    (turns_as (value_in_at (unfinished.Array at elements) v old) (array_at grown.items true old) at true fs after old new result (λ d. sym (array_grown elements.items grown.items v d old.unread more)) k)

pub member_attached : (f : Unfinished) (at : ℕ) (members grown : Vec (String Global × Value) Global) (key : String Global) (v : Value) (fs after : List Unfinished) (old new : Cursor) (result : Result Next Error) → f ≡ unfinished.Object at members key
    → grown.items ≡ members.items ++ (key, v) ∷ [] → TurnsBuildingInside (object_at grown.items true old) at true fs after old new result → TurnsBuildingInside (value_in_at f v old) (start_of f) true fs after old new result
member_attached f at members grown key v fs after old new result is more k =
    subst (λ g. TurnsBuildingInside (value_in_at g v old) (start_of g) true fs after old new result) (sym is)
    (turns_as (value_in_at (unfinished.Object at members key) v old) (object_at grown.items true old) at true fs after old new result (λ d. sym (object_grown members.items grown.items key v d old.unread more)) k)
