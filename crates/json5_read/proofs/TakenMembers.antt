-- What is left of an object after the members that were taken.
use Rattle.std.proofs.Common.{◌≡◌, ℕ, ◌<◌, Bool, true, false, List, [], ◌∷◌, ◌++◌, length, refl, ap, sym, ◌∙◌, subst, arith, length-append, inl, inr, Some, None, String, string_bytes}
use Rattle.std.specs.Prelude.{Ok, Err}
use Rattle.std.specs.declared.alloc.Global.{Global}
use Rattle.std.specs.Str.{chars}
use Rattle.json5_grammar.specs.Faults.Fronts.{of_object}
use Rattle.json5_grammar.specs.Model.Reading.{Read, got, and_then}
use Rattle.json5_grammar.specs.Model.ReadSteps.{colon_after, pairs_after}
use Rattle.json5_grammar.specs.Model.ReadTexts.{key}
use Rattle.json5_types.specs.declared.error.Error.{Error}
use Rattle.json5_types.specs.declared.value.Value.{Value}
use Rattle.json5_types.specs.Errors.{LacksMemory}
use Rattle.json5_tokens.specs.declared.text_token.TextToken.{TextToken}
use Rattle.json5_tokens.specs.Cursor.{Cursor, Took, IsOutOfMemory}
use Rattle.json5_tokens.specs.TextTokens.{Spells}
use Rattle.json5_types.specs.ValueMeanings.{Datum, object, field, fields_view, value_of}
use Rattle.json5_read.specs.declared.brackets.BracketKind.{BracketKind}
use Rattle.json5_read.specs.declared.unfinished.Next.TheVariants as next
use Rattle.json5_read.specs.BuildSteps.{Begun, BeginsValue, members_before, object_with, object_at}
use Rattle.json5_read.specs.Entries.{next_entry}
use Rattle.json5_read.specs.OwnedReads.{BlamesEach, BlamesOrMemory, OwnsKey, IsFoundKey, datum_at, next_key}
use Rattle.json5_read.specs.TakenEntries.{LeavesLess, TakesMembers, member_left}
use Rattle.json5_read.specs.ModelSteps.{IsInside, SameText, Gave}
use Rattle.json5_read.proofs.BuildKeys.{brace_closed, name_taken, key_shorter}
use Rattle.json5_read.proofs.BuildRests.{object_turn, object_step, no_more_members, object_grown}
use Rattle.json5_read.proofs.TakenElements.{Passes, datum_shorter}
use Rattle.json5_read.proofs.ModelSteps.{blames_as, ready_after, took_both}

-- the next member's key was taken, and its value is in front
pub record KeyReached (comma_due : Bool) (k : TextToken) (now mid : Cursor) : Type 0 where
  pub found : List ℕ × Bool
  pub is_key : IsFoundKey mid.input k found
  pub given : Gave (next_key comma_due now.unread) (Some found) now mid

pub reached_ready : (comma_due : Bool) (k : TextToken) (now mid : Cursor) → IsInside now → KeyReached comma_due k now mid → IsInside mid
reached_ready comma_due k now mid ready r = ready_after now mid r.given.taken ready r.given.took

pub key_reached : (comma_due goes : Bool) (k : TextToken) (now mid last new : Cursor) (u : Unit {0}) → goes ≡ true → Gave (next_entry of_object comma_due now.unread) goes now mid
    → (a : List ℕ × Bool) × IsFoundKey mid.input k a × Gave (key mid.unread) a mid last → Gave (colon_after last.unread) u last new → KeyReached comma_due k now new
key_reached comma_due goes k now mid last new u is g (a, is_found, taken) c = record {
  found = a;
  is_key = subst (λ i. IsFoundKey i k a) (sym (c.took.same ∙ taken.took.same)) is_found;
  given = name_taken comma_due now goes mid is g last a taken new u c;
}

-- its text was copied, or memory ran out
text_of : (comma_due : Bool) (k : TextToken) (now mid new : Cursor) (text : String Global) (r : KeyReached comma_due k now mid) → SameText mid new → OwnsKey new.input k (Ok text) → chars (string_bytes text) ≡ r.found.0
text_of comma_due k now mid new text r same owns = ap chars (owns r.found.0 r.found.1 (subst (λ i. Spells i r.found.0 r.found.1 k) (sym same) r.is_key.0)) ∙ r.is_key.1

pub text_lacks : (comma_due : Bool) (k : TextToken) (now mid new : Cursor) (e : Error) → KeyReached comma_due k now mid → SameText mid new → OwnsKey new.input k (Err e) → LacksMemory e
text_lacks comma_due k now mid new e r same owns = owns r.found.0 r.found.1 (subst (λ i. Spells i r.found.0 r.found.1 k) (sym same) r.is_key.0)

module _ (b : Bool) (before : List (String Global × Value)) (start : Cursor) (fs : List (String Global × Value)) (comma_due : Bool) (now : Cursor)
    (p : Passes (object_at before b start) (object_at fs comma_due now) b comma_due start now) where
  turned : (d : ℕ) → object_at before b start d ≡ and_then (next_key comma_due now.unread) (object_turn (members_before fs) d)
  turned d = p.leaves.reads d ∙ object_step fs comma_due d now.unread

  less : (mid : Cursor) → (comma_due ≡ true → length mid.unread < length now.unread) → b ≡ true → length mid.unread < length start.unread
  less mid shorter is = let l = shorter (p.due is) in omega (arith, l, ap length p.leaves.took.split, length-append p.leaves.taken now.unread)

  leaves_less : (n : ℕ → Read Datum) (mid : Cursor) (s : List ℕ) → ((d : ℕ) → object_at before b start d ≡ n d) → Took now s mid → (comma_due ≡ true → length mid.unread < length now.unread) → LeavesLess b (object_at before b start) n start mid
  leaves_less n mid s reads took shorter = (record { reads = reads; taken = p.leaves.taken ++ s; took = took_both start now mid p.leaves.taken s p.leaves.took took }, less mid shorter)

  -- the object was closed
  pub object_ended : (goes : Bool) (mid : Cursor) → goes ≡ false → Gave (next_entry of_object comma_due now.unread) goes now mid → TakesMembers b before fs start mid (Ok None)
  object_ended goes mid is g =
      let c = brace_closed comma_due now goes mid is g in
      let l = leaves_less (λ d. got (object (fields_view fs)) mid.unread) mid c.taken
      (λ d. turned d ∙ ap (λ m. and_then m (object_turn (members_before fs) d)) c.reads ∙ ap (λ xs. got (object xs) mid.unread) (no_more_members fs)) c.took
      (λ is. key_shorter comma_due None now.unread mid.unread c.reads is) in
      record { goes = l; refused = tt; same_text = l.0.took.same }

  -- what comes before the value is refused
  pub name_refused : (new : Cursor) (e : Error) → BlamesOrMemory now.input (next_key comma_due now.unread) e → SameText now new → TakesMembers b before fs start new (Err e)
  name_refused new e blames same = record { goes = tt; refused = by_cause blames; same_text = same ∙ p.leaves.took.same }
    where
      by_cause : BlamesOrMemory now.input (next_key comma_due now.unread) e → BlamesEach start.input (object_at before b start) e
      by_cause (inl memory) = inl memory
      by_cause (inr r) = inr (λ d. blames_as now.input start.input (next_key comma_due now.unread) (object_at before b start d) e p.leaves.took.same (λ c q is. turned d ∙ ap (λ m. and_then m (object_turn (members_before fs) d)) is) r)

  module _ (k : TextToken) (mid new : Cursor) (r : KeyReached comma_due k now mid) where
    -- the value is refused
    pub value_refused : (e : Error) → BeginsValue mid new (Err e) → TakesMembers b before fs start new (Err e)
    value_refused e v = record { goes = tt; refused = by_cause v.refused; same_text = v.same_text ∙ r.given.took.same ∙ p.leaves.took.same }
      where
        by_cause : BlamesEach mid.input (λ d. datum_at d mid) e → BlamesEach start.input (object_at before b start) e
        by_cause (inl memory) = inl memory
        by_cause (inr f) = inr (λ d. blames_as mid.input start.input (datum_at d mid) (object_at before b start d) e (r.given.took.same ∙ p.leaves.took.same)
            (λ c q is. turned d ∙ ap (λ m. and_then m (object_turn (members_before fs) d)) r.given.reads ∙ ap (λ m. and_then m (λ x z. object_with (λ xs. members_before fs (field r.found.0 x xs)) (pairs_after d z))) is) (f d))

    pub memory_lost : (after : List (String Global × Value)) (e : Error) → IsOutOfMemory e → SameText mid new → TakesMembers b before after start new (Err e)
    memory_lost after e memory same = record { goes = tt; refused = inl memory; same_text = same ∙ r.given.took.same ∙ p.leaves.took.same }

    value_comes : LeavesLess b (object_at before b start) (member_left fs r.found.0 mid) start mid
    value_comes =
        leaves_less (member_left fs r.found.0 mid) mid r.given.taken (λ d. turned d ∙ ap (λ m. and_then m (object_turn (members_before fs) d)) r.given.reads) r.given.took
        (λ is. key_shorter comma_due (Some r.found) now.unread mid.unread r.given.reads is)

    -- a value in brackets is in front
    pub bracket_left : (text : String Global) (kind : BracketKind) → OwnsKey new.input k (Ok text) → Begun mid new (next.Opens kind) → TakesMembers b before fs start new (Ok (Some (text, kind)))
    bracket_left text kind owns (same, at) =
        let l = value_comes in
        let is = text_of comma_due k now mid new text r (ap (λ (s : Cursor). s.input) same) owns in
        subst (λ (s : Cursor). TakesMembers b before fs start s (Ok (Some (text, kind)))) (sym same) (record {
          goes = ((record { reads = λ d. l.0.reads d ∙ ap (λ u. member_left fs u mid d) (sym is); taken = l.0.taken; took = l.0.took }, l.1), at);
          refused = tt;
          same_text = l.0.took.same;
        })

    -- a member was taken
    module _ (v : Value) (value : Begun mid new (next.Ended v)) where
      pub member_taken : (text : String Global) (gs : List (String Global × Value)) → OwnsKey new.input k (Ok text) → gs ≡ fs ++ (text, v) ∷ [] → Passes (object_at before b start) (object_at gs true new) b true start new
      member_taken text gs owns grown =
          let l = value_comes in
          let is = text_of comma_due k now mid new text r (value 0).took.same owns in
          record {
            leaves = record {
              reads = λ d. l.0.reads d
                  ∙ ap (λ m. and_then m (λ x z. object_with (λ xs. members_before fs (field r.found.0 x xs)) (pairs_after d z))) (value d).reads
                  ∙ ap (λ u. object_with (λ xs. members_before fs (field u (value_of v) xs)) (pairs_after d new.unread)) (sym is)
                  ∙ sym (object_grown fs gs text v d new.unread grown);
              taken = l.0.taken ++ (value 0).taken;
              took = took_both start mid new l.0.taken (value 0).taken l.0.took (value 0).took;
            };
            due = λ e. refl;
            ready = ready_after mid new (value 0).taken (ready_after now mid r.given.taken p.ready r.given.took) (value 0).took;
          }

      pub members_down : length new.unread < length now.unread
      members_down = let l = datum_shorter 0 mid new v (value 0) in omega (arith, l, ap length r.given.took.split, length-append r.given.taken mid.unread)
