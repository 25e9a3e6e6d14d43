-- What is left of an array after the elements that were taken.
use Rattle.std.proofs.Common.{◌≡◌, ℕ, ◌<◌, Bool, true, false, List, [], ◌∷◌, ◌++◌, length, refl, ap, sym, ◌∙◌, subst, arith, rules, length-append, inl, inr, Some, None}
use Rattle.std.specs.Prelude.{ℤ, Ok, Err}
use Rattle.json5_grammar.specs.Faults.Fronts.{of_array}
use Rattle.json5_grammar.specs.Model.Reading.{Read, got, and_then}
use Rattle.json5_grammar.specs.Model.ReadSteps.{forget, next_value, trees_after}
use Rattle.json5_grammar.specs.Model.ReadValues.{read}
use Rattle.json5_grammar.specs.Language.Numbers.{Decimal, whole, decimal}
use Rattle.json5_types.specs.declared.error.Error.{Error}
use Rattle.json5_types.specs.declared.value.Value.{Value, the_lemmas}
use Rattle.json5_types.specs.declared.value.Value as value
use Rattle.json5_tokens.specs.Cursor.{Cursor, IsOutOfMemory}
use Rattle.json5_types.specs.ValueMeanings.{Datum, array, item, items_view, value_of}
use Rattle.json5_types.specs.ValueMeanings as datum
use Rattle.json5_read.specs.declared.brackets.BracketKind.{BracketKind}
use Rattle.json5_read.specs.declared.unfinished.Next.TheVariants as next
use Rattle.json5_read.specs.BuildSteps.{Begun, BeginsValue, elements_before, array_with, array_at}
use Rattle.json5_read.specs.Entries.{next_entry}
use Rattle.json5_read.specs.OwnedReads.{BlamesEach, datum_at}
use Rattle.json5_read.specs.TakenEntries.{Leaves, LeavesLess, TakesElements, element_left}
use Rattle.json5_read.specs.ModelSteps.{IsInside, SameText, Gave, Steps}
use Rattle.json5_read.proofs.BuildRests.{array_turn, array_step, no_more_elements, array_grown}
use Rattle.json5_read.proofs.BuildScalars.{datum_got}
use Rattle.json5_read.proofs.EntryValues.{next_refused}
use Rattle.json5_read.proofs.SkipScalars.{value_shorter}
use Rattle.json5_read.proofs.RestsShorter.{next_shorter}
use Rattle.json5_read.proofs.ModelSteps.{blames_as, ready_after, took_both}

-- ---- a value

pub view_whole : (z : ℤ) → value_of (value.Whole z) ≡ datum.number (whole z)
view_whole z = search (rules, the_lemmas)

pub view_decimal : (d : Decimal) → value_of (value.Decimal d) ≡ datum.number (decimal d)
view_decimal d = search (rules, the_lemmas)

pub datum_shorter : (room : ℕ) (old new : Cursor) (v : Value) → Gave (datum_at room old) (value_of v) old new → length new.unread < length old.unread
datum_shorter room old new v g =
    let (t, is, view) = datum_got (read room old.unread) (value_of v) new.unread g.reads in
    value_shorter room old.unread new.unread tt (ap forget is)

-- ---- elements

-- some was taken so far, m was left before and n is left now; a comma is due as at the start, or since
pub record Passes (m n : ℕ → Read Datum) (at_start comma_due : Bool) (start now : Cursor) : Type 0 where
  pub leaves : Leaves m n start now
  pub due : at_start ≡ true → comma_due ≡ true
  pub ready : IsInside now

module _ (b : Bool) (before : List Value) (start : Cursor) (vs : List Value) (comma_due : Bool) (now : Cursor) (p : Passes (array_at before b start) (array_at vs comma_due now) b comma_due start now) where
  entered : (goes : Bool) (mid : Cursor) (d : ℕ) → Gave (next_value of_array comma_due now.unread) goes now mid → array_at before b start d ≡ array_turn (elements_before vs) d goes mid.unread
  entered goes mid d g = p.leaves.reads d ∙ array_step vs comma_due d now.unread ∙ ap (λ m. and_then m (array_turn (elements_before vs) d)) g.reads

  less : (goes : Bool) (mid : Cursor) → Gave (next_value of_array comma_due now.unread) goes now mid → b ≡ true → length mid.unread < length start.unread
  less goes mid g is =
      let l = next_shorter of_array comma_due goes now.unread mid.unread g.reads (p.due is) in
      omega (arith, l, ap length p.leaves.took.split, length-append p.leaves.taken now.unread)

  leaves_less : (goes : Bool) (n : ℕ → Read Datum) (mid : Cursor) → Gave (next_value of_array comma_due now.unread) goes now mid → ((d : ℕ) → array_turn (elements_before vs) d goes mid.unread ≡ n d) → LeavesLess b (array_at before b start) n start mid
  leaves_less goes n mid g reads = (
    record {
      reads = λ d. entered goes mid d g ∙ reads d;
      taken = p.leaves.taken ++ g.taken;
      took = took_both start now mid p.leaves.taken g.taken p.leaves.took g.took;
    },
    less goes mid g,
  )

  -- an element in brackets is in front
  pub bracket_left : (mid new : Cursor) (k : BracketKind) → Gave (next_value of_array comma_due now.unread) true now mid → Begun mid new (next.Opens k) → TakesElements b before vs start new (Ok (Some k))
  bracket_left mid new k g (same, at) =
      let l = leaves_less true (element_left vs mid) mid g (λ d. refl) in
      subst (λ (s : Cursor). TakesElements b before vs start s (Ok (Some k))) (sym same) (record { goes = (l, at); refused = tt; same_text = l.0.took.same })

  -- the array was closed
  pub array_ended : (mid : Cursor) → Gave (next_value of_array comma_due now.unread) false now mid → TakesElements b before vs start mid (Ok None)
  array_ended mid g =
      let l = leaves_less false (λ d. got (array (items_view vs)) mid.unread) mid g (λ d. ap (λ xs. got (array xs) mid.unread) (no_more_elements vs)) in
      record { goes = l; refused = tt; same_text = l.0.took.same }

  pub elements_refused : (new : Cursor) (e : Error) → BlamesEach now.input (array_at vs comma_due now) e → SameText now new → TakesElements b before vs start new (Err e)
  elements_refused new e blames same = record { goes = tt; refused = by_cause blames; same_text = same ∙ p.leaves.took.same }
    where
      by_cause : BlamesEach now.input (array_at vs comma_due now) e → BlamesEach start.input (array_at before b start) e
      by_cause (inl memory) = inl memory
      by_cause (inr k) = inr (λ d. blames_as now.input start.input (array_at vs comma_due now d) (array_at before b start d) e p.leaves.took.same (λ c q is. p.leaves.reads d ∙ is) (k d))

  -- what comes before the element is refused
  pub entry_refused : (new : Cursor) (e : Error) → Steps (next_entry of_array comma_due now.unread) now new (Err e) → TakesElements b before vs start new (Err e)
  entry_refused new e k =
      let refused = (next_refused of_array comma_due now new e k.refused k.same_text).refused in
      elements_refused new e
      (inr (λ d. blames_as now.input now.input (next_value of_array comma_due now.unread) (array_at vs comma_due now d) e refl (λ c q is. array_step vs comma_due d now.unread ∙ ap (λ m. and_then m (array_turn (elements_before vs) d)) is) refused)) k.same_text

  -- the element is refused
  pub value_refused : (mid new : Cursor) (e : Error) → Gave (next_value of_array comma_due now.unread) true now mid → BeginsValue mid new (Err e) → TakesElements b before vs start new (Err e)
  value_refused mid new e g k = elements_refused new e (by_cause k.refused) (k.same_text ∙ g.took.same)
    where
      by_cause : BlamesEach mid.input (λ d. datum_at d mid) e → BlamesEach now.input (array_at vs comma_due now) e
      by_cause (inl memory) = inl memory
      by_cause (inr r) = inr (λ d. blames_as mid.input now.input (datum_at d mid) (array_at vs comma_due now d) e g.took.same
          (λ c q is. array_step vs comma_due d now.unread ∙ ap (λ m. and_then m (array_turn (elements_before vs) d)) g.reads ∙ ap (λ m. and_then m (λ x y. array_with (λ xs. elements_before vs (item x xs)) (trees_after d y))) is) (r d))

  pub memory_lost : (mid new : Cursor) (v : Value) (after : List Value) (e : Error) → IsOutOfMemory e → Gave (next_value of_array comma_due now.unread) true now mid → Begun mid new (next.Ended v) → TakesElements b before after start new (Err e)
  memory_lost mid new v after e memory g k = record { goes = tt; refused = inl memory; same_text = (k 0).took.same ∙ g.took.same ∙ p.leaves.took.same }

  pub element_taken : (mid new : Cursor) (v : Value) (ws : List Value) → Gave (next_value of_array comma_due now.unread) true now mid → Begun mid new (next.Ended v) → ws ≡ vs ++ v ∷ [] → Passes (array_at before b start) (array_at ws true new) b true start new
  element_taken mid new v ws g k grown =
      let l = leaves_less true (element_left vs mid) mid g (λ d. refl) in
      record {
        leaves = record {
          reads = λ d. l.0.reads d ∙ ap (λ m. and_then m (λ x y. array_with (λ xs. elements_before vs (item x xs)) (trees_after d y))) (k d).reads ∙ sym (array_grown vs ws v d new.unread grown);
          taken = l.0.taken ++ (k 0).taken;
          took = took_both start mid new l.0.taken (k 0).taken l.0.took (k 0).took;
        };
        due = λ e. refl;
        ready = ready_after mid new (k 0).taken (ready_after now mid g.taken p.ready g.took) (k 0).took;
      }

  pub goes_down : (mid new : Cursor) (v : Value) → Gave (next_value of_array comma_due now.unread) true now mid → Begun mid new (next.Ended v) → length new.unread < length now.unread
  goes_down mid new v g k =
      let l = datum_shorter 0 mid new v (k 0) in
      omega (arith, l, ap length g.took.split, length-append g.taken mid.unread)
