-- While a value is skipped: what the whole comes to, given the open brackets and what was read inside them.
use Rattle.std.proofs.Common.{◌≡◌, ℕ, suc, ◌-◌, ◌≤◌, Bool, true, false, List, [], ◌∷◌, ◌++◌, length, refl, ap, sym, ◌∙◌, subst, append_assoc, arith, length-append}
use Rattle.json5_grammar.specs.Faults.Fronts.{opening}
use Rattle.json5_grammar.specs.Model.Reading.{Read, got, and_then, placed}
use Rattle.json5_grammar.specs.Model.ReadSteps.{forget, next_value, rest_of_bracket}
use Rattle.json5_grammar.specs.Model.ReadValues.{read}
use Rattle.json5_grammar.proofs.ValuesSound.{read_sound}
use Rattle.json5_grammar.proofs.ValueSteps.{turn, rest_step, read_opened}
use Rattle.json5_tokens.specs.Cursor.{Cursor, Took}
use Rattle.json5_read.specs.declared.brackets.OpenBracket.{OpenBracket}
use Rattle.json5_read.specs.Brackets.{bracket_of}
use Rattle.json5_read.specs.Nesting.{Nested, Within}
use Rattle.json5_read.specs.Opening.{OpenedAt}
use Rattle.json5_read.specs.SkipSteps.{start_of, rest_in, rest_at, Skipping, SkippingInside}
use Rattle.json5_read.specs.ModelSteps.{IsInside, SameText, Gave, value_at}
use Rattle.json5_read.proofs.Nesting.{value_reached, closed, value_opened, starts, ends_inside}
use Rattle.json5_read.proofs.ModelSteps.{forget_got}

-- ---- continuing a bracket

module _ (room : ℕ) (bs : List OpenBracket) (f : OpenBracket) (comma_due : Bool) (old : Cursor) where
  abbrev left : ℕ
  left = room - length bs - 1

  -- what is left of it, by what comes next
  rest_is : (goes : Bool) (new : Cursor) → Gave (next_value (bracket_of f.kind) comma_due old.unread) goes old new → rest_at room bs f comma_due old ≡ turn (bracket_of f.kind) left goes new.unread
  rest_is goes new g = rest_step (bracket_of f.kind) comma_due left old.unread ∙ ap (λ m. and_then m (turn (bracket_of f.kind) left)) g.reads

  -- a value comes next
  pub value_is : (goes : Bool) (new : Cursor) → goes ≡ true → Gave (next_value (bracket_of f.kind) comma_due old.unread) goes old new → rest_at room bs f comma_due old ≡ and_then (value_at left new) (rest_in f left)
  value_is goes new is g = rest_is goes new g ∙ ap (λ b. turn (bracket_of f.kind) left b new.unread) is

pub room_within : (room : ℕ) (bs : List OpenBracket) (f : OpenBracket) → room - length (bs ++ f ∷ []) ≡ room - length bs - 1
room_within room bs f = omega (arith, length-append bs (f ∷ []))

pub no_more_left : (old new : Cursor) (s : List ℕ) → Took old s new → length new.unread ≤ length old.unread
no_more_left old new s t = omega (arith, ap length t.split, length-append s new.unread)

module _ (room : ℕ) (w : Read (Unit {0})) (q : List ℕ) (comma_due : Bool) (f : OpenBracket) (bs : List OpenBracket) (old new : Cursor) (h : SkippingInside room w bs f comma_due q old) where
  -- a value comes next
  pub value_next : Gave (next_value (bracket_of f.kind) comma_due old.unread) true old new → Skipping room w (bs ++ f ∷ []) true new
  value_next g =
      subst (λ d. Within start_of rest_in room w (bs ++ f ∷ []) (value_at d new) new) (sym (room_within room bs f))
      (value_reached start_of rest_in room old w (rest_at room bs f comma_due old) bs f.start q h f new (value_at (room - length bs - 1) new) g.taken refl g.took (value_is room bs f comma_due old true new refl g))

  -- the bracket is closed
  pub closed_next : Gave (next_value (bracket_of f.kind) comma_due old.unread) false old new → Skipping room w bs false new
  closed_next g = closed start_of rest_in room old w (rest_at room bs f comma_due old) bs f.start q h new tt g.taken g.took (rest_is room bs f comma_due old false new g)

-- ---- how a value within brackets begins

-- after an opening bracket the rest is still the end of the input
pub ready_opened : (room : ℕ) (f : OpenBracket) (old mid : Cursor) → IsInside old → OpenedAt room f old mid → IsInside mid
ready_opened room f old mid r o = record {
  before = r.before ++ opening (bracket_of f.kind) ∷ [];
  inside = o.same_text ∙ r.inside ∙ ap (λ z. r.before ++ z) o.sign ∙ sym (append_assoc r.before (opening (bracket_of f.kind) ∷ []) mid.unread);
}

pub inside_of : (room : ℕ) (w : Read (Unit {0})) (bs : List OpenBracket) (f : OpenBracket) (old mid : Cursor) → Skipping room w bs true old → OpenedAt (room - length bs) f old mid → SkippingInside room w bs f false old.unread mid
inside_of room w bs f old mid h o =
    let d = o.room_left in
    let more : room - length bs ≡ suc (room - length bs - 1) = omega (arith, d) in
    value_opened start_of rest_in room old mid w (value_at (room - length bs) old) (rest_at room bs f false mid) bs f.start h (ready_opened (room - length bs) f old mid h.ready o) o.counted o.same_text o.room_left
    (ap (λ k. forget (read k old.unread)) more ∙ ap (λ z. forget (read (suc (room - length bs - 1)) z)) o.sign ∙ read_opened (bracket_of f.kind) (room - length bs - 1) mid.unread
    ∙ ap (λ z. placed z (rest_of_bracket (bracket_of f.kind) false (room - length bs - 1) mid.unread)) (sym o.sign))

-- ---- the whole

-- nothing is open at the start
pub begins : (room : ℕ) (s : Cursor) → IsInside s → Skipping room (value_at room s) [] true s
begins room s ready = subst (λ d. Within start_of rest_in room (value_at room s) [] (value_at d s) s) (omega arith) (starts start_of rest_in room s (value_at room s) ready)

-- a value ended in the innermost bracket
pub ended_inside : (room : ℕ) (now : Cursor) (w : Read (Unit {0})) (bs fs : List OpenBracket) (f : OpenBracket) → bs ≡ fs ++ f ∷ [] → Skipping room w bs false now → (q : List ℕ) × SkippingInside room w fs f true q now
ended_inside room now w bs fs f is h = ends_inside start_of rest_in room now w bs fs f tt is h

-- the value itself ended
pub ends_whole : (room : ℕ) (old now : Cursor) (bs : List OpenBracket) → bs ≡ [] → SameText old now → Skipping room (value_at room old) bs false now → Gave (value_at room old) tt old now
ends_whole room old now bs none same h =
    let reads : value_at room old ≡ got tt now.unread = subst (λ fs. Nested start_of rest_in now.input room fs (got tt now.unread) (value_at room old)) none h.nested in
    let (t, is) = forget_got (read room old.unread) tt now.unread reads in
    let v = read_sound room old.unread now.unread t is in
    record { reads = reads; taken = v.0; took = record { split = v.1; same = same } }
