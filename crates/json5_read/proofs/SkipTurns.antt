-- The turns of the loop that passes over the rest of a bracket.
use Rattle.std.proofs.Common.{◌≡◌, ℕ, ◌-◌, ◌+◌, ◌<◌, Bool, true, false, List, [], ◌∷◌, ◌++◌, length, refl, ap, sym, ◌∙◌, subst, arith, length-append}
use Rattle.std.specs.Prelude.{Result, Ok, Err}
use Rattle.json5_grammar.specs.Model.Reading.{Read, and_then}
use Rattle.json5_grammar.specs.Model.ReadSteps.{next_value, rest_of_bracket}
use Rattle.json5_grammar.proofs.ValueSteps.{turn, rest_step}
use Rattle.json5_types.specs.declared.error.Error.{Error}
use Rattle.json5_tokens.specs.Cursor.{Cursor}
use Rattle.json5_read.specs.declared.brackets.BracketKind.{BracketKind}
use Rattle.json5_read.specs.declared.brackets.OpenBracket.{OpenBracket}
use Rattle.json5_read.specs.declared.skip.Turn.TheVariants as turns
use Rattle.json5_read.specs.Brackets.{bracket_of}
use Rattle.json5_read.specs.Opening.{OpenedAt}
use Rattle.json5_read.specs.Offsets.{StartsAfter, PositionedAt}
use Rattle.json5_read.specs.SkipSteps.{start_of, rest_in, rest_at, Skipping, SkippingInside, SkipsOrOpens, Turned, TakesTurn, SkipsBracket, SkipsValue}
use Rattle.json5_read.specs.ModelSteps.{IsInside, SameText, RefusesRead, Gave, value_at}
use Rattle.json5_read.proofs.Nesting.{inside_blamed, moved}
use Rattle.json5_read.proofs.SkipInvariant.{no_more_left, value_is, value_next, closed_next, inside_of, ready_opened, begins, ended_inside, ends_whole}
use Rattle.json5_read.proofs.SkipScalars.{value_shorter}
use Rattle.json5_read.proofs.ModelSteps.{blames_as, ready_after, ready_next, took_both}

-- ---- one turn

-- what is refused before the value
pub turn_refused : (k : BracketKind) (comma_due : Bool) (room : ℕ) (old new : Cursor) (e : Error) → RefusesRead old.input (next_value (bracket_of k) comma_due old.unread) e → SameText old new → TakesTurn k comma_due room old new (Err e)
turn_refused k comma_due room old new e b same = record {
  goes = tt;
  refused = blames_as old.input old.input (next_value (bracket_of k) comma_due old.unread) (rest_of_bracket (bracket_of k) comma_due room old.unread) e refl
      (λ c p is. rest_step (bracket_of k) comma_due room old.unread ∙ ap (λ m. and_then m (turn (bracket_of k) room)) is) b;
  same_text = same;
}

-- the value is refused
pub value_refused : (k : BracketKind) (comma_due more : Bool) (room : ℕ) (old mid new : Cursor) (e : Error) → more ≡ true → Gave (next_value (bracket_of k) comma_due old.unread) more old mid → RefusesRead mid.input (value_at room mid) e → SameText mid new
    → TakesTurn k comma_due room old new (Err e)
value_refused k comma_due more room old mid new e goes g b same = record {
  goes = tt;
  refused = blames_as mid.input old.input (value_at room mid) (rest_of_bracket (bracket_of k) comma_due room old.unread) e g.took.same
      (λ c p is. rest_step (bracket_of k) comma_due room old.unread ∙ ap (λ m. and_then m (turn (bracket_of k) room)) g.reads ∙ ap (λ b. turn (bracket_of k) room b mid.unread) goes
      ∙ ap (λ m. and_then m (λ u y. rest_of_bracket (bracket_of k) true room y)) is) b;
  same_text = same ∙ g.took.same;
}

pub turn_taken : (k : BracketKind) (comma_due : Bool) (room : ℕ) (old new : Cursor) (t : _) → Turned k comma_due room old new t → TakesTurn k comma_due room old new (Ok t)
turn_taken k comma_due room old new t is = record { goes = is; refused = tt; same_text = tt }

pub gave_more : (k : BracketKind) (comma_due more : Bool) (old new : Cursor) (b : Bool) → more ≡ b → Gave (next_value (bracket_of k) comma_due old.unread) more old new → Gave (next_value (bracket_of k) comma_due old.unread) b old new
gave_more k comma_due more old new b is g = subst (λ z. Gave (next_value (bracket_of k) comma_due old.unread) z old new) is g

-- ---- the turns so far

-- from within the bracket f on, values were passed over and brackets opened, maybe none; now the bracket is g, other ones are open
-- around it, and so many may still be opened in it
pub record PassesWithin (room : ℕ) (f g : OpenBracket) (cs : List OpenBracket) (comma_due : Bool) (left : ℕ) (start now : Cursor) : Type 0 where
  pub goes : (w : Read (Unit {0})) (q : List ℕ) → SkippingInside room w [] f false q start → (p : List ℕ) × SkippingInside room w cs g comma_due p now
  pub ready : IsInside now
  pub place : length cs < room
  pub is_left : left ≡ room - (length cs + 1)
  pub same_text : SameText start now

pub within_start : (room : ℕ) (f : OpenBracket) (cs : List OpenBracket) (left : ℕ) (start : Cursor) → cs ≡ [] → left ≡ room - 1 → IsInside start → 0 < room → PassesWithin room f f cs false left start start
within_start room f cs left start none is_left ready some = record {
  goes = λ w q h. (q, subst (λ z. SkippingInside room w z f false q start) (sym none) h);
  ready = ready;
  place = omega (arith, some, ap length none);
  is_left = omega (arith, is_left, ap length none);
  same_text = refl;
}

module _ (room : ℕ) (f g : OpenBracket) (cs : List OpenBracket) (comma_due : Bool) (left : ℕ) (start now : Cursor) (p : PassesWithin room f g cs comma_due left start now) where
  deep_is : left ≡ room - length cs - 1
  deep_is = let is_left = p.is_left in omega (arith, is_left)

  -- what is refused makes a fault of the whole
  pub bracket_refused : (new : Cursor) (own e : Error) → RefusesRead now.input (rest_of_bracket (bracket_of g.kind) comma_due left now.unread) own → SameText now new → PositionedAt (StartsAfter new.input g.start) own e → SkipsBracket room f start new (Err e)
  bracket_refused new own e b same k = record {
    goes = tt;
    refused = λ w q h.
        let (z, inside) = p.goes w q h in
        subst (λ i. RefusesRead i w e) p.same_text
        (inside_blamed start_of rest_in room now w (rest_at room cs g comma_due now) cs g.start z inside new.input own e
        (subst (λ d. RefusesRead now.input (rest_of_bracket (bracket_of g.kind) comma_due d now.unread) own) deep_is b) k same);
    same_text = same ∙ p.same_text;
  }

  -- the outermost bracket was closed
  pub whole_closed : (new : Cursor) → Turned g.kind comma_due left now new turns.Closed → cs ≡ [] → SkipsBracket room f start new (Ok tt)
  whole_closed new v none = record {
    goes = λ w q h. let (z, inside) = p.goes w q h in subst (λ bs. Skipping room w bs false new) none (closed_next room w z comma_due g cs now new inside v);
    refused = tt;
    same_text = v.took.same ∙ p.same_text;
  }

  -- the bracket was closed, and the outer one goes on after a value
  pub closed_within : (ds : List OpenBracket) (outer : OpenBracket) (more : ℕ) (new : Cursor) → Turned g.kind comma_due left now new turns.Closed → cs ≡ ds ++ outer ∷ [] → more ≡ left + 1 → PassesWithin room f outer ds true more start new
  closed_within ds outer more new v is is_more =
      let there = p.place in
      let is_left = p.is_left in
      let longer = length-append ds (outer ∷ []) in
      record {
        goes = λ w q h. let (z, inside) = p.goes w q h in ended_inside room new w cs ds outer is (closed_next room w z comma_due g cs now new inside v);
        ready = ready_next now new p.ready v;
        place = omega (arith, there, ap length is, longer);
        is_left = omega (arith, there, is_left, is_more, ap length is, longer);
        same_text = v.took.same ∙ p.same_text;
      }

  -- after a value a comma is due
  pub value_passed : (new : Cursor) → Turned g.kind comma_due left now new turns.Ended → PassesWithin room f g cs true left start new
  value_passed new (mid, v, k) = record {
    goes = λ w q h.
        let (z, inside) = p.goes w q h in
        let deep : ℕ = room - length cs - 1 in (
          z,
          moved start_of rest_in room now w (rest_at room cs g comma_due now) cs g.start z inside new (rest_at room cs g true new) (v.taken ++ k.taken)
              (took_both now mid new v.taken k.taken v.took k.took)
              (value_is room cs g comma_due now true mid refl v ∙ ap (λ m. and_then m (rest_in g deep)) (ap (λ d. value_at d mid) (sym deep_is) ∙ k.reads)),
        );
    ready = ready_after mid new k.taken (ready_next now mid p.ready v) k.took;
    place = p.place;
    is_left = p.is_left;
    same_text = k.took.same ∙ v.took.same ∙ p.same_text;
  }

  pub passed_less : (new : Cursor) → Turned g.kind comma_due left now new turns.Ended → length new.unread < length now.unread
  passed_less new (mid, v, k) =
      let to_value = no_more_left now mid v.taken v.took in
      let past_value = value_shorter left mid.unread new.unread tt k.reads in
      omega (arith, to_value, past_value)

  -- the value is a bracket, which was opened
  pub bracket_within : (inner : OpenBracket) (after : List OpenBracket) (less : ℕ) (new : Cursor) → Turned g.kind comma_due left now new (turns.Opened inner) → after ≡ cs ++ g ∷ [] → less ≡ left - 1 → PassesWithin room f inner after false less start new
  bracket_within inner after less new (mid, v, o) grown is_less =
      let more : length after ≡ length cs + 1 = omega (arith, ap length grown, length-append cs (g ∷ [])) in
      let there = o.room_left in
      let is_left = p.is_left in
      let same : left ≡ room - length after = omega (arith, is_left, more) in
      record {
        goes = λ w q h.
            let (z, inside) = p.goes w q h in
            (mid.unread, inside_of room w after inner mid new (subst (λ bs. Skipping room w bs true mid) (sym grown) (value_next room w z comma_due g cs now mid inside v)) (subst (λ n. OpenedAt n inner mid new) same o));
        ready = ready_opened left inner mid new (ready_next now mid p.ready v) o;
        place = omega (arith, more, there, is_left);
        is_left = omega (arith, more, is_left, is_less);
        same_text = o.same_text ∙ v.took.same ∙ p.same_text;
      }

  pub opened_less : (inner : OpenBracket) (new : Cursor) → Turned g.kind comma_due left now new (turns.Opened inner) → length new.unread < length now.unread
  opened_less inner new (mid, v, o) =
      let to_value = no_more_left now mid v.taken v.took in
      let sign = o.sign in
      omega (arith, to_value, ap length sign)

-- ---- the whole value

-- its bracket was opened, and the rest passed over or refused
pub bracket_passed : (room : ℕ) (bracket : OpenBracket) (old mid new : Cursor) (result : Result (Unit {0}) Error) → IsInside old → OpenedAt room bracket old mid → SkipsBracket room bracket mid new result → SkipsValue room old new result
bracket_passed room bracket old mid new result ready o k = by_result result k
  where
    within : SkippingInside room (value_at room old) [] bracket false old.unread mid
    within = inside_of room (value_at room old) [] bracket old mid (begins room old ready) (subst (λ n. OpenedAt n bracket old mid) (omega arith) o)

    by_result : (result : Result (Unit {0}) Error) → SkipsBracket room bracket mid new result → SkipsValue room old new result
    by_result (Ok u) k = let same = k.same_text ∙ o.same_text in record { given = ends_whole room old new [] refl same (k.goes (value_at room old) old.unread within); refused = tt; same_text = same }
    by_result (Err e) k = record { given = tt; refused = subst (λ i. RefusesRead i (value_at room old) e) o.same_text (k.refused (value_at room old) old.unread within); same_text = k.same_text ∙ o.same_text }

-- it was passed over at once
pub value_passed_over : (room : ℕ) (old new : Cursor) → Gave (value_at room old) tt old new → SkipsValue room old new (Ok tt)
value_passed_over room old new g = record { given = g; refused = tt; same_text = g.took.same }

-- it is refused before a bracket is open
pub value_not_begun : (room : ℕ) (old new : Cursor) (e : Error) → SkipsOrOpens room old new (Err e) → SkipsValue room old new (Err e)
value_not_begun room old new e k = record { given = tt; refused = k.refused; same_text = k.same_text }
