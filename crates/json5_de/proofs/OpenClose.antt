-- What the calls that open and close a bracket mean, from what they took or refused.
use Rattle.std.proofs.Common.{◌≡◌, ◌<◌, ◌+◌, ℕ, ◌++◌, ◌∷◌, [], Bool, true, false, List, length, refl, subst, ap, sym, ◌∙◌, inl, inr, arith, ◌-◌, Result, Ok, Err}
use Rattle.std.specs.Prelude.{OnOk, IsOk}
use Rattle.std.specs.Str.{encode_utf8_all}
use Rattle.json5_grammar.specs.declared.error_code.ErrorCode.TheVariants as codes
use Rattle.json5_grammar.specs.Model.Collections.{IsEnd}
use Rattle.json5_types.specs.declared.error.Error.{Error}
use Rattle.json5_de.specs.State.{State}
use Rattle.json5_de.specs.Faults.{RefusedBy, IsPositionless}
use Rattle.json5_read.specs.declared.brackets.BracketPair.{BracketPair}
use Rattle.json5_de.specs.BracketSigns.{AreSigns}
use Rattle.json5_de.specs.Enums.{ClosesLast}
use Rattle.json5_de.specs.Arrays.{AccessState, Opened, Closed, NotOpened, NotClosed, OpensAs, ClosesAs}
use Rattle.json5_de.proofs.ExpectedKinds.{end_fault, other_fault}
use Rattle.json5_grammar.specs.Language.Documents.{max_depth}
use Rattle.json5_de.specs.ReaderSteps.{PassedGap, TookText}
use Rattle.json5_de.proofs.ReadSteps.{input_of}
use Rattle.json5_de.proofs.NoFailedCode.{opening_lacks, closing_lacks}
use Rattle.json5_de.proofs.TokenKinds.{refused_other}
use Rattle.json5_read.proofs.FoundEntries.{sign_next}
use Rattle.json5_de.proofs.BracketSteps.{opening_refused, only_read, level_of, unread_of, after_gap_of}
use Rattle.json5_de.proofs.EntryCodes.{expects_opening, expects_closing, full_fault, end_no_sign, other_no_sign, end_not_closed, other_not_closed}
use Rattle.json5_grammar.proofs.CommonLemmas.{true_false}

pub opens : {A : Type 0} (b : BracketPair) → AreSigns b → (state_of : A → AccessState) (old : State) (a : A) → Opened b old (state_of a).reader → (state_of a).comma_due ≡ false
    → ((before : List ℕ) → old.input ≡ before ++ b.opening ∷ (state_of a).reader.unread → (state_of a).start ≡ length (encode_utf8_all before)) → OpensAs b state_of old (Ok a)
opens b k state_of old a o comma_due start = record {
  opened = (o, comma_due);
  start = start;
  complete = λ r live sign room. refl;
  refused = tt;
  ends = λ at. absurd (end_no_sign b.opening old (state_of a).reader.unread k.opening at o.bracket);
  differs = λ w at. absurd (other_no_sign b.opening old w (state_of a).reader.unread k.opening at at.other o.bracket);
  too_deep = λ w at. let room = o.room in let full = at.full in absurd (omega (arith, room, full));
  unprompted = tt;
  before = λ h. absurd (true_false h o.live);
}

pub refuses_opening : {A : Type 0} (b : BracketPair) → AreSigns b → (state_of : A → AccessState) (old : State) (e : Error) → RefusedBy (NotOpened b old.level) old e → (old.failed ≡ true → IsPositionless codes.Failed e) → OpensAs b state_of old (Err e)
refuses_opening b k state_of old e f before = record {
  opened = tt;
  start = tt;
  complete = λ r live sign room. absurd (opening_refused b k old e r f live sign room);
  refused = f;
  ends = λ at. end_fault (expects_opening b old.level) old e at f;
  differs = λ w o. other_fault (expects_opening b old.level) old e w o f;
  too_deep = λ w at. full_fault b k old e w at f;
  unprompted = refused_other (opening_lacks b k old.level) old e f;
  before = before;
}

-- a call that refuses as another did
pub opens_too : {A B : Type 0} (b : BracketPair) (state_of : A → AccessState) (seen_too : B → AccessState) (old : State) (e : Error) → OpensAs b state_of old (Err e) → OpensAs b seen_too old (Err e)
opens_too b state_of seen_too old e o = record { opened = tt; start = tt; complete = o.complete; refused = o.refused; ends = o.ends; differs = o.differs; too_deep = o.too_deep; unprompted = o.unprompted; before = o.before }

pub closes : (b : BracketPair) → AreSigns b → (comma_due : Bool) (old new : State) → Closed b comma_due old new → ClosesAs b comma_due old new (Ok tt)
closes b k comma_due old new c = record {
  closed = c;
  complete = λ r live end. refl;
  refused = tt;
  ends = λ at. absurd (end_not_closed b k comma_due old new at c);
  differs = λ w o. absurd (other_not_closed b k comma_due old new w o c);
  unprompted = tt;
  before = λ h. absurd (true_false h c.live);
}

-- a bracket before which no comma is
closed_at_once : (b : BracketPair) (comma_due : Bool) (old new : State) → Closed b false old new → Closed b comma_due old new
closed_at_once b false old new c = c
closed_at_once b true old new c = record { live = c.live; close = inl c.close; rest = c.rest }

pub closes_at_once : (b : BracketPair) → AreSigns b → (comma_due : Bool) (old new : State) → Closed b false old new → ClosesLast b comma_due old new (Ok tt)
closes_at_once b k comma_due old new c = record { closes = closes b k comma_due old new (closed_at_once b comma_due old new c); same_text = input_of c.rest; failed = tt }

pub refuses_closing : (b : BracketPair) → AreSigns b → (comma_due : Bool) (old new : State) (e : Error) → RefusedBy (NotClosed b comma_due) old e → ((r : List ℕ) → old.failed ≡ false → IsEnd b.closing comma_due old.unread r → IsOk {T = Unit {0}} {E = Error} (Err e)) → (old.failed ≡ true → IsPositionless codes.Failed e) → ClosesAs b comma_due old new (Err e)
refuses_closing b k comma_due old new e f complete before = record {
  closed = tt;
  complete = complete;
  refused = f;
  ends = λ at. end_fault (expects_closing b comma_due) old e at f;
  differs = λ w o. other_fault (expects_closing b comma_due) old e w o f;
  unprompted = refused_other (closing_lacks b k comma_due) old e f;
  before = before;
}

pub opens_same : {A B : Type 0} (b : BracketPair) (see : A → AccessState) (state_of : B → AccessState) (old : State) (a : A) (d : B) → see a ≡ state_of d → OpensAs b see old (Ok a) → OpensAs b state_of old (Ok d)
opens_same b see state_of old a d same o = record {
  opened = subst (λ s. Opened b old s.reader × (s.comma_due ≡ false)) same o.opened;
  start = subst (λ (s : AccessState). (before : List ℕ) → old.input ≡ before ++ b.opening ∷ s.reader.unread → s.start ≡ length (encode_utf8_all before)) same o.start;
  complete = λ r live sign room. refl;
  refused = tt;
  ends = o.ends;
  differs = o.differs;
  too_deep = o.too_deep;
  unprompted = tt;
  before = o.before;
}

-- a bracket that was taken and counted
pub opened_here : (b : BracketPair) (old mid next last : State) → PassedGap old mid → TookText mid (b.opening ∷ []) next → (next.level < max_depth) × (last ≡ record next { level = next.level + 1 }) → Opened b old last
opened_here b old mid next last p took (room, entered) =
    let read = only_read old mid next p.rest took.rest in
    let level = level_of read in
    let counted = entered ∙ ap (λ (m : State). record m { level = m.level + 1 }) read in
    record {
      live = p.live;
      room = omega (arith, level, room);
      bracket = sign_next b.opening old.unread mid.unread last.unread (after_gap_of old mid p) (took.split ∙ ap (λ z. b.opening ∷ z) (sym (unread_of entered)));
      rest = counted ∙ ap (λ x. record old { unread = x; level = old.level + 1 }) (sym (unread_of entered));
    }

pub starts_here : (b : BracketPair) (old mid next last : State) (start : ℕ) → PassedGap old mid → TookText mid (b.opening ∷ []) next → last ≡ record next { level = next.level + 1 }
    → ((before : List ℕ) → mid.input ≡ before ++ mid.unread → start ≡ length (encode_utf8_all before)) → (before : List ℕ) → old.input ≡ before ++ b.opening ∷ last.unread → start ≡ length (encode_utf8_all before)
starts_here b old mid next last start p took entered counted before split =
    counted before (input_of p.rest ∙ split ∙ ap (λ z. before ++ z) (sym (took.split ∙ ap (λ z. b.opening ∷ z) (sym (unread_of entered)))))

-- a bracket that was taken after the comma
pub closed_after : {V : Type 0} (b : BracketPair) (comma_due : Bool) (old mid next far last : State) (result : Result V Error) → comma_due ≡ true → PassedGap old mid → TookText mid (0x2C ∷ []) next → PassedGap next far
    → OnOk result ((far.unread ≡ b.closing ∷ last.unread) × (last ≡ record far { unread = last.unread; level = far.level - 1 })) → OnOk result (Closed b comma_due old last)
closed_after b comma_due old mid next far last (Err e) d p took q k = tt
closed_after b comma_due old mid next far last (Ok v) d p took q (split, left) =
    let comma = sign_next 0x2C old.unread mid.unread next.unread (after_gap_of old mid p) took.split in
    let bracket = sign_next b.closing next.unread far.unread last.unread (after_gap_of next far q) split in
    let read = only_read old mid far p.rest (only_read mid next far took.rest q.rest) in
    record {
      live = p.live;
      close = subst (λ t. IsEnd b.closing t old.unread last.unread) (sym d) (inr (next.unread, comma, bracket));
      rest = left ∙ ap (λ (m : State). record m { unread = last.unread; level = m.level - 1 }) read;
    }
