-- The codes of what is refused around elements and members.
use Rattle.std.proofs.Common.{◌≡◌, ℕ, Bool, true, false, not, List, [], ◌∷◌, refl, ap, sym, subst, ◌⊎◌, inl, inr, Option, Some, None}
use Rattle.std.specs.Prelude.{◌==◌, ◌&&◌}
use Rattle.std.proofs.Math.Bool.{or-true}
use Rattle.std.proofs.lemmas.List.{append-nil}
use Rattle.json5_grammar.specs.declared.error_code.ErrorCode.{ErrorCode}
use Rattle.json5_grammar.specs.declared.error_code.ErrorCode.TheVariants as codes
use Rattle.json5_grammar.specs.Language.Blanks.{Gap, is_solid}
use Rattle.json5_grammar.specs.Model.Collections.{IsSign, IsEnd}
use Rattle.json5_grammar.proofs.BlanksRead.{begins_solid}
use Rattle.json5_grammar.proofs.ArraysRead.{comma_solid}
use Rattle.json5_grammar.proofs.EntriesAfterGaps.{no_sign}
use Rattle.json5_types.specs.declared.error.Error.{Error}
use Rattle.json5_de.specs.State.{State}
use Rattle.json5_read.specs.declared.brackets.BracketPair.{BracketPair}
use Rattle.json5_de.specs.BracketSigns.{AreSigns}
use Rattle.json5_de.specs.Arrays.{Closed, NotOpened, no_bracket, text_ends, too_deep, other_sign, bracket_missing, NotClosed, not_here, after_comma, AtFull, is_opening, is_comma_or_closing, begins_close}
use Rattle.json5_de.specs.AccessCalls.{AdvancesToEntry}
use Rattle.json5_read.specs.EntryFaults.{NoNext, no_comma, comma_missing, in_blanks_after}
use Rattle.json5_de.specs.Faults.{AtEnd, AtOther, IsAfter, RefusedBy}
use Rattle.json5_de.proofs.ExpectedKinds.{Expected, other_fault}
use Rattle.std.proofs.lemmas.Bool.{or_parts}
use Rattle.json5_grammar.proofs.CommonLemmas.{same_char, first_same, true_false}

-- ---- what is expected

-- after a member
pub expects_more : (b : BracketPair) (comma_due : Bool) → Expected {C = Unit {0}} (NoNext b comma_due) (λ t. None) (is_comma_or_closing b) b.ends codes.ExpectedComma
expects_more b comma_due = record {
  at_end = λ reason place f. at_none [] reason place refl f;
  at_other = λ c r reason place h f. at_some (c ∷ r) c r reason place refl h f;
  no_fault = λ s r t v reason place e k stops f. absurd (cc);
  first = λ s t v e k. absurd (cc);
}
  where
    at_none : (x : List ℕ) (reason : Option ErrorCode) (place : Option (List ℕ)) → x ≡ [] → NoNext b comma_due x reason place → (reason ≡ Some b.ends) × (place ≡ None)
    at_none x reason place e (no_comma c r d m n) = absurd (cc)
    at_none x reason place e (comma_missing d) = (refl, refl)
    at_none x reason place e (in_blanks_after d f) = absurd (cc)

    at_some : (x : List ℕ) (c : ℕ) (r : List ℕ) (reason : Option ErrorCode) (place : Option (List ℕ)) → x ≡ c ∷ r → is_comma_or_closing b c ≡ false → NoNext b comma_due x reason place → (reason ≡ Some codes.ExpectedComma) × (place ≡ Some [])
    at_some x c r reason place e h (no_comma d q k m n) = (refl, refl)
    at_some x c r reason place e h (comma_missing k) = absurd (cc)
    at_some x c r reason place e h (in_blanks_after {x = y} k f) = absurd (true_false {b = true} refl (subst (λ d. is_comma_or_closing b d ≡ false) (sym (first_same 0x2C c y r e)) h))

-- where an opening bracket is
pub expects_opening : (b : BracketPair) (level : ℕ) → Expected {C = Unit {0}} (NotOpened b level) (λ t. None) (is_opening b) b.ends b.not_opened
expects_opening b level = record {
  at_end = λ reason place f. at_none [] reason place refl f;
  at_other = λ c r reason place h f. at_some (c ∷ r) c r reason place refl h f;
  no_fault = λ s r t v reason place e k stops f. absurd (cc);
  first = λ s t v e k. absurd (cc);
}
  where
    at_none : (x : List ℕ) (reason : Option ErrorCode) (place : Option (List ℕ)) → x ≡ [] → NotOpened b level x reason place → (reason ≡ Some b.ends) × (place ≡ None)
    at_none x reason place e (no_bracket c r n) = absurd (cc)
    at_none x reason place e text_ends = (refl, refl)
    at_none x reason place e (too_deep r full) = absurd (cc)

    at_some : (x : List ℕ) (c : ℕ) (r : List ℕ) (reason : Option ErrorCode) (place : Option (List ℕ)) → x ≡ c ∷ r → is_opening b c ≡ false → NotOpened b level x reason place → (reason ≡ Some b.not_opened) × (place ≡ Some [])
    at_some x c r reason place e h (no_bracket d q n) = (refl, refl)
    at_some x c r reason place e h text_ends = absurd (cc)
    at_some x c r reason place e h (too_deep q full) = absurd (true_false (same_char b.opening) (subst (λ d. is_opening b d ≡ false) (sym (first_same b.opening c q r e)) h))

-- one more bracket than may be open
expects_room : (b : BracketPair) (level : ℕ) → Expected {C = Unit {0}} (NotOpened b level) (λ t. None) (λ c. not (is_opening b c)) b.ends codes.TooDeep
expects_room b level = record {
  at_end = λ reason place f. at_none [] reason place refl f;
  at_other = λ c r reason place h f. at_some (c ∷ r) c r reason place refl h f;
  no_fault = λ s r t v reason place e k stops f. absurd (cc);
  first = λ s t v e k. absurd (cc);
}
  where
    at_none : (x : List ℕ) (reason : Option ErrorCode) (place : Option (List ℕ)) → x ≡ [] → NotOpened b level x reason place → (reason ≡ Some b.ends) × (place ≡ None)
    at_none x reason place e (no_bracket c r n) = absurd (cc)
    at_none x reason place e text_ends = (refl, refl)
    at_none x reason place e (too_deep r full) = absurd (cc)

    at_some : (x : List ℕ) (c : ℕ) (r : List ℕ) (reason : Option ErrorCode) (place : Option (List ℕ)) → x ≡ c ∷ r → not (is_opening b c) ≡ false → NotOpened b level x reason place → (reason ≡ Some codes.TooDeep) × (place ≡ Some [])
    at_some x c r reason place e h (no_bracket d q n) = absurd (true_false {b = true} refl (subst (λ t. not t ≡ false) (subst (λ k. is_opening b k ≡ false) (first_same d c q r e) n) h))
    at_some x c r reason place e h text_ends = absurd (cc)
    at_some x c r reason place e h (too_deep q full) = (refl, refl)

-- where a closing bracket is
pub expects_closing : (b : BracketPair) (comma_due : Bool) → Expected {C = Unit {0}} (NotClosed b comma_due) (λ t. None) (begins_close b comma_due) b.ends b.not_closed
expects_closing b comma_due = record {
  at_end = λ reason place f. at_none [] reason place refl f;
  at_other = λ c r reason place h f. at_some (c ∷ r) c r reason place refl h f;
  no_fault = λ s r t v reason place e k stops f. absurd (cc);
  first = λ s t v e k. absurd (cc);
}
  where
    at_none : (x : List ℕ) (reason : Option ErrorCode) (place : Option (List ℕ)) → x ≡ [] → NotClosed b comma_due x reason place → (reason ≡ Some b.ends) × (place ≡ None)
    at_none x reason place e (not_here (other_sign c r n m)) = absurd (cc)
    at_none x reason place e (not_here bracket_missing) = (refl, refl)
    at_none x reason place e (after_comma d f) = absurd (cc)

    at_comma : (d : Bool) → d ≡ true → begins_close b d 0x2C ≡ true
    at_comma true d = or-true (0x2C == b.closing)
    at_comma false d = absurd (cc)

    at_some : (x : List ℕ) (c : ℕ) (r : List ℕ) (reason : Option ErrorCode) (place : Option (List ℕ)) → x ≡ c ∷ r → begins_close b comma_due c ≡ false → NotClosed b comma_due x reason place → (reason ≡ Some b.not_closed) × (place ≡ Some [])
    at_some x c r reason place e h (not_here (other_sign d q n m)) = (refl, refl)
    at_some x c r reason place e h (not_here bracket_missing) = absurd (cc)
    at_some x c r reason place e h (after_comma {x = y} d f) = absurd (true_false (at_comma comma_due d) (subst (λ k. begins_close b comma_due k ≡ false) (sym (first_same 0x2C c y r e)) h))

-- ---- nothing of an array follows

pub end_no_sign : (sign : ℕ) (s : State) (r : List ℕ) → is_solid sign ≡ true → AtEnd s → IsSign sign s.unread r → ⊥
end_no_sign sign s r h (live, l) k = no_sign sign s.unread s.unread [] r h (sym (append-nil s.unread)) (Gap.at_end l) tt tt k

pub other_no_sign : {begins : ℕ → Bool} (sign : ℕ) (s : State) (w r : List ℕ) → is_solid sign ≡ true → (o : AtOther begins s w) → (o.char == sign) ≡ false → IsSign sign s.unread r → ⊥
other_no_sign sign s w r h o n k = no_sign sign s.unread w (o.char ∷ o.more) r h o.split (Gap.blanks o.blank) (begins_solid o.char o.more o.solid) n k

-- what went on began with a comma or the bracket
went_on : (b : BracketPair) (comma_due more : Bool) (old new : State) → comma_due ≡ true → AdvancesToEntry b comma_due old new more → ((z : List ℕ) × IsSign 0x2C old.unread z) ⊎ ((z : List ℕ) × IsSign b.closing old.unread z)
went_on b false more old new d at = absurd (cc)
went_on b true true old new d at = let (z, comma, g) = at.begun in inl (z, comma)
went_on b true false old new d at = let (r, close, e) = at.close in either r close
  where
    either : (r : List ℕ) → IsEnd b.closing true old.unread r → ((z : List ℕ) × IsSign 0x2C old.unread z) ⊎ ((z : List ℕ) × IsSign b.closing old.unread z)
    either r (inl k) = inr (r, k)
    either r (inr (y, comma, k)) = inl (y, comma)

pub end_goes_nowhere : (b : BracketPair) → AreSigns b → (comma_due more : Bool) (old new : State) → comma_due ≡ true → AtEnd old → AdvancesToEntry b comma_due old new more → ⊥
end_goes_nowhere b s comma_due more old new d at k = elim (went_on b comma_due more old new d k) [
  | inl w ↦ end_no_sign 0x2C old w.0 comma_solid at w.1
  | inr w ↦ end_no_sign b.closing old w.0 s.closing at w.1
]

pub other_goes_nowhere : (b : BracketPair) → AreSigns b → (comma_due more : Bool) (old new : State) (w : List ℕ) → comma_due ≡ true → AtOther (is_comma_or_closing b) old w → AdvancesToEntry b comma_due old new more → ⊥
other_goes_nowhere b s comma_due more old new w d o k =
    let neither = or_parts (o.char == 0x2C) (o.char == b.closing) o.other in
    elim (went_on b comma_due more old new d k) [
      | inl z ↦ other_no_sign 0x2C old w z.0 comma_solid o neither.0 z.1
      | inr z ↦ other_no_sign b.closing old w z.0 s.closing o neither.1 z.1
    ]

pub end_no_close : (b : BracketPair) → AreSigns b → (comma_due : Bool) (s : State) (r : List ℕ) → AtEnd s → IsEnd b.closing comma_due s.unread r → ⊥
end_no_close b k false s r at c = end_no_sign b.closing s r k.closing at c
end_no_close b k true s r at (inl c) = end_no_sign b.closing s r k.closing at c
end_no_close b k true s r at (inr (y, comma, c)) = end_no_sign 0x2C s y comma_solid at comma

pub other_no_close : {begins : ℕ → Bool} (b : BracketPair) → AreSigns b → (comma_due : Bool) (s : State) (w r : List ℕ) → (o : AtOther begins s w) → (o.char == b.closing) ≡ false → (comma_due ≡ true → (o.char == 0x2C) ≡ false) → IsEnd b.closing comma_due s.unread r → ⊥
other_no_close b k false s w r o n m c = other_no_sign b.closing s w r k.closing o n c
other_no_close b k true s w r o n m (inl c) = other_no_sign b.closing s w r k.closing o n c
other_no_close b k true s w r o n m (inr (y, comma, c)) = other_no_sign 0x2C s w y comma_solid o (m refl) comma

pub end_not_closed : (b : BracketPair) → AreSigns b → (comma_due : Bool) (old new : State) → AtEnd old → Closed b comma_due old new → ⊥
end_not_closed b k comma_due old new at c = end_no_close b k comma_due old new.unread at c.close

pub other_not_closed : (b : BracketPair) → AreSigns b → (comma_due : Bool) (old new : State) (w : List ℕ) → AtOther (begins_close b comma_due) old w → Closed b comma_due old new → ⊥
other_not_closed b k comma_due old new w o c =
    let n = or_parts (o.char == b.closing) (comma_due && (o.char == 0x2C)) o.other in
    other_no_close b k comma_due old w new.unread o n.0 (λ d. subst (λ x. (x && (o.char == 0x2C)) ≡ false) d n.1) c.close

-- ---- what is said of one bracket too many

pub full_fault : (b : BracketPair) → AreSigns b → (old : State) (e : Error) (w : List ℕ) → AtFull b old w → RefusedBy (NotOpened b old.level) old e → IsAfter codes.TooDeep old w e
full_fault b k old e w at f =
    other_fault (expects_room b old.level) old e w (record { live = at.live; blank = at.blank; char = b.opening; more = at.more; split = at.split; solid = k.opening; other = ap not (same_char b.opening) }) f
