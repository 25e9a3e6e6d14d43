-- What a call of an access means, from what it gives or refuses.
use Rattle.std.proofs.Common.{◌≡◌, ◌≢◌, Bool, true, false, ap, sym, ◌∙◌, subst, Option, Some, None}
use Rattle.std.specs.Prelude.{◌==◌, ◌||◌, is_some, Ok, Err, ℕ, List}
use Rattle.json5_grammar.specs.declared.error_code.ErrorCode.{ErrorCode}
use Rattle.json5_grammar.specs.declared.error_code.ErrorCode.TheVariants as codes
use Rattle.json5_grammar.specs.declared.position.Position.{Position}
use Rattle.json5_grammar.specs.Model.Collections.{IsElement}
use Rattle.json5_grammar.specs.Language.Trees.{Tree}
use Rattle.json5_grammar.proofs.ArraysRead.{comma_solid}
use Rattle.json5_types.specs.declared.error.Error.{Error}
use Rattle.json5_types.specs.Errors.{code, kind_of, error_position, or_position}
use Rattle.json5_de.specs.State.{State, OnlyRead}
use Rattle.json5_de.specs.Faults.{AtEnd, AtOther, IsPositionless, IsAfter}
use Rattle.json5_de.specs.Arrays.{AccessState, bare, Opened, TookElement, AtClose, GivesElement, PositionedAtBracket, IsAtBracket, is_comma_or_closing}
use Rattle.json5_read.specs.declared.brackets.BracketPair.{BracketPair}
use Rattle.json5_read.specs.Brackets.{square}
use Rattle.json5_de.specs.AccessCalls.{Cause, RefusesCall, RefusesElement, not_reached, in_element, RefusesNext}
use Rattle.json5_de.proofs.ExpectedKinds.{end_fault, other_fault}
use Rattle.json5_de.proofs.BracketSteps.{square_signs}
use Rattle.json5_de.proofs.EntryCodes.{expects_more, end_no_sign, other_no_sign, end_goes_nowhere, other_goes_nowhere}
use Rattle.std.proofs.lemmas.Bool.{or_parts}
use Rattle.json5_grammar.proofs.CommonLemmas.{true_false}

-- ---- the flag that blocks the reader

-- the reader as the access sees it, which only read
pub lent_back : (old new : State) → OnlyRead old new → record new { failed = old.failed } ≡ new
lent_back old new rest = ap (λ f. record new { failed = f }) (sym (ap (λ (s : State). s.failed) rest))

-- what the reader gives the access gives
pub gives_seen : {V C : Type 0} (content : V → C) (convert : Tree → Option C) (old new : AccessState) (a b : State) (o : Option V) → a ≡ old.reader → new.reader ≡ record b { failed = old.reader.failed } → new.comma_due ≡ (old.comma_due || is_some o)
    → GivesElement content convert (bare a old.comma_due) (bare b (old.comma_due || is_some o)) o → GivesElement content convert old new o
gives_seen content convert old new a b (Some v) same lent comma_due (t, took, is_due, is) =
    let rest = subst (λ s. OnlyRead s b) same took.rest in
    let back : b ≡ new.reader = sym (lent ∙ lent_back old.reader b rest) in
    (t, subst (λ s. TookElement old.comma_due old.reader t s) back (subst (λ s. TookElement old.comma_due s t b) same took), comma_due ∙ is_due, is)
gives_seen content convert old new a b None same lent comma_due (at, is_due) =
    let rest = subst (λ s. OnlyRead s b) same at.rest in
    let back : b ≡ new.reader = sym (lent ∙ lent_back old.reader b rest) in
    (subst (λ s. AtClose square old.comma_due old.reader s) back (subst (λ s. AtClose square old.comma_due s b) same at), comma_due ∙ is_due)

abbrev seen_from : State → ℕ → AccessState
seen_from s start = record { reader = s; start = start; comma_due = false }

-- what was opened is blocked, and seen as it was
pub opened_seen : (b : BracketPair) (old first last : State) (start : ℕ) → Opened b old first → last ≡ record first { failed = true } → seen_from first start ≡ seen_from (record last { failed = false }) start
opened_seen b old first last start o blocked =
    let live : first.failed ≡ false = ap (λ (s : State). s.failed) o.rest ∙ o.live in
    ap (λ s. seen_from s start) (ap (λ f. record first { failed = f }) live ∙ ap (λ (s : State). record s { failed = false }) (sym blocked))

-- ---- how a call refuses

or_some : (o : Option Position) (p : Position) → or_position o p ≢ None
or_some None p e = absurd (cc)
or_some (Some q) p e = absurd (cc)

place_kept : (own e : Error) (p q : Position) → error_position e ≡ or_position (error_position own) p → error_position own ≡ Some q → error_position e ≡ Some q
place_kept own e p q is k = is ∙ ap (λ o. or_position o p) k

-- a fault without a position got the bracket's
at_bracket : (old : AccessState) (own e : Error) → PositionedAtBracket old own e → error_position own ≡ None → IsAtBracket old e
at_bracket old own e p none before starts = p.place ∙ ap (λ o. or_position o p.there) none ∙ ap Some (p.is_there before starts)

-- a call that returned a value
pub answers_call : {V : Type 0} (IsCause : Cause) (asked : Bool) (begins : ℕ → Bool) (ends differs : ErrorCode) (old : AccessState) (new : State) (v : V) → (asked ≡ true → AtEnd old.reader → ⊥) → (asked ≡ true → (w : List ℕ) → AtOther begins old.reader w → ⊥)
    → (old.reader.failed ≡ true → ⊥) → RefusesCall IsCause asked begins ends differs old new (Ok v)
answers_call IsCause asked begins ends differs old new v no_end no_other live = record {
  cause = tt;
  placed = tt;
  ends = λ a at. absurd (no_end a at);
  differs = λ a w at. absurd (no_other a w at);
  unprompted = tt;
  failed = tt;
  before = λ h. absurd (live h);
}

-- a call that was refused
pub refuses_call : {V : Type 0} (IsCause : Cause) (asked : Bool) (begins : ℕ → Bool) (ends differs : ErrorCode) (old : AccessState) (new after : State) (own e : Error) → IsCause own after → (asked ≡ true → AtEnd old.reader → IsPositionless ends own)
    → (asked ≡ true → (w : List ℕ) → AtOther begins old.reader w → IsAfter differs old.reader w own) → (old.reader.failed ≡ false → kind_of own ≢ code codes.Failed) → (old.reader.failed ≡ true → IsPositionless codes.Failed own) → PositionedAtBracket old own e
    → new.failed ≡ true → RefusesCall {V = V} IsCause asked begins ends differs old new (Err e)
refuses_call IsCause asked begins ends differs old new after own e cause at_end at_other other before p failed = record {
  cause = λ live. record { own = own; after = after; cause = cause; placed = p };
  placed = λ none. or_some (error_position own) p.there (sym p.place ∙ none);
  ends = λ a at. let (says, none) = at_end a at in (p.kind ∙ says, at_bracket old own e p none);
  differs = λ a w o. let (says, placed) = at_other a w o in (p.kind ∙ says, λ b split. place_kept own e p.there _ p.place (placed b split));
  unprompted = λ live k. other live (sym p.kind ∙ k);
  failed = failed;
  before = λ h. let (says, none) = before h in (p.kind ∙ says, at_bracket old own e p none);
}

-- ---- an element or the bracket

starts_with_comma : (comma_due : Bool) (x r : List ℕ) (t : Tree) → comma_due ≡ true → IsElement comma_due x t r → IsElement true x t r
starts_with_comma comma_due x r t d e = subst (λ b. IsElement b x t r) d e

end_no_element : {V C : Type 0} (content : V → C) (convert : Tree → Option C) (old new : AccessState) (o : Option V) → old.comma_due ≡ true → AtEnd old.reader → GivesElement content convert old new o → ⊥
end_no_element content convert old new (Some v) d at (t, took, comma_due, is) = let (z, comma, reads) = starts_with_comma old.comma_due old.reader.unread new.reader.unread t d took.element in end_no_sign 0x2C old.reader z comma_solid at comma
end_no_element content convert old new None d at (close, comma_due) = end_goes_nowhere square square_signs old.comma_due false old.reader new.reader d at close

other_no_element : {V C : Type 0} (content : V → C) (convert : Tree → Option C) (old new : AccessState) (o : Option V) (w : List ℕ) → old.comma_due ≡ true → AtOther (is_comma_or_closing square) old.reader w → GivesElement content convert old new o → ⊥
other_no_element content convert old new (Some v) w d at (t, took, comma_due, is) =
    let (z, comma, reads) = starts_with_comma old.comma_due old.reader.unread new.reader.unread t d took.element in other_no_sign 0x2C old.reader w z comma_solid at (or_parts (at.char == 0x2C) (at.char == 0x5D) at.other).0 comma
other_no_element content convert old new None w d at (close, comma_due) = other_goes_nowhere square square_signs old.comma_due false old.reader new.reader w d at close

gives_live : {V C : Type 0} (content : V → C) (convert : Tree → Option C) (old new : AccessState) (o : Option V) → old.reader.failed ≡ true → GivesElement content convert old new o → ⊥
gives_live content convert old new (Some v) h (t, took, comma_due, is) = true_false h took.live
gives_live content convert old new None h (close, comma_due) = true_false h close.live

pub gives_next : {V C : Type 0} (content : V → C) (convert : Tree → Option C) (refuses : State → Error → State → Type 0) (old new : AccessState) (o : Option V) → GivesElement content convert old new o → RefusesNext refuses old new.reader (Ok o)
gives_next content convert refuses old new o gives =
    answers_call _ old.comma_due _ _ _ old new.reader o (λ d at. end_no_element content convert old new o d at gives) (λ d w at. other_no_element content convert old new o w d at gives) (λ h. gives_live content convert old new o h gives)

pub refuses_next : {V : Type 0} (refuses : State → Error → State → Type 0) (old : AccessState) (new after : State) (own e : Error) → RefusesElement refuses old.comma_due old.reader own after → (old.reader.failed ≡ false → kind_of own ≢ code codes.Failed)
    → (old.reader.failed ≡ true → IsPositionless codes.Failed own) → PositionedAtBracket old own e → new.failed ≡ true → RefusesNext {V = V} refuses old new (Err e)
refuses_next refuses old new after own e cause other before p failed =
    refuses_call (RefusesElement refuses old.comma_due old.reader) old.comma_due (is_comma_or_closing square) codes.EofParsingArray codes.ExpectedComma old new after own e cause (λ d at. at_end cause d at) (λ d w o. at_other cause d w o) other before p failed
  where
    at_end : RefusesElement refuses old.comma_due old.reader own after → old.comma_due ≡ true → AtEnd old.reader → IsPositionless codes.EofParsingArray own
    at_end (not_reached f) d at = end_fault (expects_more square old.comma_due) old.reader own at f
    at_end (in_element start there k) d at = absurd (end_goes_nowhere square square_signs old.comma_due true old.reader start d at there)

    at_other : RefusesElement refuses old.comma_due old.reader own after → old.comma_due ≡ true → (w : List ℕ) → AtOther (is_comma_or_closing square) old.reader w → IsAfter codes.ExpectedComma old.reader w own
    at_other (not_reached f) d w o = other_fault (expects_more square old.comma_due) old.reader own w o f
    at_other (in_element start there k) d w o = absurd (other_goes_nowhere square square_signs old.comma_due true old.reader start w d o there)
