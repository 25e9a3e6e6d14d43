-- What a call of an access to an array means, from what its reader read.
use Rattle.std.proofs.Common.{◌≡◌, ◌<◌, true, Bool, refl, sym, ap, ◌∙◌, subst, length, Option, Some, None, Ok, Err}
use Rattle.json5_read.specs.Brackets.{square}
use Rattle.json5_read.specs.Offsets.{StartsAfter, PositionedAt}
use Rattle.std.specs.Prelude.{◌||◌, is_some, IfSome}
use Rattle.json5_grammar.specs.Language.Trees.{Tree}
use Rattle.json5_grammar.proofs.ArraysPartlyRead.{element_shorter}
use Rattle.json5_types.specs.declared.error.Error.{Error}
use Rattle.json5_de.specs.State.{State, SameText}
use Rattle.json5_de.specs.DeserializeLaw.{Steady}
use Rattle.json5_de.specs.Arrays.{AccessState, bare, GivesElement, CompletesElement, CompletesClose, PositionedAtBracket}
use Rattle.json5_de.specs.AccessCalls.{RefusesElement}
use Rattle.json5_de.specs.Lending.{state_of, blocking, KeepsAccess, ReadsNext}
use Rattle.json5_de.specs.Stages.{is_comma_due, with_element}
use Rattle.json5_de.specs.declared.seq.SeqAccess.{SeqAccess}
use Rattle.json5_de.specs.declared.stage.AccessStage.{AccessStage}
use Rattle.json5_de.proofs.StagesPassed.{comma_after_member}
use Rattle.json5_de.proofs.ArrayElements.{reads_element, reads_more, leaves_fewer}
use Rattle.json5_de.proofs.AccessCalls.{gives_seen, gives_next, refuses_next}

-- the access with its reader in this state
abbrev pub lent : {I : Type 0} → SeqAccess I → State → SeqAccess I
lent s after = record s { de = record s.de { now = after } }

-- and at this stage
abbrev pub at_stage : {I : Type 0} → SeqAccess I → AccessStage → SeqAccess I
at_stage s stage = record s { progress = record s.progress { stage = stage } }

kept : {I : Type 0} (old : SeqAccess I) (after : State) (stage : AccessStage) (failed : Bool) → SameText (state_of old).reader after → KeepsAccess old (at_stage (blocking (lent old after) failed) stage)
kept old after stage failed same = record { same_reference = refl; blocks = refl; start = refl; same_text = same }

module _ {I V C : Type 0} (content : V → C) (convert : Tree → Option C) (refuses : State → Error → State → Type 0) (old : SeqAccess I) where
  shorter : (new : AccessState) (o : Option V) → GivesElement content convert (state_of old) new o → IfSome o (λ v. length new.reader.unread < length (state_of old).reader.unread)
  shorter new (Some v) (t, took, comma_due, is) = element_shorter (state_of old).comma_due (state_of old).reader.unread new.reader.unread t took.element
  shorter new None gives = tt

  given : (new : SeqAccess I) (o : Option V) → KeepsAccess old new → GivesElement content convert (state_of old) (state_of new) o → ReadsNext content convert refuses old new (Ok o)
  given new o access gives = record {
    access = access;
    sound = gives;
    complete = reads_element content convert (state_of old) (state_of new) o gives;
    closing = λ r live close. refl;
    shorter = shorter (state_of new) o gives;
    refused = gives_next content convert refuses (state_of old) (state_of new) o gives;
    read = reads_more content convert (state_of old) (state_of new) o gives;
    left = leaves_fewer content convert (state_of old) (state_of new) (Ok o) gives (λ t r c live element shallow is. tt) (λ r live close. refl);
  }

  -- an element was read, or the bracket is next
  pub next_given : (after : State) (new : SeqAccess I) (some : Bool) (o : Option V) → new ≡ blocking (lent old after) old.progress.failed → some ≡ is_some o → SameText (state_of old).reader after
      → GivesElement content convert (bare (state_of old).reader (is_comma_due old.progress.stage)) (bare after (is_comma_due old.progress.stage || is_some o)) o → ReadsNext content convert refuses old (at_stage new (with_element new.progress.stage some)) (Ok o)
  next_given after new some o same is text gives =
      let last = at_stage (blocking (lent old after) old.progress.failed) (with_element old.progress.stage some) in
      let comma_due = comma_after_member old.progress.stage some ∙ ap (λ b. is_comma_due old.progress.stage || b) is in
      subst (λ s. ReadsNext content convert refuses old (at_stage s (with_element s.progress.stage some)) (Ok o)) (sym same)
      (given last o (kept old after (with_element old.progress.stage some) old.progress.failed text) (gives_seen content convert (state_of old) (state_of last) (state_of old).reader after o refl refl comma_due gives))

  -- the call was refused
  pub next_refused : (after : State) (new : SeqAccess I) (own e : Error) → new ≡ blocking (lent old after) true → PositionedAtBracket (state_of (lent old after)) own e → RefusesElement refuses (is_comma_due old.progress.stage) (state_of old).reader own after → Steady {V = Option V} (state_of old).reader after (Err own)
      → CompletesElement {V = Option V} convert (bare (state_of old).reader (is_comma_due old.progress.stage)) (Err own) → CompletesClose {V = Option V} square (bare (state_of old).reader (is_comma_due old.progress.stage)) (Err own) → ReadsNext content convert refuses old new (Err e)
  next_refused after new own e same placed cause steady complete closing =
      let last = blocking (lent old after) true in
      let at = subst (λ x. PositionedAt (StartsAfter x old.progress.start) own e) steady.same_text placed in
      subst (λ s. ReadsNext content convert refuses old s (Err e)) (sym same) (record {
        access = kept old after old.progress.stage true steady.same_text;
        sound = tt;
        complete = λ t r c live element shallow is. placed.kind ∙ complete t r c live element shallow is;
        closing = closing;
        shorter = tt;
        refused = refuses_next refuses (state_of old) (state_of last).reader after own e cause steady.unprompted steady.before at refl;
        read = tt;
        left = leaves_fewer content convert (state_of old) (state_of last) (Err e) tt (λ t r c live element shallow is. placed.kind ∙ complete t r c live element shallow is) closing;
      })
