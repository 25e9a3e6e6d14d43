-- What a call of an access to an object means, from what its reader read.
use Rattle.std.proofs.Common.{◌≡◌, ◌<◌, ℕ, true, false, Bool, refl, sym, ◌∙◌, subst, length, Option, Some, None, Ok, Err}
use Rattle.json5_read.specs.Brackets.{curly}
use Rattle.json5_read.specs.Offsets.{StartsAfter, PositionedAt}
use Rattle.std.specs.Prelude.{is_some, IfSome}
use Rattle.json5_grammar.specs.Language.Trees.{Tree}
use Rattle.json5_grammar.proofs.ObjectsRead.{key_shorter, key_value_shorter}
use Rattle.json5_types.specs.declared.error.Error.{Error}
use Rattle.json5_de.specs.State.{State, SameText}
use Rattle.json5_de.specs.Keys.{KeyConversion}
use Rattle.json5_de.specs.KeyPlaces.{KeyBeginsAs}
use Rattle.json5_de.specs.DeserializeLaw.{Steady}
use Rattle.json5_de.specs.Arrays.{bare, CompletesClose, PositionedAtBracket}
use Rattle.json5_de.specs.Objects.{MapAccessState, bare_map, GivesMemberKey, GivesMemberValue, CompletesMemberKey, CompletesMemberValue}
use Rattle.json5_de.specs.ObjectFaults.{RefusesMemberKey, RefusesMemberValue}
use Rattle.json5_de.specs.Lending.{map_state_of, blocking_map, KeepsMap, ReadsNextKey, ReadsNextValue}
use Rattle.json5_de.specs.Stages.{is_comma_due, is_pending, with_key}
use Rattle.json5_de.specs.declared.map.MapAccess.{MapAccess}
use Rattle.json5_de.specs.declared.stage.AccessStage.{AccessStage}
use Rattle.json5_de.specs.declared.stage.AccessStage.TheVariants as stages
use Rattle.json5_de.proofs.StagesPassed.{comma_after_key, key_after_key}
use Rattle.json5_de.proofs.ObjectMembers.{reads_a_key, reads_pair_key, leaves_a_value, reads_a_pair, reads_pair_value, leaves_pairs}
use Rattle.json5_de.proofs.MemberRefusals.{gives_key_seen, gives_next_key, refuses_next_key, gives_value_seen, gives_next_value, refuses_next_value}

-- the access with its reader in this state
abbrev pub lent : {I : Type 0} → MapAccess I → State → MapAccess I
lent m after = record m { de = record m.de { now = after } }

-- the same, and its key begins after so many bytes
abbrev pub lent_at : {I : Type 0} → MapAccess I → State → ℕ → MapAccess I
lent_at m after start = record m { de = record m.de { now = after }; key_start = start }

-- and at this stage
abbrev pub at_stage : {I : Type 0} → MapAccess I → AccessStage → MapAccess I
at_stage m stage = record m { progress = record m.progress { stage = stage } }

kept : {I : Type 0} (old : MapAccess I) (after : State) (start : ℕ) (stage : AccessStage) (failed : Bool) → SameText (map_state_of old).at.reader after → KeepsMap old (at_stage (blocking_map (lent_at old after start) failed) stage)
kept old after start stage failed same = record { same_reference = refl; blocks = refl; start = refl; same_text = same }

module _ {I K C : Type 0} (content : K → C) (convert : KeyConversion C) (refuses : State → Error → State → Type 0) (old : MapAccess I) (no_key : is_pending old.progress.stage ≡ false) where
  shorter : (new : MapAccessState) (o : Option K) → GivesMemberKey content convert (map_state_of old) new o → IfSome o (λ k. length new.at.reader.unread < length (map_state_of old).at.reader.unread)
  shorter new (Some k) (u, escape_free, took, is, comma_due, pending) = key_shorter (is_comma_due old.progress.stage) (map_state_of old).at.reader.unread new.at.reader.unread u escape_free took.key
  shorter new None gives = tt

  -- a key was read, or the brace is next
  pub key_given : (after : State) (start : ℕ) (new : MapAccess I) (some : Bool) (o : Option K) → new ≡ blocking_map (lent_at old after start) old.progress.failed → some ≡ is_some o → SameText (map_state_of old).at.reader after
      → IfSome o (λ k. KeyBeginsAs convert (content k) start after.input after.unread)
      → GivesMemberKey content convert (bare_map (map_state_of old).at.reader (is_comma_due old.progress.stage) false) (bare_map after (is_comma_due old.progress.stage) (is_some o)) o → ReadsNextKey content convert refuses old (at_stage new (with_key new.progress.stage some)) (Ok o)
  key_given after start new some o same is text begins inner =
      let last = at_stage (blocking_map (lent_at old after start) old.progress.failed) (with_key old.progress.stage some) in
      let pending = key_after_key old.progress.stage some no_key ∙ is in
      let gives = gives_key_seen content convert (map_state_of old) (map_state_of last) (map_state_of old).at.reader after o refl refl (comma_after_key old.progress.stage some) pending inner in
      subst (λ m. ReadsNextKey content convert refuses old (at_stage m (with_key m.progress.stage some)) (Ok o)) (sym same) (record {
        access = kept old after start (with_key old.progress.stage some) old.progress.failed text;
        pending = record { given = pending; kept = tt };
        sound = gives;
        complete = reads_pair_key content convert (map_state_of old) (map_state_of last) o gives;
        closing = λ r live close. refl;
        shorter = shorter (map_state_of last) o gives;
        refused = gives_next_key content convert refuses (map_state_of old) (map_state_of last) o gives;
        begins = begins;
        read = reads_a_key content convert (map_state_of old) (map_state_of last) o gives;
        left = leaves_a_value content convert (map_state_of old) (map_state_of last) (Ok o) no_key gives (λ u escape_free r k live key is. tt) (λ r live close. refl);
      })

  -- the call for one was refused
  pub key_refused : (after : State) (start : ℕ) (new : MapAccess I) (own e : Error) → new ≡ blocking_map (lent_at old after start) true → PositionedAtBracket (map_state_of (lent old after)).at own e → RefusesMemberKey refuses (is_comma_due old.progress.stage) (map_state_of old).at.reader own after
      → Steady {V = Option K} (map_state_of old).at.reader after (Err own) → CompletesMemberKey {V = Option K} convert (bare_map (map_state_of old).at.reader (is_comma_due old.progress.stage) false) (Err own)
      → CompletesClose {V = Option K} curly (bare (map_state_of old).at.reader (is_comma_due old.progress.stage)) (Err own) → ReadsNextKey content convert refuses old new (Err e)
  key_refused after start new own e same placed cause steady complete closing =
      let last = blocking_map (lent_at old after start) true in
      let at = subst (λ x. PositionedAt (StartsAfter x old.progress.start) own e) steady.same_text placed in
      subst (λ m. ReadsNextKey content convert refuses old m (Err e)) (sym same) (record {
        access = kept old after start old.progress.stage true steady.same_text;
        pending = record { given = tt; kept = refl };
        sound = tt;
        complete = λ u escape_free r k live key is. placed.kind ∙ complete u escape_free r k live key is;
        closing = closing;
        shorter = tt;
        refused = refuses_next_key refuses (map_state_of old) (map_state_of last).at.reader after own e cause steady.unprompted steady.before at refl;
        begins = tt;
        read = tt;
        left = leaves_a_value content convert (map_state_of old) (map_state_of last) (Err e) no_key tt (λ u escape_free r k live key is. placed.kind ∙ complete u escape_free r k live key is) closing;
      })

module _ {I V C : Type 0} (content : V → C) (convert : Tree → Option C) (refuses : State → Error → State → Type 0) (old : MapAccess I) (key : is_pending old.progress.stage ≡ true) where
  -- a value was read
  pub value_given : (after : State) (new : MapAccess I) (v : V) → new ≡ blocking_map (lent old after) old.progress.failed → SameText (map_state_of old).at.reader after
      → GivesMemberValue content convert (bare_map (map_state_of old).at.reader false true) (bare_map after true false) v → ReadsNextValue content convert refuses old (at_stage new stages.Started) (Ok v)
  value_given after new v same text inner =
      let last = at_stage (blocking_map (lent old after) old.progress.failed) stages.Started in
      let gives = gives_value_seen content convert (map_state_of old) (map_state_of last) (map_state_of old).at.reader after v refl refl refl refl inner in
      let (t, took, is, comma_due, pending) = gives in
      subst (λ m. ReadsNextValue content convert refuses old (at_stage m stages.Started) (Ok v)) (sym same) (record {
        access = kept old after old.key_start stages.Started old.progress.failed text;
        pending = record { given = refl; kept = tt };
        sound = gives;
        complete = reads_pair_value content convert (map_state_of old) (map_state_of last) v gives;
        shorter = key_value_shorter (map_state_of old).at.reader.unread after.unread t took.value;
        refused = gives_next_value content convert refuses (map_state_of old) (map_state_of last) v gives;
        read = reads_a_pair content convert (map_state_of old) (map_state_of last) v gives;
        left = leaves_pairs content convert (map_state_of old) (map_state_of last) (Ok v) key gives (λ u r k live value shallow is. tt);
      })

  -- the call for it was refused
  pub value_refused : (after : State) (new : MapAccess I) (own e : Error) → new ≡ blocking_map (lent old after) true → PositionedAtBracket (map_state_of (lent old after)).at own e → RefusesMemberValue refuses (map_state_of old).at.reader own after
      → Steady {V = V} (map_state_of old).at.reader after (Err own) → CompletesMemberValue {V = V} convert (bare_map (map_state_of old).at.reader false true) (Err own) → ReadsNextValue content convert refuses old new (Err e)
  value_refused after new own e same placed cause steady complete =
      let last = blocking_map (lent old after) true in
      let at = subst (λ x. PositionedAt (StartsAfter x old.progress.start) own e) steady.same_text placed in
      subst (λ m. ReadsNextValue content convert refuses old m (Err e)) (sym same) (record {
        access = kept old after old.key_start old.progress.stage true steady.same_text;
        pending = record { given = tt; kept = refl };
        sound = tt;
        complete = λ t r c live value shallow is. placed.kind ∙ complete t r c live value shallow is;
        shorter = tt;
        refused = refuses_next_value refuses (map_state_of old) (map_state_of last).at.reader after own e cause steady.unprompted steady.before at refl;
        read = tt;
        left = leaves_pairs content convert (map_state_of old) (map_state_of last) (Err e) key tt (λ t r c live value shallow is. placed.kind ∙ complete t r c live value shallow is);
      })
