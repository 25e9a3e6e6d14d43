-- A gap and a token together make one value that was read.
use Rattle.std.proofs.Common.{◌≡◌, ℕ, Bool, false, List, [], ◌∷◌, ◌++◌, refl, ap, sym, ◌∙◌, subst, ◌⊎◌, inl, inr, Option, Some, arith}
use Rattle.json5_grammar.specs.declared.error_code.ErrorCode.{ErrorCode}
use Rattle.json5_grammar.specs.Language.Blanks.{Blanks, Gap}
use Rattle.json5_grammar.specs.Language.Trees.{Tree, depth}
use Rattle.json5_grammar.specs.Language.Values.{Val, Stops, null_text, true_text, false_text}
use Rattle.std.specs.Prelude.{◌==◌, slice_get, if◌then◌else◌}
use Rattle.std.specs.Option.{option_eq}
use Rattle.json5_grammar.specs.declared.error_code.ErrorCode.TheVariants as codes_of
use Rattle.json5_grammar.proofs.BlanksSound.{gap_blanks}
use Rattle.json5_grammar.proofs.ValueHeads.{val_head}
use Rattle.json5_types.specs.declared.error.Error.{Error}
use Rattle.json5_tokens.specs.Cursor.{Took, Refused}
use Rattle.json5_types.specs.Errors.{LacksMemory}
use Rattle.json5_tokens.specs.TokenFaults.{FaultyBlanks, FaultyWord}
use Rattle.json5_read.proofs.FoundEntries.{refused_blanks as refused_in_blanks, refused_gap}
use Rattle.json5_de.specs.State.{State, cursor_of}
use Rattle.json5_de.specs.DeserializeLaw.{TookValue}
use Rattle.json5_de.specs.Faults.{RefusedBy, RefusedByOrMemory, FaultyBool, begins_with}
use Rattle.json5_read.specs.EntryFaults.{FaultRelation}
use Rattle.json5_de.specs.ReaderSteps.{PassedGap, TookText}

-- a gap before a value is of blanks
pub value_gap : {s : List ℕ} {t : Tree} (w x r : List ℕ) → Val s t → Gap w x → x ≡ s ++ r → Blanks w
value_gap w x r v g e =
    let head = val_head v in
    gap_blanks head.char (head.more ++ r) (subst (Gap w) (e ∙ ap (λ z. z ++ r) head.is) g)

-- a value that is no collection was read after the blanks
pub took_leaf : (old mid new : State) (s : List ℕ) (t : Tree) → depth t ≡ 0 → PassedGap old mid → TookText mid s new → Val s t → Stops s new.unread → TookValue old t new
took_leaf old mid new s t flat p k v stops = record {
  live = p.live;
  reads = record {
    front = p.gap;
    phrase = s;
    split = p.split ∙ ap (λ y. p.gap ++ y) k.split;
    blank = value_gap p.gap mid.unread new.unread v p.is_gap k.split;
    value = v;
    stops = stops;
  };
  shallow = let room = p.shallow in rw flat (omega arith);
  rest = k.rest ∙ ap (λ (m : State). record m { unread = new.unread }) p.rest;
}

pub input_of : {s t : State} → s ≡ t → s.input ≡ t.input
input_of e = ap (λ (s : State). s.input) e

-- characters were taken from the scanner
pub took_of : (old new : State) (w : List ℕ) → TookText old w new → Took (cursor_of old) w (cursor_of new)
took_of old new w took = record { split = took.split; same = input_of took.rest }

pub refused_blanks : {F : FaultRelation} (old : State) (e : Error) → (old.failed ≡ false → Refused FaultyBlanks (cursor_of old) e) → RefusedBy F old e
refused_blanks old e k live = refused_in_blanks (cursor_of old) e (k live)

pub refused_token : {F : FaultRelation} (old mid : State) (e : Error) → PassedGap old mid → Refused F (cursor_of mid) e → RefusedBy F old e
refused_token old mid e p f live = refused_gap (cursor_of old) (cursor_of mid) e (p.gap, record { split = p.split; same = input_of p.rest }, p.is_gap, p.solid) (λ reason place k. k) f

pub null_stops : (r : List ℕ) → Stops null_text r
null_stops [] = tt
null_stops (c ∷ r) = refl

pub true_stops : (r : List ℕ) → Stops true_text r
true_stops [] = tt
true_stops (c ∷ r) = refl

pub false_stops : (r : List ℕ) → Stops false_text r
false_stops [] = tt
false_stops (c ∷ r) = refl

first_is : (c : ℕ) (x : List ℕ) → option_eq ◌==◌ (slice_get x 0) (Some c) ≡ begins_with c x
first_is c [] = refl
first_is c (d ∷ x) = refl

pub refused_bool : (s : State) (e : Error) (w : List ℕ) (b is : Bool) (next : Option ℕ) → is ≡ b → is ≡ option_eq ◌==◌ next (Some 0x66) → next ≡ slice_get s.unread 0 → w ≡ (if b then false_text else true_text)
    → Refused (FaultyWord w codes_of.EofParsingBool codes_of.ExpectedBool) (cursor_of s) e → Refused FaultyBool (cursor_of s) e
refused_bool s e w b is next test equal peeked word f =
    let begun : begins_with 0x66 s.unread ≡ b = sym (first_is 0x66 s.unread) ∙ ap (λ o. option_eq ◌==◌ o (Some 0x66)) (sym peeked) ∙ sym equal ∙ test in
    record {
      reason = f.reason;
      place = f.place;
      fault = subst (λ v. FaultyWord (if v then false_text else true_text) codes_of.EofParsingBool codes_of.ExpectedBool s.unread f.reason f.place) (sym begun)
          (subst (λ v. FaultyWord v codes_of.EofParsingBool codes_of.ExpectedBool s.unread f.reason f.place) word f.fault);
      says = f.says;
      placed = f.placed;
    }

pub refused_by : {F G : List ℕ → Option ErrorCode → Option (List ℕ) → Type 0} (s : State) (e : Error) → ((x : List ℕ) (reason : Option ErrorCode) (place : Option (List ℕ)) → F x reason place → G x reason place)
    → Refused F (cursor_of s) e → Refused G (cursor_of s) e
refused_by s e wider f = record { reason = f.reason; place = f.place; fault = wider s.unread f.reason f.place f.fault; says = f.says; placed = f.placed }

-- the token's own refusal
pub refused_or_memory : {F G : List ℕ → Option ErrorCode → Option (List ℕ) → Type 0} (old mid : State) (e : Error) → ((x : List ℕ) (reason : Option ErrorCode) (place : Option (List ℕ)) → F x reason place → G x reason place)
    → PassedGap old mid → LacksMemory e ⊎ Refused F (cursor_of mid) e → RefusedByOrMemory G old e
refused_or_memory old mid e wider p (inl m) = inl m
refused_or_memory old mid e wider p (inr f) = inr (refused_token old mid e p (refused_by mid e wider f))
