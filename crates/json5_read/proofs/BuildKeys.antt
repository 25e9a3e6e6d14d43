-- The steps that keep a key.
use Rattle.std.proofs.Common.{◌≡◌, ℕ, ◌<◌, length, Bool, true, false, cond, List, [], ◌∷◌, ◌++◌, refl, ap, sym, ◌∙◌, subst, inl, inr, Option, Some, None}
use Rattle.std.specs.Prelude.{◌==◌, slice_get, Result, Ok, Err, is_some, not}
use Rattle.std.specs.Str.{all_scalars}
use Rattle.std.proofs.lemmas.Str.{chars-encodes}
use Rattle.json5_grammar.specs.declared.error_code.ErrorCode.{ErrorCode}
use Rattle.json5_grammar.specs.declared.error_code.ErrorCode.TheVariants as codes
use Rattle.json5_grammar.specs.Language.Characters.{NotBegun}
use Rattle.json5_grammar.specs.Faults.Fronts.{of_object, closing}
use Rattle.json5_grammar.specs.Model.Reading.{Read, inner, got, bad, and_then}
use Rattle.json5_grammar.specs.Model.ReadBlanks.{skip, between}
use Rattle.json5_grammar.specs.Model.ReadSteps.{colon_after, key_head, key_at, entry_head, entry_at, next_value, separator}
use Rattle.json5_grammar.specs.Model.ReadTexts.{key, string, identifier}
use Rattle.json5_grammar.specs.Language.Blanks.{Solid}
use Rattle.json5_grammar.specs.Language.Strings.{is_quote}
use Rattle.json5_grammar.proofs.FoundPlaces.{Found}
use Rattle.json5_grammar.proofs.KeysRead.{key_complete}
use Rattle.json5_grammar.proofs.Refusals.{Refuses}
use Rattle.json5_grammar.proofs.ValuesSound.{IsGap, gap_found}
use Rattle.json5_types.specs.declared.error.Error.{Error}
use Rattle.json5_tokens.specs.declared.short_texts.Span.{Span}
use Rattle.json5_tokens.specs.declared.text_token.TextToken.{TextToken}
use Rattle.json5_tokens.specs.declared.text_token.TextToken.TheVariants as token
use Rattle.json5_tokens.specs.Cursor.{Cursor}
use Rattle.json5_types.specs.Errors.{code, kind_of, error_position}
use Rattle.json5_tokens.specs.ShortTexts.{TakesShortKey}
use Rattle.json5_tokens.specs.TokenCalls.{TakesKey}
use Rattle.json5_tokens.specs.TokenFaults.{FaultyKey, at_quote, at_name}
use Rattle.json5_tokens.proofs.UnicodeScalars.{key_scalars}
use Rattle.json5_read.specs.Entries.{entry_front, entry_start, next_entry}
use Rattle.json5_read.specs.OwnedReads.{BlamesOrMemory, Keeps, IsFoundKey, next_key}
use Rattle.json5_read.specs.ModelSteps.{IsInside, RefusesRead, Gave, RefusesToken}
use Rattle.json5_read.proofs.EntryValues.{key_missing, key_string, key_name}
use Rattle.json5_read.proofs.NoFailedCode.{key_lacks}
use Rattle.json5_read.proofs.RestsShorter.{next_shorter}
use Rattle.json5_read.proofs.ShortEntries.{key_spelled}
use Rattle.json5_read.proofs.ModelSteps.{same_of, none_next, some_next, blames_as, blames_made, blames_refused, took_both}
use Rattle.json5_read.proofs.TokenSteps.{string_fault_refuses, name_refuses}
use Rattle.json5_read.proofs.BuildSteps.{takes, not_taken, gave_text}

-- ---- keys

none_from : (o : Option ℕ) (b : Bool) → is_some o ≡ not b → b ≡ true → o ≡ None
none_from None b e is = refl
none_from (Some c) b e is = let clash : true ≡ false = e ∙ ap not is in absurd (cc)

some_from : (o : Option ℕ) (b : Bool) → is_some o ≡ not b → b ≡ false → (c : ℕ) × (o ≡ Some c)
some_from None b e is = let clash : false ≡ true = e ∙ ap not is in absurd (cc)
some_from (Some c) b e is = (c, refl)

-- the input has ended
pub no_key_left : {V : Type 0} {Is : V → List ℕ × Bool → Type 0} (old : Cursor) (next : Option ℕ) (none : Bool) (e : Error) → next ≡ slice_get old.unread 0 → is_some next ≡ not none → none ≡ true → kind_of e ≡ code codes.EofParsingObject → error_position e ≡ None → Keeps Is (key old.unread) old old (Err e)
no_key_left old next none e peeked test is says place =
    not_taken old old (key old.unread) e
    (inr (blames_made old.input (key old.unread) e codes.EofParsingObject inner (ap key (none_next old.unread (sym peeked ∙ none_from next none test is)) ∙ key_missing) (λ e. absurd (cc)) says place))
    refl

key_refuses : (c : ℕ) (r x : List ℕ) (reason : Option ErrorCode) (place : Option (List ℕ)) → x ≡ c ∷ r → FaultyKey x reason place → Refuses (key x) x reason place
key_refuses c r x reason place e (at_quote q y split h f) =
    subst (λ z. Refuses z x reason place) (ap string split ∙ sym (key_string q y h) ∙ ap key (sym split)) (string_fault_refuses q y h x reason place split f)
key_refuses c r x reason place e (at_name h f) =
    subst (λ z. Refuses z x reason place) (ap identifier e ∙ sym (key_name c r (subst (NotBegun is_quote) e h)) ∙ ap key (sym e)) (name_refuses x reason place f)

-- a key was found, or refused
pub key_taken : (old new : Cursor) (next : Option ℕ) (none : Bool) (result : Result TextToken Error) → next ≡ slice_get old.unread 0 → is_some next ≡ not none → none ≡ false → IsInside old → all_scalars old.unread ≡ true → TakesKey old new result
    → Keeps (IsFoundKey old.input) (key old.unread) old new result
key_taken old new next none (Ok k) peeked test is ready scalars t =
    let (s, u, escape_free, took, spelled, same_text) = t.taken in
    takes old new (key old.unread) (u, escape_free) k (same_text, chars-encodes u (key_scalars old.unread new.unread took.split scalars spelled)) (gave_text old new (key old.unread) (u, escape_free) s (ap key took.split ∙ key_complete spelled) took)
key_taken old new next none (Err e) peeked test is ready scalars t = not_taken old new (key old.unread) e (by_cause t.refused) (same_of t.kept)
  where
    by_cause : RefusesToken FaultyKey old e → BlamesOrMemory old.input (key old.unread) e
    by_cause (inl memory) = inl memory.kind
    by_cause (inr f) =
        let (c, found) = some_from next none test is in
        let (r, x) = some_next old.unread c (sym peeked ∙ found) in
        inr (blames_refused old (key old.unread) e ready key_lacks (λ reason place g. key_refuses c r old.unread reason place x g) f)

-- a key without an escape was taken at once
pub key_found : (old new : Cursor) (span : Span) → Solid old.unread → all_scalars old.unread ≡ true → TakesShortKey old new (Some span) → Keeps (IsFoundKey old.input) (key old.unread) old new (Ok (token.EscapeFree span))
key_found old new span solid scalars k =
    let split = key_spelled old.unread k.spelled new.unread solid k.read in
    takes old new (key old.unread) (k.spelled, true) (token.EscapeFree span) ((refl, k.stands), chars-encodes k.spelled (key_scalars old.unread new.unread split scalars k.read.key))
    (gave_text old new (key old.unread) (k.spelled, true) k.read.spelling (ap key split ∙ key_complete k.read.key) (record { split = split; same = k.same }))

-- ---- the next key

abbrev pub key_and_colon : List ℕ × Bool → List ℕ → Read (Option (List ℕ × Bool))
key_and_colon a r = and_then (colon_after r) (λ u y. got (Some a) y)

abbrev pub key_or_end : Bool → List ℕ → Read (Option (List ℕ × Bool))
key_or_end goes y = cond goes (and_then (key y) key_and_colon) (got None y)

head_is : (y : List ℕ) → key_head y ≡ and_then (entry_front of_object y) key_or_end
head_is [] = sym (ap (λ m. and_then m key_and_colon) key_missing)
head_is (c ∷ r) = by_test (c == closing of_object)
  where
    by_test : (b : Bool) → cond b (got None r) (and_then (key (c ∷ r)) key_and_colon) ≡ and_then (cond b (got false r) (got true (c ∷ r))) key_or_end
    by_test true = refl
    by_test false = refl

start_is : (m : Read (Unit {0})) → and_then m (λ u y. key_head y) ≡ and_then (and_then m (λ u y. entry_front of_object y)) key_or_end
start_is (got u y) = head_is y
start_is (bad c p) = refl

key_at_is : (x : List ℕ) → key_at x ≡ and_then (entry_start of_object x) key_or_end
unfolding key_at
key_at_is x = start_is (skip between x)

pub next_is : (comma_due : Bool) (x : List ℕ) → next_key comma_due x ≡ and_then (next_entry of_object comma_due x) key_or_end
next_is false x = key_at_is x
next_is true x = by_comma (separator of_object x)
  where
    by_comma : (m : Read Bool) → and_then m (λ goes y. cond goes (key_at y) (got None y)) ≡ and_then (and_then m (λ more y. cond more (entry_start of_object y) (got false y))) key_or_end
    by_comma (got true y) = key_at_is y
    by_comma (got false y) = refl
    by_comma (bad c p) = refl

module _ (comma_due : Bool) (old : Cursor) where
  -- what comes before the key is refused
  pub entry_refused : (e : Error) → RefusesRead old.input (next_entry of_object comma_due old.unread) e → RefusesRead old.input (next_key comma_due old.unread) e
  entry_refused e b = blames_as old.input old.input (next_entry of_object comma_due old.unread) (next_key comma_due old.unread) e refl (λ c p is. next_is comma_due old.unread ∙ ap (λ m. and_then m key_or_end) is) b

  pub brace_closed : (goes : Bool) (new : Cursor) → goes ≡ false → Gave (next_entry of_object comma_due old.unread) goes old new → Gave (next_key comma_due old.unread) None old new
  brace_closed goes new e g = gave_text old new (next_key comma_due old.unread) None g.taken (next_is comma_due old.unread ∙ ap (λ m. and_then m key_or_end) (g.reads ∙ ap (λ b. got b new.unread) e)) g.took

  module _ (goes : Bool) (mid : Cursor) (is : goes ≡ true) (g : Gave (next_entry of_object comma_due old.unread) goes old mid) where
    key_comes : next_key comma_due old.unread ≡ and_then (key mid.unread) key_and_colon
    key_comes = next_is comma_due old.unread ∙ ap (λ m. and_then m key_or_end) (g.reads ∙ ap (λ b. got b mid.unread) is)

    -- the key is refused, or its colon is
    pub key_refused : (e : Error) → BlamesOrMemory mid.input (key mid.unread) e → BlamesOrMemory old.input (next_key comma_due old.unread) e
    key_refused e (inl memory) = inl memory
    key_refused e (inr b) = inr (blames_as mid.input old.input (key mid.unread) (next_key comma_due old.unread) e g.took.same (λ c p is. key_comes ∙ ap (λ m. and_then m key_and_colon) is) b)

    module _ (last : Cursor) (a : List ℕ × Bool) (k : Gave (key mid.unread) a mid last) where
      pub colon_refused : (e : Error) → RefusesRead last.input (colon_after last.unread) e → RefusesRead old.input (next_key comma_due old.unread) e
      colon_refused e b =
          blames_as last.input old.input (colon_after last.unread) (next_key comma_due old.unread) e (k.took.same ∙ g.took.same)
          (λ c p is. key_comes ∙ ap (λ m. and_then m key_and_colon) k.reads ∙ ap (λ m. and_then m (λ u y. got (Some a) y)) is) b

      pub name_taken : (new : Cursor) (u : Unit {0}) → Gave (colon_after last.unread) u last new → Gave (next_key comma_due old.unread) (Some a) old new
      name_taken new u c =
          gave_text old new (next_key comma_due old.unread) (Some a) (g.taken ++ (k.taken ++ c.taken))
          (key_comes ∙ ap (λ m. and_then m key_and_colon) k.reads ∙ ap (λ m. and_then m (λ u y. got (Some a) y)) c.reads)
          (took_both old mid new g.taken (k.taken ++ c.taken) g.took (took_both mid last new k.taken c.taken k.took c.took))

-- ---- an entry begins with no blank

entry_solid : (x y : List ℕ) → entry_start of_object x ≡ got true y → Solid y
entry_solid x y e = by_gap (skip between x) (gap_found x) e
  where
    front : (z : List ℕ) → Solid z → entry_front of_object z ≡ got true y → Solid y
    front [] s k = let same : [] ≡ y = cc in subst Solid same s
    front (c ∷ r) s k = by_test (c == closing of_object) k
      where
        by_test : (b : Bool) → cond b (got false r) (got true (c ∷ r)) ≡ got true y → Solid y
        by_test true k = absurd (cc)
        by_test false k = let same : c ∷ r ≡ y = cc in subst Solid same s

    by_gap : (m : Read (Unit {0})) → Found (IsGap x) x m → and_then m (λ u z. entry_front of_object z) ≡ got true y → Solid y
    by_gap (got u z) g k = front z g.3 k
    by_gap (bad c p) g k = absurd (cc)

pub next_solid : (comma_due goes : Bool) (x y : List ℕ) → next_entry of_object comma_due x ≡ got goes y → goes ≡ true → Solid y
next_solid comma_due goes x y e is = by_due comma_due (e ∙ ap (λ b. got b y) is)
  where
    by_due : (comma_due : Bool) → next_entry of_object comma_due x ≡ got true y → Solid y
    by_due false k = entry_solid x y k
    by_due true k = by_comma (separator of_object x) k
      where
        by_comma : (m : Read Bool) → and_then m (λ more z. cond more (entry_start of_object z) (got false z)) ≡ got true y → Solid y
        by_comma (got true z) k = entry_solid z y k
        by_comma (got false z) k = absurd (cc)
        by_comma (bad c p) k = absurd (cc)

-- ---- a key takes something

-- a key was found
abbrev has_key : Option (List ℕ × Bool) → List ℕ → Read Bool
has_key o y = got (is_some o) y

key_or_value : (m : Read (List ℕ × Bool)) → and_then m (λ a r. and_then (colon_after r) (λ u y. got true y)) ≡ and_then (and_then m (λ a r. and_then (colon_after r) (λ u y. got (Some a) y))) has_key
key_or_value (got a r) = by_colon (colon_after r)
  where
    by_colon : (m : Read (Unit {0})) → and_then m (λ u y. got true y) ≡ and_then (and_then m (λ u y. got (Some a) y)) has_key
    by_colon (got u y) = refl
    by_colon (bad e p) = refl
key_or_value (bad e p) = refl

head_or_value : (y : List ℕ) → entry_head of_object y ≡ and_then (key_head y) has_key
head_or_value [] = refl
head_or_value (c ∷ r) = by_test (c == 125)
  where
    by_test : (b : Bool) → cond b (got false r) (and_then (key (c ∷ r)) (λ a r. and_then (colon_after r) (λ u y. got true y))) ≡ and_then (cond b (got None r) (and_then (key (c ∷ r)) (λ a r. and_then (colon_after r) (λ u y. got (Some a) y)))) has_key
    by_test true = refl
    by_test false = key_or_value (key (c ∷ r))

member_or_key : (x : List ℕ) → entry_at of_object x ≡ and_then (key_at x) has_key
unfolding entry_at key_at
member_or_key x = by_gap (skip between x)
  where
    by_gap : (m : Read (Unit {0})) → and_then m (λ u y. entry_head of_object y) ≡ and_then (and_then m (λ u y. key_head y)) has_key
    by_gap (got u y) = head_or_value y
    by_gap (bad e p) = refl

value_or_key : (comma_due : Bool) (x : List ℕ) → next_value of_object comma_due x ≡ and_then (next_key comma_due x) has_key
value_or_key false x = member_or_key x
value_or_key true x = by_comma (separator of_object x)
  where
    by_comma : (m : Read Bool) → and_then m (λ goes y. cond goes (entry_at of_object y) (got false y)) ≡ and_then (and_then m (λ goes y. cond goes (key_at y) (got None y))) has_key
    by_comma (got true y) = member_or_key y
    by_comma (got false y) = refl
    by_comma (bad e p) = refl

pub key_shorter : (comma_due : Bool) (o : Option (List ℕ × Bool)) (x r : List ℕ) → next_key comma_due x ≡ got o r → comma_due ≡ true → length r < length x
key_shorter comma_due o x r e is = next_shorter of_object comma_due (is_some o) x r (value_or_key comma_due x ∙ ap (λ m. and_then m has_key) e) is
