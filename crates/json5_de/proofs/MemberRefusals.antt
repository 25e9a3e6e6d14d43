-- How a key and its value begin, and how they are refused.
use Rattle.std.proofs.Common.{◌≡◌, ◌≢◌, ℕ, Bool, true, false, List, [], ◌∷◌, ◌++◌, length, refl, ap, sym, ◌∙◌, subst, arith, Option, Some, None, Ok, Err}
use Rattle.std.specs.Prelude.{◌==◌, is_some, Result, IsOk}
use Rattle.std.specs.Str.{encode_utf8_all}
use Rattle.std.proofs.lemmas.Bool.{false≢true, or_parts}
use Rattle.std.proofs.lemmas.Result.{err_from_is_err_and}
use Rattle.json5_grammar.specs.declared.error_code.ErrorCode.{ErrorCode}
use Rattle.json5_grammar.specs.declared.error_code.ErrorCode.TheVariants as codes
use Rattle.json5_grammar.specs.Language.Characters.{NotBegun}
use Rattle.json5_grammar.specs.Language.Blanks.{Blanks, Gap, Solid}
use Rattle.json5_grammar.specs.Language.Trees.{Tree}
use Rattle.json5_grammar.specs.Language.Values.{Reads}
use Rattle.json5_grammar.specs.Model.Collections.{ReadsKey, IsKey, IsKeyValue, NoMemberGoes}
use Rattle.json5_grammar.proofs.CommonLemmas.{first_same, true_false}
use Rattle.json5_grammar.proofs.BlanksRead.{begins_solid}
use Rattle.json5_grammar.proofs.BlanksSound.{one_gap, gap_last, gap_before, gap_blanks}
use Rattle.json5_grammar.proofs.EntriesAfterGaps.{no_sign, no_sign_in_blanks}
use Rattle.json5_grammar.proofs.ValueHeads.{key_head, key_solid}
use Rattle.json5_grammar.proofs.ArraysRead.{comma_solid}
use Rattle.json5_grammar.proofs.ArraysPartlyRead.{after_same_comma, same_sign}
use Rattle.json5_grammar.proofs.ObjectsRead.{colon_solid}
use Rattle.json5_types.specs.declared.error.Error.{Error}
use Rattle.json5_types.specs.Errors.{code, kind_of}
use Rattle.json5_tokens.specs.TextTokens.{IsSliceAt}
use Rattle.json5_tokens.specs.ShortTexts.{IsTextAt}
use Rattle.json5_tokens.specs.declared.short_texts.Span.{Span}
use Rattle.json5_tokens.specs.Cursor.{Refused}
use Rattle.json5_de.specs.Convert.{every_text}
use Rattle.json5_de.specs.KeyKinds.{RefusedAsKey, string_key}
use Rattle.json5_de.specs.State.{State, OnlyRead, SameText, cursor_of}
use Rattle.json5_de.specs.DeserializeLaw.{TookValue}
use Rattle.json5_de.specs.ReaderSteps.{IsCount}
use Rattle.json5_de.specs.Keys.{KeyConversion, TookKey, GivesKey, CompletesKey, CompletesEscapeFreeKey, ReadsKeyOf}
use Rattle.json5_de.specs.FieldKeys.{field_key_text}
use Rattle.json5_de.specs.ShortWays.{filled_if_given}
use Rattle.json5_read.specs.Brackets.{curly}
use Rattle.json5_de.specs.Faults.{RefusedBy, AtEnd, AtOther, IsPositionless, IsAfter}
use Rattle.json5_read.specs.EntryFaults.{AfterBlanks, in_blanks, after_gap, NoNext, no_comma, comma_missing, in_blanks_after, NoColon, no_colon, colon_missing}
use Rattle.json5_de.specs.Arrays.{AtClose, PositionedAtBracket}
use Rattle.json5_read.specs.ModelSteps.{Unexpected, at_end, at_char}
use Rattle.json5_read.specs.Offsets.{StartsAfter}
use Rattle.json5_de.specs.AccessCalls.{IsUnexpected, Advances, AtEntry, NothingNext}
use Rattle.json5_tokens.specs.ShortWays.{AfterGap, StepsTo}
use Rattle.json5_de.specs.Objects.{MapAccessState, bare_map, CompletesEscapeFreeMember, TookMemberKey, AfterColon, TookMemberValue, GivesMemberKey, GivesMemberValue, CompletesMemberKey}
use Rattle.json5_read.proofs.FoundEntries.{refused_gap as after_passed}
use Rattle.json5_read.proofs.NoFailedCode.{other_says}
use Rattle.json5_de.proofs.ShortReads.{kept_key}
use Rattle.json5_de.proofs.Offsets.{placed_where}
use Rattle.json5_de.specs.ObjectFaults.{begins_key, AtKey, NoKeyHere, no_key, key_missing, NoKey, no_next, not_here, not_after_comma, PositionedAtKey, at_key, as_it_is, PositionsKey, RefusesMemberKey, not_reached, in_key, ReadsKeyOfMember, begins_next_key, no_key_code, RefusesNextKey, is_colon, RefusesMemberValue, no_value, in_value, RefusesNextValue}
use Rattle.json5_de.proofs.ExpectedKinds.{Expected, end_fault, other_fault}
use Rattle.json5_de.proofs.ReadSteps.{input_of}
use Rattle.json5_de.proofs.RefusalPositions.{refused_as, refused_after}
use Rattle.json5_de.proofs.Options.{not_nil}
use Rattle.json5_de.proofs.BracketSteps.{only_read, level_of, failed_of, no_close_found}
use Rattle.json5_de.proofs.EntryCodes.{expects_more, end_no_sign, other_no_sign, end_no_close, other_no_close}
use Rattle.json5_de.proofs.AccessCalls.{lent_back, answers_call, refuses_call}
use Rattle.json5_de.proofs.ObjectMembers.{curly_signs}

-- ---- where a key begins

key_gap : (x r u : List ℕ) (p : Bool) → ReadsKey x u p r → (y : List ℕ) × AfterGap x y
key_gap x r u p k = (k.spelling ++ r, record { gap = k.front; split = k.split; is_gap = Gap.blanks k.blank; solid = key_solid r (key_head k.key) })

-- a key that follows the gap begins there
key_at : (x y r u : List ℕ) (p : Bool) → AfterGap x y → (k : ReadsKey x u p r) → y ≡ k.spelling ++ r
key_at x y r u p g k = (one_gap k.front (k.spelling ++ r) g.gap y (Gap.blanks k.blank) (key_solid r (key_head k.key)) g.is_gap g.solid (sym k.split ∙ g.split)).1

no_gap : (y : List ℕ) → Solid y → AfterGap y y
no_gap y solid = record { gap = []; split = refl; is_gap = Gap.blanks Blanks.empty; solid = solid }

key_here : (x y r u : List ℕ) (p : Bool) → AfterGap x y → ReadsKey x u p r → ReadsKey y u p r
key_here x y r u p g k = record { front = []; spelling = k.spelling; split = key_at x y r u p g k; blank = Blanks.empty; key = k.key }

-- and one that is read there is read after the gap
pub key_there : (x y r u : List ℕ) (p : Bool) → AfterGap x y → ReadsKey y u p r → ReadsKey x u p r
key_there x y r u p g k =
    let at = key_at y y r u p (no_gap y g.solid) k in
    let head = key_head k.key in
    record {
      front = g.gap;
      spelling = k.spelling;
      split = g.split ∙ ap (λ z. g.gap ++ z) at;
      blank = gap_blanks head.char (head.more ++ r) (subst (Gap g.gap) (at ∙ ap (λ z. z ++ r) head.is) g.is_gap);
      key = k.key;
    }

-- the same after the comma that is due
pub pair_key_found : (comma_due : Bool) (x y r u : List ℕ) (p : Bool) → StepsTo comma_due x y → IsKey comma_due x u p r → ReadsKey y u p r
pair_key_found false x y r u p g k = key_here x y r u p g k
pair_key_found true x y r u p (z, comma, g) (w, other, k) = key_here z y r u p g (after_same_comma (λ q. ReadsKey q u p r) x z w comma other k)

pair_key_read : (comma_due : Bool) (x y r u : List ℕ) (p : Bool) → StepsTo comma_due x y → ReadsKey y u p r → IsKey comma_due x u p r
pair_key_read false x y r u p g k = key_there x y r u p g k
pair_key_read true x y r u p (z, comma, g) k = (z, comma, key_there z y r u p g k)

pub took_pair_key : (comma_due : Bool) (s mid last : State) (u : List ℕ) (p : Bool) → AtKey comma_due s mid → TookKey mid u p last → TookMemberKey comma_due s u p last
took_pair_key comma_due s mid last u p at took = record {
  live = at.entry.live;
  key = pair_key_read comma_due s.unread mid.unread last.unread u p at.entry.begun took.reads;
  rest = only_read s mid last at.entry.rest took.rest;
}

pub begun_solid : (comma_due : Bool) (x y : List ℕ) → StepsTo comma_due x y → Solid y
begun_solid false x y g = g.solid
begun_solid true x y (z, comma, g) = g.solid

pub no_key_begun : (y r u : List ℕ) (p : Bool) → Solid y → NotBegun begins_key y → ReadsKey y u p r → ⊥
no_key_begun y r u p solid n k =
    let at = key_at y y r u p (no_gap y solid) k in
    let head = key_head k.key in
    true_false head.begins (subst (NotBegun begins_key) (at ∙ ap (λ z. z ++ r) head.is) n)

-- if no member may begin, no key and no brace follows
pub no_pair_next : (comma_due : Bool) (x : List ℕ) → NothingNext curly comma_due x → NoMemberGoes comma_due x
no_pair_next comma_due x n = record { no_key = λ u p r k. by comma_due u p r n k; no_brace = n.no_close }
  where
    by : (comma_due : Bool) (u : List ℕ) (p : Bool) (r : List ℕ) → NothingNext curly comma_due x → IsKey comma_due x u p r → ⊥
    by false u p r n k = let (y, g) = key_gap x r u p k in n.no_entry y g
    by true u p r n (z, comma, k) = let (y, g) = key_gap z r u p k in n.no_entry y (z, comma, g)

-- nor where neither a key nor the brace begins
pub no_pair_here : (comma_due : Bool) (x y : List ℕ) → StepsTo comma_due x y → NotBegun (λ c. c == 125) y → NotBegun begins_key y → NoMemberGoes comma_due x
no_pair_here comma_due x y begun n none = record {
  no_key = λ u p r k. no_key_begun y r u p (begun_solid comma_due x y begun) none (pair_key_found comma_due x y r u p begun k);
  no_brace = λ r c. no_close_found curly curly_signs comma_due x y r begun n c;
}

-- ---- what is refused where a key is expected

after_wider : {F G : List ℕ → Option ErrorCode → Option (List ℕ) → Type 0} (x : List ℕ) (reason : Option ErrorCode) (place : Option (List ℕ)) → ((x : List ℕ) (reason : Option ErrorCode) (place : Option (List ℕ)) → F x reason place → G x reason place)
    → AfterBlanks F x reason place → AfterBlanks G x reason place
after_wider x reason place h (in_blanks k) = in_blanks k
after_wider x reason place h (after_gap {x = y} {place = p} g s k) = after_gap g s (h y reason p k)

-- no member was reached
pub refused_next_key : (comma_due : Bool) (s : State) (e : Error) → RefusedBy (NoNext curly comma_due) s e → RefusedBy (NoKey comma_due) s e
refused_next_key comma_due s e f live = let f = f live in record { reason = f.reason; place = f.place; fault = after_wider s.unread f.reason f.place (λ x reason place k. no_next k) f.fault; says = f.says; placed = f.placed }

-- a fault after the gap
refused_gap : {F : List ℕ → Option ErrorCode → Option (List ℕ) → Type 0} (old mid : State) (e : Error) → AfterGap old.unread mid.unread → SameText old mid → Refused F (cursor_of mid) e → Refused (AfterBlanks F) (cursor_of old) e
refused_gap old mid e g same f = after_passed (cursor_of old) (cursor_of mid) e (g.gap, record { split = g.split; same = same }, g.is_gap, g.solid) (λ reason place k. k) f

no_key_here : (x : List ℕ) (reason : Option ErrorCode) (place : Option (List ℕ)) → NotBegun begins_key x → NotBegun (λ c. c == 125) x → Unexpected codes.EofParsingObject codes.ExpectedIdentifier x reason place → NoKeyHere x reason place
no_key_here x reason place n m at_end = key_missing
no_key_here x reason place n m (at_char c r) = no_key c r n m

-- where a member was reached, and no key begins it
pub refused_key_here : (comma_due : Bool) (s mid : State) (e : Error) → AtEntry curly comma_due s mid → NotBegun begins_key mid.unread → Refused (Unexpected codes.EofParsingObject codes.ExpectedIdentifier) (cursor_of mid) e → RefusedBy (NoKey comma_due) s e
refused_key_here comma_due s mid e at n f live = by comma_due at.begun
  where
    here : Refused NoKeyHere (cursor_of mid) e
    here = refused_as mid mid e refl (λ reason place k. no_key_here mid.unread reason place n at.inside k) f

    by : (comma_due : Bool) → StepsTo comma_due s.unread mid.unread → Refused (AfterBlanks (NoKey comma_due)) (cursor_of s) e
    by false g = refused_gap s mid e g (input_of at.rest) (refused_as mid mid e refl (λ reason place k. not_here refl k) here)
    by true (z, comma, g) =
        let next : State = record s { unread = z } in
        let at_comma : State = record s { unread = 0x2C ∷ z } in
        refused_gap s at_comma e (record { gap = comma.front; split = comma.split; is_gap = Gap.blanks comma.blank; solid = begins_solid 0x2C z comma_solid }) refl
        (refused_after at_comma next e (0x2C ∷ []) (record { split = refl; rest = refl }) (λ reason place k. not_after_comma refl k) (refused_gap next mid e g (input_of at.rest) here))

-- ---- the codes of what is refused there

next_due : {x : List ℕ} {reason : Option ErrorCode} {place : Option (List ℕ)} (comma_due : Bool) → NoNext curly comma_due x reason place → comma_due ≡ true
next_due comma_due (no_comma c r d n m) = d
next_due comma_due (comma_missing d) = d
next_due comma_due (in_blanks_after d f) = d

expects_key : (comma_due : Bool) → Expected {C = Unit {0}} (NoKey comma_due) (λ t. None) (begins_next_key comma_due) codes.EofParsingObject (no_key_code comma_due)
expects_key comma_due = record {
  at_end = λ reason place f. at_none [] reason place refl f;
  at_other = λ c r reason place h f. at_some comma_due (c ∷ r) c r reason place refl h f;
  no_fault = λ s r t v reason place e k stops f. absurd (cc);
  first = λ s t v e k. absurd (cc);
}
  where
    at_none : (x : List ℕ) (reason : Option ErrorCode) (place : Option (List ℕ)) → x ≡ [] → NoKey comma_due x reason place → (reason ≡ Some codes.EofParsingObject) × (place ≡ None)
    at_none x reason place e (no_next f) = (expects_more curly comma_due).at_end reason place (subst (λ z. NoNext curly comma_due z reason place) e f)
    at_none x reason place e (not_here d (no_key c r n m)) = absurd (cc)
    at_none x reason place e (not_here d key_missing) = (refl, refl)
    at_none x reason place e (not_after_comma d f) = absurd (cc)

    at_some : (comma_due : Bool) (x : List ℕ) (c : ℕ) (r : List ℕ) (reason : Option ErrorCode) (place : Option (List ℕ)) → x ≡ c ∷ r → begins_next_key comma_due c ≡ false → NoKey comma_due x reason place → (reason ≡ Some (no_key_code comma_due)) × (place ≡ Some [])
    at_some true x c r reason place e h (no_next f) = (expects_more curly true).at_other c r reason place h (subst (λ z. NoNext curly true z reason place) e f)
    at_some false x c r reason place e h (no_next f) = absurd (true_false (next_due false f) refl)
    at_some true x c r reason place e h (not_here d f) = absurd (true_false refl d)
    at_some false x c r reason place e h (not_here d (no_key k s n m)) = (refl, refl)
    at_some false x c r reason place e h (not_here d key_missing) = absurd (cc)
    at_some true x c r reason place e h (not_after_comma {x = y} d f) = absurd (true_false {b = true} refl (subst (λ k. begins_next_key true k ≡ false) (sym (first_same 0x2C c y r e)) h))
    at_some false x c r reason place e h (not_after_comma d f) = absurd (true_false d refl)

pub expects_colon : Expected {C = Unit {0}} NoColon (λ t. None) is_colon codes.EofParsingObject codes.ExpectedColon
expects_colon = record {
  at_end = λ reason place f. at_none [] reason place refl f;
  at_other = λ c r reason place h f. at_some (c ∷ r) reason place c r refl f;
  no_fault = λ s r t v reason place e k stops f. absurd (cc);
  first = λ s t v e k. absurd (cc);
}
  where
    at_none : (x : List ℕ) (reason : Option ErrorCode) (place : Option (List ℕ)) → x ≡ [] → NoColon x reason place → (reason ≡ Some codes.EofParsingObject) × (place ≡ None)
    at_none x reason place e (no_colon c r n) = absurd (cc)
    at_none x reason place e colon_missing = (refl, refl)

    at_some : (x : List ℕ) (reason : Option ErrorCode) (place : Option (List ℕ)) (c : ℕ) (r : List ℕ) → x ≡ c ∷ r → NoColon x reason place → (reason ≡ Some codes.ExpectedColon) × (place ≡ Some [])
    at_some x reason place c r e (no_colon d q n) = (refl, refl)
    at_some x reason place c r e colon_missing = absurd (cc)

-- ---- no key follows

end_no_key : (comma_due : Bool) (s : State) (u r : List ℕ) (p : Bool) → AtEnd s → IsKey comma_due s.unread u p r → ⊥
end_no_key true s u r p at (z, comma, k) = end_no_sign 0x2C s z comma_solid at comma
end_no_key false s u r p at k =
    let head = key_head k.key in
    not_nil head.char (head.more ++ r) (k.spelling ++ r) (ap (λ z. z ++ r) head.is) (gap_last s.unread k.front (k.spelling ++ r) at.1 (Gap.blanks k.blank) (key_solid r head) k.split).1

other_no_key : (comma_due : Bool) (s : State) (w u r : List ℕ) (p : Bool) → AtOther (begins_next_key comma_due) s w → IsKey comma_due s.unread u p r → ⊥
other_no_key true s w u r p o (z, comma, k) = other_no_sign 0x2C s w z comma_solid o (or_parts (o.char == 0x2C) (o.char == 125) o.other).0 comma
other_no_key false s w u r p o k =
    let head = key_head k.key in
    let next = (gap_before w k.front (k.spelling ++ r) o.char o.more o.blank o.solid (Gap.blanks k.blank) (key_solid r head) (sym o.split ∙ k.split)).1 in
    let same : head.char ≡ o.char = first_same head.char o.char (head.more ++ r) o.more (sym (ap (λ z. z ++ r) head.is) ∙ next) in
    true_false head.begins (subst (λ c. begins_key c ≡ false) (sym same) (or_parts (begins_key o.char) (o.char == 125) o.other).0)

other_no_brace : (comma_due : Bool) (s : State) (w r : List ℕ) → (o : AtOther (begins_next_key comma_due) s w) → ((o.char == 125) ≡ false) × (comma_due ≡ true → (o.char == 0x2C) ≡ false)
other_no_brace true s w r o = let k = or_parts (o.char == 0x2C) (o.char == 125) o.other in (k.1, λ d. k.0)
other_no_brace false s w r o = let k = or_parts (begins_key o.char) (o.char == 125) o.other in (k.1, λ d. absurd (true_false d refl))

end_at_key : (comma_due : Bool) (s mid : State) → AtEnd s → AtKey comma_due s mid → ⊥
end_at_key comma_due s mid at k = by comma_due k.entry.begun
  where
    by : (comma_due : Bool) → StepsTo comma_due s.unread mid.unread → ⊥
    by true (z, comma, g) = end_no_sign 0x2C s z comma_solid at comma
    by false g = not_nil k.begins.char k.begins.more mid.unread k.begins.split (gap_last s.unread g.gap mid.unread at.1 g.is_gap g.solid g.split).1

other_at_key : (comma_due : Bool) (s mid : State) (w : List ℕ) → AtOther (begins_next_key comma_due) s w → AtKey comma_due s mid → ⊥
other_at_key comma_due s mid w o k = by comma_due k.entry.begun o
  where
    by : (comma_due : Bool) → StepsTo comma_due s.unread mid.unread → AtOther (begins_next_key comma_due) s w → ⊥
    by true (z, comma, g) o = other_no_sign 0x2C s w z comma_solid o (or_parts (o.char == 0x2C) (o.char == 125) o.other).0 comma
    by false g o =
        let next = (gap_before w g.gap mid.unread o.char o.more o.blank o.solid g.is_gap g.solid (sym o.split ∙ g.split)).1 in
        let same : k.begins.char ≡ o.char = first_same k.begins.char o.char k.begins.more o.more (sym k.begins.split ∙ next) in
        true_false k.begins.is_first (subst (λ c. begins_key c ≡ false) (sym same) (or_parts (begins_key o.char) (o.char == 125) o.other).0)

-- ---- a call for a key

-- what the reader gives the access gives
pub gives_key_seen : {K C : Type 0} (content : K → C) (convert : KeyConversion C) (old new : MapAccessState) (a b : State) (o : Option K) → a ≡ old.at.reader → new.at.reader ≡ record b { failed = old.at.reader.failed } → new.at.comma_due ≡ old.at.comma_due → new.pending ≡ is_some o
    → GivesMemberKey content convert (bare_map a old.at.comma_due false) (bare_map b old.at.comma_due (is_some o)) o → GivesMemberKey content convert old new o
gives_key_seen content convert old new a b (Some k) same lent comma_due pending (u, p, took, is, one, two) =
    let rest = subst (λ s. OnlyRead s b) same took.rest in
    let back : b ≡ new.at.reader = sym (lent ∙ lent_back old.at.reader b rest) in
    (u, p, subst (λ s. TookMemberKey old.at.comma_due old.at.reader u p s) back (subst (λ s. TookMemberKey old.at.comma_due s u p b) same took), is, comma_due, pending)
gives_key_seen content convert old new a b None same lent comma_due pending (at, one, two) =
    let rest = subst (λ s. OnlyRead s b) same at.rest in
    let back : b ≡ new.at.reader = sym (lent ∙ lent_back old.at.reader b rest) in
    (subst (λ s. AtClose curly old.at.comma_due old.at.reader s) back (subst (λ s. AtClose curly old.at.comma_due s b) same at), comma_due, pending)

pub gives_next_key : {K C : Type 0} (content : K → C) (convert : KeyConversion C) (refuses : State → Error → State → Type 0) (old new : MapAccessState) (o : Option K) → GivesMemberKey content convert old new o → RefusesNextKey refuses old new.at.reader (Ok o)
gives_next_key {K = K} content convert refuses old new o gives =
    answers_call _ true _ _ _ old.at new.at.reader o (λ a at. no_end o gives at) (λ a w at. no_other o gives w at) (λ h. live o gives h)
  where
    no_end : (o : Option K) → GivesMemberKey content convert old new o → AtEnd old.at.reader → ⊥
    no_end (Some k) (u, p, took, is, comma_due, pending) at = end_no_key old.at.comma_due old.at.reader u new.at.reader.unread p at took.key
    no_end None (close, comma_due, pending) at = let (r, c, next) = close.close in end_no_close curly curly_signs old.at.comma_due old.at.reader r at c

    no_other : (o : Option K) → GivesMemberKey content convert old new o → (w : List ℕ) → AtOther (begins_next_key old.at.comma_due) old.at.reader w → ⊥
    no_other (Some k) (u, p, took, is, comma_due, pending) w at = other_no_key old.at.comma_due old.at.reader w u new.at.reader.unread p at took.key
    no_other None (close, comma_due, pending) w at =
        let (r, c, next) = close.close in
        let k = other_no_brace old.at.comma_due old.at.reader w r at in
        other_no_close curly curly_signs old.at.comma_due old.at.reader w r at k.0 k.1 c

    live : (o : Option K) → GivesMemberKey content convert old new o → old.at.reader.failed ≡ true → ⊥
    live (Some k) (u, p, took, is, comma_due, pending) h = true_false h took.live
    live None (close, comma_due, pending) h = true_false h close.live

pub refuses_next_key : {K : Type 0} (refuses : State → Error → State → Type 0) (old : MapAccessState) (new after : State) (own e : Error) → RefusesMemberKey refuses old.at.comma_due old.at.reader own after → (old.at.reader.failed ≡ false → kind_of own ≢ code codes.Failed)
    → (old.at.reader.failed ≡ true → IsPositionless codes.Failed own) → PositionedAtBracket old.at own e → new.failed ≡ true → RefusesNextKey {V = K} refuses old new (Err e)
refuses_next_key refuses old new after own e cause other before p failed =
    refuses_call (RefusesMemberKey refuses old.at.comma_due old.at.reader) true (begins_next_key old.at.comma_due) codes.EofParsingObject (no_key_code old.at.comma_due) old.at new after own e cause (λ a at. ends cause at) (λ a w o. differs cause w o) other before p failed
  where
    ends : RefusesMemberKey refuses old.at.comma_due old.at.reader own after → AtEnd old.at.reader → IsPositionless codes.EofParsingObject own
    ends (not_reached f) at = end_fault (expects_key old.at.comma_due) old.at.reader own at f
    ends (in_key start k there c placed) at = absurd (end_at_key old.at.comma_due old.at.reader start at there)

    differs : RefusesMemberKey refuses old.at.comma_due old.at.reader own after → (w : List ℕ) → AtOther (begins_next_key old.at.comma_due) old.at.reader w → IsAfter (no_key_code old.at.comma_due) old.at.reader w own
    differs (not_reached f) w o = other_fault (expects_key old.at.comma_due) old.at.reader own w o f
    differs (in_key start k there c placed) w o = absurd (other_at_key old.at.comma_due old.at.reader start w o there)

-- a key's fault keeps what it says, but for its position
key_kind : (IsBefore : List ℕ → Type 0) (own e : Error) → PositionedAtKey IsBefore own e → kind_of e ≡ kind_of own
key_kind IsBefore own e (at_key h p) = p.kind
key_kind IsBefore own e (as_it_is h kind place) = kind

-- the key is where the reader was
placed_before : (mid end : State) (offset : ℕ) (own e : Error) → SameText mid end → ((before : List ℕ) → mid.input ≡ before ++ mid.unread → offset ≡ length (encode_utf8_all before)) → PositionedAtKey (StartsAfter end.input offset) own e
    → PositionedAtKey (λ before. mid.input ≡ before ++ mid.unread) own e
placed_before mid end offset own e same counted (at_key h p) = at_key h (placed_where (λ before split. record { rest = mid.unread; split = same ∙ split; counted = counted before split }) p)
placed_before mid end offset own e same counted (as_it_is h kind place) = as_it_is h kind place

-- what a key's type reads at a key
module _ {K C : Type 0} (content : K → C) (convert : KeyConversion C) (refuses : State → Error → State → Type 0) (comma_due : Bool) (s mid end : State) (at : AtKey comma_due s mid) where
  key_given : (k : K) → GivesKey content convert mid end k → GivesMemberKey content convert (bare_map s comma_due false) (bare_map end comma_due true) (Some k)
  key_given k (u, p, took, is) = (u, p, took_pair_key comma_due s mid end u p at took, is, refl, refl)

  key_completes : (own e : Error) → kind_of e ≡ kind_of own → CompletesKey {V = K} convert mid (Err own) → CompletesMemberKey {V = Option K} convert (bare_map s comma_due false) (Err e)
  key_completes own e same complete u p r c live key is =
      same ∙ complete.memory u p r c (failed_of at.entry.rest ∙ live) (pair_key_found comma_due s.unread mid.unread r u p at.entry.begun key) is

  -- a key was read
  read_key_given : (k : K) → GivesKey content convert mid end k → SameText mid end → ReadsKeyOfMember content convert refuses comma_due s end (Ok (Some k))
  read_key_given k gives same = record {
    sound = key_given k gives;
    complete = λ u escape_free r c live key is. tt;
    closing = λ r live close. refl;
    cause = tt;
    steady = record { same_text = same ∙ input_of at.entry.rest; unprompted = tt; before = λ h. true_false h at.entry.live };
  }

  -- or refused
  read_key_refused : (own e : Error) → ReadsKeyOf content convert refuses mid end (Err own) → PositionedAtKey (λ before. mid.input ≡ before ++ mid.unread) own e → ReadsKeyOfMember content convert refuses comma_due s end (Err e)
  read_key_refused own e reads placed =
      let kind = key_kind _ own e placed in
      record {
        sound = tt;
        complete = key_completes own e kind reads.complete;
        closing = λ r live close. absurd (no_close_found curly curly_signs comma_due s.unread mid.unread r at.entry.begun at.entry.inside close);
        cause = in_key mid own at reads.refused placed;
        steady = record {
          same_text = reads.same_text ∙ input_of at.entry.rest;
          unprompted = λ live failed. reads.unprompted (failed_of at.entry.rest ∙ live) (sym kind ∙ failed);
          before = λ h. absurd (true_false h at.entry.live);
        };
      }

  -- it is given, or its fault where it is placed
  pub read_key_placed : (read : Result K Error) (result : Result (Option K) Error) (offset : ℕ) → ReadsKeyOf content convert refuses mid end read → IsCount mid offset → PositionsKey (StartsAfter end.input offset) read result
      → ReadsKeyOfMember content convert refuses comma_due s end result
  read_key_placed (Ok k) result offset reads count is = subst (ReadsKeyOfMember content convert refuses comma_due s end) (sym is) (read_key_given k reads.sound reads.same_text)
  read_key_placed (Err own) result offset reads count is =
      let (e, same, placed) = err_from_is_err_and result is in
      subst (ReadsKeyOfMember content convert refuses comma_due s end) (sym same) (read_key_refused own e reads (placed_before mid end offset own e reads.same_text count.counted placed))

module _ {K C : Type 0} (content : K → C) (convert : KeyConversion C) (refuses : State → Error → State → Type 0) (comma_due : Bool) (s end : State) where
  -- no member was reached
  pub no_entry : (e : Error) → Advances curly comma_due s end (Err e) → ReadsKeyOfMember content convert refuses comma_due s end (Err e)
  no_entry e a = record {
    sound = tt;
    complete = λ u p r c live key is. absurd ((no_pair_next comma_due s.unread (a.nowhere live)).no_key u p r key);
    closing = λ r live close. absurd ((a.nowhere live).no_close r close);
    cause = not_reached (refused_next_key comma_due s e a.refused);
    steady = record { same_text = a.steady.same_text; unprompted = a.steady.unprompted; before = a.steady.before };
  }

  -- a member was reached, and no key begins it
  pub no_key_at_entry : (mid : State) (e : Error) → AtEntry curly comma_due s mid → NotBegun begins_key mid.unread → IsUnexpected codes.EofParsingObject codes.ExpectedIdentifier mid end e → ReadsKeyOfMember content convert refuses comma_due s end (Err e)
  no_key_at_entry mid e at none is =
      let nowhere = no_pair_here comma_due s.unread mid.unread at.begun at.inside none in
      let f = is.fault in
      record {
        sound = tt;
        complete = λ u p r c live key is. absurd (nowhere.no_key u p r key);
        closing = λ r live close. absurd (nowhere.no_brace r close);
        cause = not_reached (refused_key_here comma_due s mid e at none f);
        steady = record {
          same_text = ap (λ (m : State). m.input) is.state ∙ input_of at.rest;
          unprompted = λ live. other_says f.reason e (other mid.unread f.reason f.place f.fault) f.says;
          before = λ h. absurd (true_false h at.live);
        };
      }
    where
      other : (x : List ℕ) (reason : Option ErrorCode) (place : Option (List ℕ)) → Unexpected codes.EofParsingObject codes.ExpectedIdentifier x reason place → reason ≢ Some codes.Failed
      other x reason place at_end same = absurd (cc)
      other x reason place (at_char c r) same = absurd (cc)

-- a key that is taken where a member begins begins there
key_begun : (comma_due : Bool) (s mid last : State) (u : List ℕ) (p : Bool) → AtEntry curly comma_due s mid → TookKey mid u p last → AtKey comma_due s mid
key_begun comma_due s mid last u p at took =
    let head = key_head took.reads.key in
    let split = key_at mid.unread mid.unread last.unread u p (no_gap mid.unread (begun_solid comma_due s.unread mid.unread at.begun)) took.reads in
    record { entry = at; begins = record { char = head.char; more = head.more ++ last.unread; split = split ∙ ap (λ z. z ++ last.unread) head.is; is_first = head.begins } }

-- the name of a member, whose text is at the span
module _ {span : Span} (comma_due : Bool) (s mid taken end : State) (at : AtEntry curly comma_due s mid) (key : (u : List ℕ) × TookKey mid u true taken × IsSliceAt taken.input u span.start span.end) where
  name_begins : AtKey comma_due s mid
  name_begins = key_begun comma_due s mid taken key.0 true at key.1

  pub name_given : {K : Type 0} (content : K → List ℕ) (k : K) → (end ≡ taken) × IsTextAt taken.input span (content k) → ReadsKeyOfMember content every_text (RefusedAsKey string_key) comma_due s end (Ok (Some k))
  name_given content k kept = let r = kept_key content mid taken end k key kept in read_key_given content every_text (RefusedAsKey string_key) comma_due s mid end name_begins k r.sound r.same_text

-- a key is refused alike, whatever it would have been kept as
pub refused_alike : {K L C : Type 0} (content : K → C) (other : L → C) (convert : KeyConversion C) (refuses : State → Error → State → Type 0) (comma_due : Bool) (old new : State) (e : Error)
    → ReadsKeyOfMember content convert refuses comma_due old new (Err e) → ReadsKeyOfMember other convert refuses comma_due old new (Err e)
refused_alike content other convert refuses comma_due old new e r = record {
  sound = tt;
  complete = r.complete;
  closing = r.closing;
  cause = r.cause;
  steady = record { same_text = r.steady.same_text; unprompted = r.steady.unprompted; before = r.steady.before };
}

-- a key whose text was kept is given as that text
pub named_alike : (n : List ℕ) (refuses : State → Error → State → Type 0) (comma_due : Bool) (old new : State) (key : Option (Unit {0})) (given : Bool) → given ≡ is_some key → ReadsKeyOfMember {K = Unit {0}} (λ k. n) every_text refuses comma_due old new (Ok key)
    → ReadsKeyOfMember field_key_text every_text refuses comma_due old new (filled_if_given n (Ok given))
named_alike n refuses comma_due old new (Some k) given same r = subst (λ g. ReadsKeyOfMember field_key_text every_text refuses comma_due old new (filled_if_given n (Ok g))) (sym same) (record {
  sound = r.sound;
  complete = λ u escape_free r c live key is. tt;
  closing = λ r live close. refl;
  cause = tt;
  steady = record { same_text = r.steady.same_text; unprompted = tt; before = r.steady.before };
})
named_alike n refuses comma_due old new None given same r = subst (λ g. ReadsKeyOfMember field_key_text every_text refuses comma_due old new (filled_if_given n (Ok g))) (sym same) (record {
  sound = r.sound;
  complete = λ u escape_free r c live key is. tt;
  closing = λ r live close. refl;
  cause = tt;
  steady = record { same_text = r.steady.same_text; unprompted = tt; before = r.steady.before };
})

-- ---- a key without an escape is read without memory

-- a call for a key reads it so, and its answer is placed
pub placed_free : {K : Type 0} (IsBefore : List ℕ → Type 0) (old : State) (read : Result K Error) (result : Result (Option K) Error) → CompletesEscapeFreeKey old read → PositionsKey IsBefore read result → CompletesEscapeFreeKey old result
placed_free IsBefore old (Ok k) result free is u r live reads = subst (λ o. IsOk o) (sym is) refl
placed_free IsBefore old (Err own) result free is u r live reads = absurd (false≢true (free u r live reads))

-- no key begins there
pub no_key_free : (old : State) (result : Result Bool Error) → NotBegun begins_key old.unread → Solid old.unread → CompletesEscapeFreeKey old result
no_key_free old result none solid u r live reads = absurd (no_key_begun old.unread r u true solid none reads)

module _ (comma_due : Bool) (s mid : State) (result : Result Bool Error) where
  -- it is read where the member begins
  pub entry_free : AtEntry curly comma_due s mid → (Solid mid.unread → CompletesEscapeFreeKey mid result) → CompletesEscapeFreeMember (bare_map s comma_due false) result
  entry_free at free u r live key = free (begun_solid comma_due s.unread mid.unread at.begun) u r (failed_of at.rest ∙ live) (pair_key_found comma_due s.unread mid.unread r u true at.begun key)

  -- no member is next
  pub no_entry_free : (e : Error) → Advances curly comma_due s mid (Err e) → CompletesEscapeFreeMember (bare_map s comma_due false) result
  no_entry_free e a u r live key = absurd ((no_pair_next comma_due s.unread (a.nowhere live)).no_key u true r key)

-- ---- a colon and a value

pub value_read : (old next new : State) (t : Tree) → AfterColon old next → TookValue next t new → TookMemberValue old t new
value_read old next new t at value =
    let level = level_of at.rest in
    let deep = value.shallow in
    record {
      live = at.live;
      value = (next.unread, at.colon, value.reads);
      shallow = omega (arith, level, deep);
      rest = only_read old next new at.rest value.rest;
    }

pub value_found : (old next : State) (t : Tree) (r : List ℕ) → AfterColon old next → IsKeyValue old.unread t r → Reads next.unread t r
value_found old next t r at (y, colon, reads) = subst (λ x. Reads x t r) (same_sign 58 old.unread y next.unread colon_solid colon at.colon) reads

-- where a colon is refused, no value follows
pub none_without_colon : (x : List ℕ) (t : Tree) (r : List ℕ) {reason : Option ErrorCode} {place : Option (List ℕ)} → AfterBlanks NoColon x reason place → IsKeyValue x t r → ⊥
none_without_colon x t r {reason = reason} {place = place} (in_blanks (w, p, shown, fault)) (y, colon, reads) = no_sign_in_blanks 58 x w p y reason place shown colon_solid fault colon
none_without_colon x t r (after_gap {w = w} {x = q} g s f) (y, colon, reads) = no_sign 58 (w ++ q) w q y colon_solid refl g s (not_colon q f) colon
  where
    not_colon : (q : List ℕ) {reason : Option ErrorCode} {place : Option (List ℕ)} → NoColon q reason place → NotBegun (λ c. c == 58) q
    not_colon q (no_colon c z n) = n
    not_colon q colon_missing = tt

pub gives_value_seen : {V C : Type 0} (content : V → C) (convert : Tree → Option C) (old new : MapAccessState) (a b : State) (v : V) → a ≡ old.at.reader → new.at.reader ≡ record b { failed = old.at.reader.failed } → new.at.comma_due ≡ true → new.pending ≡ false
    → GivesMemberValue content convert (bare_map a false true) (bare_map b true false) v → GivesMemberValue content convert old new v
gives_value_seen content convert old new a b v same lent comma_due pending (t, took, is, one, two) =
    let rest = subst (λ s. OnlyRead s b) same took.rest in
    let back : b ≡ new.at.reader = sym (lent ∙ lent_back old.at.reader b rest) in
    (t, subst (λ s. TookMemberValue old.at.reader t s) back (subst (λ s. TookMemberValue s t b) same took), is, comma_due, pending)

pub gives_next_value : {V C : Type 0} (content : V → C) (convert : Tree → Option C) (refuses : State → Error → State → Type 0) (old new : MapAccessState) (v : V) → GivesMemberValue content convert old new v → RefusesNextValue refuses old new.at.reader (Ok v)
gives_next_value content convert refuses old new v (t, took, is, comma_due, pending) =
    let (y, colon, reads) = took.value in
    answers_call _ true _ _ _ old.at new.at.reader v (λ a at. end_no_sign 58 old.at.reader y colon_solid at colon) (λ a w at. other_no_sign 58 old.at.reader w y colon_solid at at.other colon) (λ h. true_false h took.live)

pub refuses_next_value : {V : Type 0} (refuses : State → Error → State → Type 0) (old : MapAccessState) (new after : State) (own e : Error) → RefusesMemberValue refuses old.at.reader own after → (old.at.reader.failed ≡ false → kind_of own ≢ code codes.Failed)
    → (old.at.reader.failed ≡ true → IsPositionless codes.Failed own) → PositionedAtBracket old.at own e → new.failed ≡ true → RefusesNextValue {V = V} refuses old new (Err e)
refuses_next_value refuses old new after own e cause other before p failed =
    refuses_call (RefusesMemberValue refuses old.at.reader) true is_colon codes.EofParsingObject codes.ExpectedColon old.at new after own e cause (λ a at. ends cause at) (λ a w o. differs cause w o) other before p failed
  where
    ends : RefusesMemberValue refuses old.at.reader own after → AtEnd old.at.reader → IsPositionless codes.EofParsingObject own
    ends (no_value f) at = end_fault expects_colon old.at.reader own at f
    ends (in_value start there c) at = absurd (end_no_sign 58 old.at.reader start.unread colon_solid at there.colon)

    differs : RefusesMemberValue refuses old.at.reader own after → (w : List ℕ) → AtOther is_colon old.at.reader w → IsAfter codes.ExpectedColon old.at.reader w own
    differs (no_value f) w o = other_fault expects_colon old.at.reader own w o f
    differs (in_value start there c) w o = absurd (other_no_sign 58 old.at.reader w start.unread colon_solid o o.other there.colon)
