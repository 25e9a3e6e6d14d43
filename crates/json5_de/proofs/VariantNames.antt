-- The name of a variant: what is read, and what is refused.
use Rattle.std.proofs.Common.{◌≡◌, ℕ, ◌≤◌, ◌+◌, Bool, true, false, List, [], ◌∷◌, ◌++◌, length, refl, ap, sym, ◌∙◌, subst, arith, ◌⊎◌, inl, inr, Option, Some, None, Ok, Err}
use Rattle.std.specs.Prelude.{◌==◌, is_some, IsOk}
use Rattle.std.specs.Str.{encode_utf8_all}
use Rattle.std.proofs.lemmas.Bool.{or_left, or_right}
use Rattle.json5_grammar.specs.declared.error_code.ErrorCode.{ErrorCode}
use Rattle.json5_grammar.specs.declared.error_code.ErrorCode.TheVariants as codes
use Rattle.json5_grammar.specs.Language.Characters.{NotBegun}
use Rattle.json5_grammar.specs.Language.Blanks.{Blanks, Gap, Solid}
use Rattle.json5_grammar.specs.Language.Documents.{max_depth}
use Rattle.json5_grammar.specs.Language.Strings.{is_quote, quoted}
use Rattle.json5_grammar.specs.Language.Trees.{Tree, Members, null, boolean, number, text, array, object, member, no_member, depth}
use Rattle.json5_grammar.specs.Language.Values.{Val, Reads, is_null, is_true, is_false, is_number, is_text, is_empty_array, is_array, is_empty_object, is_object}
use Rattle.json5_grammar.specs.Model.Collections.{IsSign, IsKey, IsKeyValue, IsBrace}
use Rattle.json5_grammar.proofs.CommonLemmas.{first_same, true_false}
use Rattle.json5_grammar.proofs.BlanksSound.{gap_before}
use Rattle.json5_grammar.proofs.ValueHeads.{val_head, value_solid}
use Rattle.json5_grammar.proofs.ArraysRead.{sign_found, phrase_found}
use Rattle.json5_grammar.proofs.EntriesAfterGaps.{reads_here}
use Rattle.json5_grammar.proofs.ArraysPartlyRead.{same_sign}
use Rattle.json5_grammar.proofs.ObjectsRead.{opening_brace_solid, colon_solid, one_opening_brace, one_key, one_reads_key, object_front}
use Rattle.json5_grammar.proofs.OneTree.{one_phrase}
use Rattle.json5_types.specs.declared.error.Error.{Error}
use Rattle.json5_tokens.specs.Cursor.{Refused, IsOutOfMemory}
use Rattle.json5_read.specs.Offsets.{StartsAfter, PositionedAt}
use Rattle.json5_tokens.specs.TokenFaults.{FaultyBlanks}
use Rattle.json5_de.specs.State.{State, SameText, GivesUp, cursor_of}
use Rattle.json5_de.specs.DeserializeLaw.{TookValue, IsUnprompted, Unprompted}
use Rattle.json5_de.specs.ReaderSteps.{PassedGap}
use Rattle.json5_de.specs.Convert.{as_text, index_of}
use Rattle.json5_de.specs.ConvertLists.{if_some}
use Rattle.json5_de.specs.Faults.{RefusedBy, AtEnd, AtOther, IsPositionless}
use Rattle.json5_read.specs.Brackets.{curly}
use Rattle.json5_de.specs.Arrays.{AccessState, OpensAs, NotOpened, Closed}
use Rattle.json5_read.specs.ModelSteps.{Unexpected, at_end, at_char}
use Rattle.json5_de.specs.TokenKinds.{ReadsAs, variant_kind}
use Rattle.json5_de.specs.Keys.{TookKey, GivesKey}
use Rattle.json5_de.specs.KeyKinds.{ReadsKeyAs, variant_key}
use Rattle.json5_de.specs.Objects.{MapAccessState, MembersRead, AfterColon, bare_map}
use Rattle.json5_de.specs.ObjectFaults.{begins_key, BeginsKey}
use Rattle.json5_read.specs.EntryFaults.{NoColon}
use Rattle.json5_de.specs.Enums.{named_variant, EnumAccessState, AtContent, AfterName, NameRead, ContentTail, content_depth, ContentLeft, begins_variant, NoVariant, no_variant, variant_missing, NotKeyed, not_keyed, key_missing, is_left_brace, FirstCharIs, IsNext, no_only_key, other_key, not_followed, RefusesKeyed, RefusesName, nothing_named, other_text, not_opened, in_object, NamesVariant, ReadsOnlyKey, ReadsKeyed}
use Rattle.json5_read.proofs.FoundEntries.{sign_next}
use Rattle.json5_de.proofs.BracketSteps.{only_read, level_of, failed_of, after_gap_of}
use Rattle.json5_de.proofs.ArrayElements.{still_live, same_level}
use Rattle.json5_de.proofs.ExpectedKinds.{Expected, end_fault, other_fault}
use Rattle.json5_de.proofs.Options.{end_next, value_next, value_no_end, took_after}
use Rattle.json5_read.proofs.NoFailedCode.{Lacks}
use Rattle.json5_de.proofs.MemberRefusals.{value_read, key_there, no_key_begun, pair_key_found}
use Rattle.json5_de.proofs.ObjectMembers.{pair_read, all_read, opens_map, refuses_map}
use Rattle.json5_de.proofs.RefusalPositions.{refused_as}
use Rattle.json5_de.proofs.TokenKinds.{refused_other, given_up, gives_up}
use Rattle.json5_de.proofs.ReadSteps.{input_of, refused_blanks, refused_token}
use Rattle.json5_de.proofs.FoundKeys.{no_fault_before}

-- ---- what is next where a variant is named

-- a string begins with a quote, an object with its brace
pub data VariantAt (c : ℕ) : Tree → Type 0 where
  at_text : (u : List ℕ) (escape_free : Bool) → is_quote c ≡ true → VariantAt c (text u escape_free)
  at_object : (u : List ℕ) (escape_free : Bool) (t : Tree) → c ≡ 123 → VariantAt c (object (member u escape_free t no_member))

object_at : (c : ℕ) (names : List (List ℕ)) (x : ℕ × Option Tree) (ps : Members) → c ≡ 123 → named_variant names (object ps) ≡ Some x → VariantAt c (object ps)
object_at c names x no_member at e = absurd (cc)
object_at c names x (member u escape_free t no_member) at e = at_object u escape_free t at
object_at c names x (member u escape_free t (member v other s ps)) at e = absurd (cc)

variant_at : {s : List ℕ} {t : Tree} (names : List (List ℕ)) (x : ℕ × Option Tree) → Val s t → named_variant names t ≡ Some x → (c : ℕ) × (y : List ℕ) × (s ≡ c ∷ y) × VariantAt c t
variant_at names x is_null e = absurd (cc)
variant_at names x is_true e = absurd (cc)
variant_at names x is_false e = absurd (cc)
variant_at names x (is_number n) e = absurd (cc)
variant_at names x (is_text (quoted {q = q} {s = s} h i)) e = (q, s ++ q ∷ [], refl, at_text _ _ h)
variant_at names x (is_empty_array b) e = absurd (cc)
variant_at names x (is_array m) e = absurd (cc)
variant_at names x (is_empty_object {w = w} b) e = absurd (cc)
variant_at names x (is_object {m = m} {ps = ps} k) e = (123, m ++ 125 ∷ [], refl, object_at 123 names x ps refl e)

-- what follows the gap begins so
pub variant_next : (names : List (List ℕ)) (x : ℕ × Option Tree) (y : List ℕ) (c : ℕ) (m r : List ℕ) (t : Tree) → Solid y → y ≡ c ∷ m → Reads y t r → named_variant names t ≡ Some x → VariantAt c t
variant_next names x y c m r t solid next reads e =
    let (d, z, is, at) = variant_at names x reads.value e in
    let whole : d ∷ (z ++ r) ≡ c ∷ m = ap (λ k. k ++ r) (sym is) ∙ sym (phrase_found y [] y r t refl (Gap.blanks Blanks.empty) solid reads) ∙ next in
    subst (λ k. VariantAt k t) (first_same d c (z ++ r) m whole) at

pub begins_variant_at : (c : ℕ) (t : Tree) → VariantAt c t → begins_variant c ≡ true
begins_variant_at c t (at_text u escape_free h) = or_left (is_quote c) (c == 123) h
begins_variant_at c t (at_object u escape_free w e) = rw e refl

-- ---- the name was read

same_pair : (x y : ℕ × Option Tree) → Some x ≡ Some y → (x.0 ≡ y.0) × (x.1 ≡ y.1)
same_pair x y e = let k : x ≡ y = cc in (ap (λ (z : ℕ × Option Tree). z.0) k, ap (λ (z : ℕ × Option Tree). z.1) k)

named_as : (o : Option ℕ) (n k : ℕ) (b c : Option Tree) → o ≡ Some n → if_some {B = ℕ × Option Tree} (λ i. (i, b)) o ≡ Some (k, c) → (n ≡ k) × (b ≡ c)
named_as None n k b c e f = absurd (cc)
named_as (Some i) n k b c e f = let m : i ≡ n = cc in let (p, q) = same_pair (i, b) (k, c) f in (sym m ∙ p, q)

-- what was read before a content is what the content follows
at_content_left : (names : List (List ℕ)) (from now : State) (u v r : List ℕ) (p q : Bool) (w : Tree) → AtContent from u p now → Reads from.unread (object (member v q w no_member)) r
    → (u ≡ v) × (p ≡ q) × (z : List ℕ) × Reads now.unread w z × IsBrace true z r
at_content_left names from now u v r p q w at reads =
    let (y, opens, (f, z, key, value, close)) = object_front from.unread r (member v q w no_member) reads in
    let e = at.key in
    let (comma_due, here) = e.passed in
    let inside : e.inside ≡ y = one_opening_brace from.unread e.inside y e.bracket opens in
    let first : IsKey false y u p at.keyed.unread = subst (λ k. IsKey false k u p at.keyed.unread) (sym here ∙ inside) e.here in
    let (same, mark, left) = one_key false y at.keyed.unread f u v p q first key in
    let (d, colon, there) = value in
    let tail : now.unread ≡ d = same_sign 58 at.keyed.unread now.unread d colon_solid at.colon.colon (subst (λ k. IsSign 58 k d) (sym left) colon) in
    (same, mark, z, subst (λ k. Reads k w z) (sym tail) there, close)

pub inside_live : (from now : State) (u : List ℕ) (p : Bool) → AtContent from u p now → now.failed ≡ false
inside_live from now u p at = failed_of at.colon.rest ∙ at.colon.live

pub inside_deep : (from now : State) (u : List ℕ) (p : Bool) → AtContent from u p now → now.level ≡ from.level + 1
inside_deep from now u p at = level_of at.colon.rest ∙ level_of at.key.rest

pub inside_text : (from now : State) (u : List ℕ) (p : Bool) → AtContent from u p now → SameText from now
inside_text from now u p at = input_of at.colon.rest ∙ input_of at.key.rest

module _ (names : List (List ℕ)) (from : State) (s : EnumAccessState) (n : NameRead names from s) (t : Tree) (r : List ℕ) (k : ℕ) (c : Option Tree) (reads : Reads from.unread t r) (shallow : from.level + depth t ≤ max_depth)
    (is : named_variant names t ≡ Some (k, c)) where
  -- a string was read
  text_left : s.has_content ≡ false → TookValue from (text n.name n.escape_free) s.reader → (s.variant ≡ k) × ContentLeft c r s
  text_left none took =
      let (same, here) = one_phrase from.unread s.reader.unread r (text n.name n.escape_free) t took.reads reads in
      let (place, empty) = named_as (index_of names n.name n.escape_free) s.variant k None c n.place (ap (named_variant names) same ∙ is) in
      let level = same_level from s.reader took.rest in
      let high = took.shallow in (
        place,
        record {
          live = still_live from s.reader took.live took.rest;
          content = none ∙ ap is_some empty;
          shallow = subst (λ d. s.reader.level + content_depth d ≤ max_depth) empty (omega (arith, level, high));
          tail = subst (λ d. ContentTail d s.reader.unread r) empty here;
        },
      )

  -- a key was read
  keyed_left : s.has_content ≡ true → AtContent from n.name n.escape_free s.reader → (s.variant ≡ k) × ContentLeft c r s
  keyed_left some at =
      let (d, y, first, there) = variant_at names (k, c) reads.value is in
      let brace : reads.phrase ++ r ≡ 123 ∷ at.key.inside =
      sign_found 123 from.unread reads.front (reads.phrase ++ r) at.key.inside opening_brace_solid reads.split (Gap.blanks reads.blank) (value_solid r (val_head reads.value)) at.key.bracket in
      let next : d ≡ 123 = first_same d 123 (y ++ r) at.key.inside (ap (λ z. z ++ r) (sym first) ∙ brace) in
      by t d next there reads shallow is
    where
      by : (t : Tree) (d : ℕ) → d ≡ 123 → VariantAt d t → Reads from.unread t r → from.level + depth t ≤ max_depth → named_variant names t ≡ Some (k, c) → (s.variant ≡ k) × ContentLeft c r s
      by null d next there reads shallow is = absurd (cc)
      by (boolean b) d next there reads shallow is = absurd (cc)
      by (number n) d next there reads shallow is = absurd (cc)
      by (array ts) d next there reads shallow is = absurd (cc)
      by (object no_member) d next there reads shallow is = absurd (cc)
      by (object (member u p w (member v o x ps))) d next there reads shallow is = absurd (cc)
      by (text u escape_free) d next (at_text _ _ h) reads shallow is = absurd (true_false h (ap is_quote next))
      by (object (member u escape_free w no_member)) d next (at_object _ _ _ e) reads shallow is =
          let (same, mark, z, there, close) = at_content_left names from s.reader n.name u r n.escape_free escape_free w at reads in
          let (place, whole) = named_as (index_of names u escape_free) s.variant k (Some w) c (subst (λ v. index_of names v escape_free ≡ Some s.variant) same (subst (λ p. index_of names n.name p ≡ Some s.variant) mark n.place)) is in
          let level = inside_deep from s.reader n.name n.escape_free at in (
            place,
            record {
              live = inside_live from s.reader n.name n.escape_free at;
              content = some ∙ ap is_some whole;
              shallow = subst (λ d. s.reader.level + content_depth d ≤ max_depth) whole (omega (arith, level, shallow));
              tail = subst (λ d. ContentTail d s.reader.unread r) whole (z, there, close);
            },
          )

  pub content_left : (s.variant ≡ k) × ContentLeft c r s
  content_left = by s.has_content refl n.after
    where
      by : (b : Bool) → s.has_content ≡ b → AfterName b from n.name n.escape_free s.reader → (s.variant ≡ k) × ContentLeft c r s
      by false is took = text_left is took
      by true is at = keyed_left is at

-- the reader after the name reads the same input
same_text_after : (b : Bool) (from now : State) (u : List ℕ) (escape_free : Bool) → AfterName b from u escape_free now → SameText from now
same_text_after false from now u escape_free took = input_of took.rest
same_text_after true from now u escape_free at = inside_text from now u escape_free at

-- ---- what is refused where one is named

expects_variant : Expected {C = Unit {0}} NoVariant (λ t. None) begins_variant codes.EofParsingValue codes.ExpectedStringOrObject
expects_variant = record {
  at_end = λ reason place f. at_none [] reason place refl f;
  at_other = λ c r reason place h f. at_some (c ∷ r) reason place c r refl f;
  no_fault = λ s r t v reason place e k stops f. absurd (cc);
  first = λ s t v e k. absurd (cc);
}
  where
    at_none : (x : List ℕ) (reason : Option ErrorCode) (place : Option (List ℕ)) → x ≡ [] → NoVariant x reason place → (reason ≡ Some codes.EofParsingValue) × (place ≡ None)
    at_none x reason place e (no_variant c r n) = absurd (cc)
    at_none x reason place e variant_missing = (refl, refl)

    at_some : (x : List ℕ) (reason : Option ErrorCode) (place : Option (List ℕ)) (c : ℕ) (r : List ℕ) → x ≡ c ∷ r → NoVariant x reason place → (reason ≡ Some codes.ExpectedStringOrObject) × (place ≡ Some [])
    at_some x reason place c r e (no_variant d q n) = (refl, refl)
    at_some x reason place c r e variant_missing = absurd (cc)

variant_lacks : Lacks NoVariant
variant_lacks x reason place (no_variant c r n) = λ e. absurd (cc)
variant_lacks x reason place variant_missing = λ e. absurd (cc)

pub no_variant_here : (x : List ℕ) (reason : Option ErrorCode) (place : Option (List ℕ)) → NotBegun begins_variant x → Unexpected codes.EofParsingValue codes.ExpectedStringOrObject x reason place → NoVariant x reason place
no_variant_here x reason place n at_end = variant_missing
no_variant_here x reason place n (at_char c r) = no_variant c r n

-- after the gap such a character is next, and not another
next_no_other : (begins : ℕ → Bool) (old start : State) (w : List ℕ) → IsNext begins old start → AtOther begins old w → ⊥
next_no_other begins old start w n o =
    let next = (gap_before w n.passed.gap start.unread o.char o.more o.blank o.solid n.passed.is_gap n.passed.solid (sym o.split ∙ n.passed.split)).1 in
    let same : n.first.char ≡ o.char = first_same n.first.char o.char n.first.more o.more (sym n.first.split ∙ next) in
    true_false n.first.is_first (subst (λ c. begins c ≡ false) (sym same) o.other)

next_no_end : (begins : ℕ → Bool) (old start : State) → IsNext begins old start → AtEnd old → ⊥
next_no_end begins old start n at = end_next old start n.first.char n.first.more at n.passed n.first.split

module _ {A : Type 0} (names : List (List ℕ)) (state_of : A → EnumAccessState) (old : State) where
  -- a name was read
  pub names_read : (a : A) (start : State) → IsNext begins_variant old start → NameRead names old (state_of a) → NamesVariant names state_of old (Ok a)
  names_read a start next n = record {
    read = n;
    left = λ t r k c live reads shallow is. content_left names old (state_of a) n t r k c reads shallow is;
    refused = tt;
    ends = λ at. absurd (next_no_end begins_variant old start next at);
    differs = λ w o. absurd (next_no_other begins_variant old start w next o);
    unprompted = tt;
    same_text = same_text_after (state_of a).has_content old (state_of a).reader n.name n.escape_free n.after;
    before = λ h. absurd (true_false h next.passed.live);
  }

  -- neither a string nor an object is next
  pub names_nothing : (e : Error) → RefusedBy NoVariant old e → (old.failed ≡ true → IsPositionless codes.Failed e) → ((t : Tree) (r : List ℕ) (x : ℕ × Option Tree) → old.failed ≡ false → Reads old.unread t r → named_variant names t ≡ Some x → ⊥)
      → NamesVariant names state_of old (Err e)
  names_nothing e f before nothing = record {
    read = tt;
    left = λ t r k c live reads shallow is. absurd (nothing t r (k, c) live reads is);
    refused = λ live. nothing_named f;
    ends = λ at. end_fault expects_variant old e at f;
    differs = λ w o. other_fault expects_variant old e w o f;
    unprompted = refused_other variant_lacks old e f;
    same_text = tt;
    before = before;
  }

  -- the string or the object that is next is refused
  pub names_refused : (e : Error) (start : State) → IsNext begins_variant old start → RefusesName names old e → (old.failed ≡ false → IsUnprompted e)
      → ((t : Tree) (r : List ℕ) (k : ℕ) (c : Option Tree) → Reads start.unread t r → start.level + depth t ≤ max_depth → named_variant names t ≡ Some (k, c) → IsOutOfMemory e) → NamesVariant names state_of old (Err e)
  names_refused e start next f other left = record {
    read = tt;
    left = λ t r k c live reads shallow is. let level = level_of next.passed.rest in left t r k c (value_next old start t r next.passed reads) (omega (arith, level, shallow)) is;
    refused = λ live. f;
    ends = λ at. absurd (next_no_end begins_variant old start next at);
    differs = λ w o. absurd (next_no_other begins_variant old start w next o);
    unprompted = other;
    same_text = tt;
    before = λ h. absurd (true_false h next.passed.live);
  }

-- ---- the only key of an object

pub no_key_keyed : (x : List ℕ) (reason : Option ErrorCode) (place : Option (List ℕ)) → NotBegun begins_key x → Unexpected codes.EofParsingObject codes.ExpectedIdentifier x reason place → NotKeyed x reason place
no_key_keyed x reason place n at_end = key_missing
no_key_keyed x reason place n (at_char c r) = not_keyed c r n

pub keyed_lacks : Lacks NotKeyed
keyed_lacks x reason place (not_keyed c r n) = λ e. absurd (cc)
keyed_lacks x reason place key_missing = λ e. absurd (cc)

pub took_key_after : (old mid last : State) (u : List ℕ) (p : Bool) → PassedGap old mid → TookKey mid u p last → TookKey old u p last
took_key_after old mid last u p passed took = record {
  live = passed.live;
  reads = key_there old.unread mid.unread last.unread u p (after_gap_of old mid passed) took.reads;
  rest = only_read old mid last passed.rest took.rest;
}

-- ---- an object, to its colon and to its end

-- it begins before the gap
pub content_after : (old mid now : State) (u : List ℕ) (escape_free : Bool) → PassedGap old mid → AtContent mid u escape_free now → AtContent old u escape_free now
content_after old mid now u escape_free p at = record { keyed = at.keyed; key = from_gap; colon = at.colon }
  where
    e : MembersRead mid no_member (Some (u, escape_free)) (bare_map at.keyed false true)
    e = at.key

    next : mid.unread ≡ 123 ∷ e.inside
    next = sign_found 123 mid.unread [] mid.unread e.inside opening_brace_solid refl (Gap.blanks Blanks.empty) p.solid e.bracket

    from_gap : MembersRead old no_member (Some (u, escape_free)) (bare_map at.keyed false true)
    from_gap = record {
      live = p.live;
      shallow = let level = level_of p.rest in let deep = e.shallow in omega (arith, level, deep);
      inside = e.inside;
      bracket = sign_next 123 old.unread mid.unread e.inside (after_gap_of old mid p) next;
      after = e.after;
      passed = e.passed;
      here = e.here;
      pending = e.pending;
      rest = e.rest ∙ ap (λ (m : State). record m { unread = at.keyed.unread; level = m.level + 1 }) p.rest;
    }

-- the whole object, after its value and the closing brace were read
pub whole_variant : (from now after new : State) (u : List ℕ) (escape_free : Bool) (t : Tree) → AtContent from u escape_free now → TookValue now t after → Closed curly true after new → TookValue from (object (member u escape_free t no_member)) new
whole_variant from now after new u escape_free t at took closed =
    all_read from (bare_map after true false) new (member u escape_free t no_member) closed
    (pair_read from (bare_map at.keyed false true) (bare_map after true false) no_member u escape_free t (value_read at.keyed now after t at.colon took) refl refl at.key)

-- ---- the only key, step by step

module _ (names : List (List ℕ)) (old mid : State) where
  -- a comment before it is at fault
  pub no_key_begun_faulty : (e : Error) → (old.failed ≡ false → Refused FaultyBlanks (cursor_of old) e) → GivesUp old mid → Unprompted {V = Unit {0}} old (Err e) → ReadsOnlyKey names old mid (Err e)
  no_key_begun_faulty e f failed other = record {
    sound = tt;
    complete = λ u x r escape_free t k live key value is. absurd (no_fault_before old e u escape_free x key (f live));
    refused = λ live. no_only_key (refused_blanks old e f);
    unprompted = other;
    failed = failed;
  }

  -- no key begins
  pub no_key_begun_other : (new : State) (e : Error) → PassedGap old mid → NotBegun begins_key mid.unread → Refused (Unexpected codes.EofParsingObject codes.ExpectedIdentifier) (cursor_of mid) e → new ≡ record mid { failed = true } → ReadsOnlyKey names old new (Err e)
  no_key_begun_other new e p n f state = record {
    sound = tt;
    complete = λ u x r escape_free t k live key value is. absurd (no_key_begun mid.unread x u escape_free p.solid n (pair_key_found false old.unread mid.unread x u escape_free (after_gap_of old mid p) key));
    refused = λ live. no_only_key by;
    unprompted = refused_other keyed_lacks old e by;
    failed = given_up old mid new p (gives_up mid new state);
  }
    where
      by : RefusedBy NotKeyed old e
      by = refused_token old mid e p (refused_as mid mid e refl (λ reason place k. no_key_keyed mid.unread reason place n k) f)

  -- the key is refused
  pub key_refused : (new : State) (e : Error) → PassedGap old mid → BeginsKey mid.unread → ReadsKeyAs {V = ℕ} (variant_key names) (λ n. n) mid new (Err e) → ReadsOnlyKey names old new (Err e)
  key_refused new e p b k = record {
    sound = tt;
    complete = λ u x r escape_free t i live key value is. k.complete.memory u escape_free x i (failed_of p.rest ∙ live) (pair_key_found false old.unread mid.unread x u escape_free (after_gap_of old mid p) key) is;
    refused = λ live. other_key mid (record { passed = p; first = record { char = b.char; more = b.more; split = b.split; is_first = b.is_first } }) k.refused;
    unprompted = λ live. k.unprompted (failed_of p.rest ∙ live);
    failed = given_up old mid new p (record { failed = k.failed; same_text = k.same_text });
  }

  module _ (keyed new : State) (k : ℕ) (p : PassedGap old mid) (given : GivesKey (λ n. n) (index_of names) mid keyed k) where
    -- no colon follows it
    pub colon_refused : (e : Error) → RefusedBy NoColon keyed e → ((t : Tree) (r : List ℕ) → keyed.failed ≡ false → IsKeyValue keyed.unread t r → IsOk {T = Unit {0}} {E = Error} (Err e)) → GivesUp keyed new → Unprompted {V = Unit {0}} keyed (Err e)
        → ReadsOnlyKey names old new (Err e)
    colon_refused e f complete failed other = let (u, escape_free, took, is) = given in record {
      sound = tt;
      complete = λ v x r q t i live key value at.
          let (same, mark, here) = one_reads_key mid.unread keyed.unread x u v escape_free q took.reads (pair_key_found false old.unread mid.unread x v q (after_gap_of old mid p) key) in
          let ok = complete t r (failed_of took.rest ∙ took.live) (subst (λ z. IsKeyValue z t r) (sym here) value) in
          absurd (cc);
      refused = λ live. not_followed u escape_free keyed (took_key_after old mid keyed u escape_free p took) f;
      unprompted = λ live. other (failed_of took.rest ∙ took.live);
      failed = given_up old mid new p (record { failed = failed.failed; same_text = failed.same_text ∙ input_of took.rest });
    }

    -- both were read
    pub only_key_read : AfterColon keyed new → ReadsOnlyKey names old new (Ok k)
    only_key_read colon = let (u, escape_free, took, is) = given in record {
      sound = (u, escape_free, keyed, took_key_after old mid keyed u escape_free p took, colon, is);
      complete = λ v x r q t i live key value at. tt;
      refused = tt;
      unprompted = tt;
      failed = tt;
    }

-- ---- an object up to its colon

pub not_opened_keyed : {A : Type 0} (names : List (List ℕ)) (see : A → AccessState) (old new : State) (e : Error) → OpensAs curly see old (Err e) → GivesUp old new → ReadsKeyed names old new (Err e)
not_opened_keyed names see old new e o failed = record {
  sound = tt;
  complete = λ u r escape_free t k live reads shallow is. absurd ((refuses_map {Held = λ m. Unit {0}} see (λ (m : MapAccessState). m) old e o).left (member u escape_free t no_member) r live reads shallow);
  refused = inl o.refused;
  unprompted = o.unprompted;
  failed = failed;
}

pub only_key_refused : (names : List (List ℕ)) (old inside new : State) (start : ℕ) → OpensAs curly (λ (n : ℕ). record { reader = inside; start = n; comma_due = false }) old (Ok start) → (own e : Error) → ReadsOnlyKey names inside new (Err own)
    → PositionedAt (StartsAfter new.input start) own e → ReadsKeyed names old new (Err e)
only_key_refused names old inside new start o own e k placed =
    let (opened, comma_due) = o.opened in
    let live = failed_of opened.rest ∙ opened.live in
    record {
      sound = tt;
      complete = λ u r escape_free t i alive reads shallow is.
          let map = opens_map {Held = λ m. Unit {0}} (λ (n : ℕ). record { reader = inside; start = n; comma_due = false }) (λ (m : MapAccessState). m) old start (record { at = record { reader = inside; start = start; comma_due = false }; pending = false }) tt refl refl o in
          let left = map.left (member u escape_free t no_member) r alive reads shallow in
          let (y, z, key, value, close) = left.tail in
          placed.kind ∙ k.complete u y z escape_free t i left.live key value is;
      refused = inr (record {
        inside = inside;
        opened = opened;
        own = own;
        cause = k.refused live;
        placed = record {
          kind = placed.kind;
          there = placed.there;
          place = placed.place;
          is_there = λ before split. placed.is_there before (record { rest = 123 ∷ inside.unread; split = k.failed.same_text ∙ split; counted = o.start before (sym (input_of opened.rest) ∙ split) });
        };
      });
      unprompted = λ alive h. k.unprompted live (sym placed.kind ∙ h);
      failed = record { failed = k.failed.failed; same_text = k.failed.same_text ∙ input_of opened.rest };
    }

-- ---- the name, by a string or by an object

place_named : (o : Option ℕ) (k : ℕ) (b c : Option Tree) → if_some {B = ℕ × Option Tree} (λ i. (i, b)) o ≡ Some (k, c) → o ≡ Some k
place_named None k b c e = absurd (cc)
place_named (Some i) k b c e = ap Some (same_pair (i, b) (k, c) e).0

a_text : (names : List (List ℕ)) (t : Tree) (k : ℕ) → as_text (index_of names) t ≡ Some k → (u : List ℕ) × (escape_free : Bool) × (t ≡ text u escape_free) × (index_of names u escape_free ≡ Some k)
a_text names (text u escape_free) k e = (u, escape_free, refl, e)
a_text names null k e = absurd (cc)
a_text names (boolean b) k e = absurd (cc)
a_text names (number n) k e = absurd (cc)
a_text names (array ts) k e = absurd (cc)
a_text names (object ps) k e = absurd (cc)

quote_next : {old mid : State} → PassedGap old mid → FirstCharIs is_quote mid.unread → IsNext begins_variant old mid
quote_next p h = record { passed = p; first = record { char = h.char; more = h.more; split = h.split; is_first = or_left (is_quote h.char) (is_left_brace h.char) h.is_first } }

brace_next : {old mid : State} → PassedGap old mid → FirstCharIs is_left_brace mid.unread → IsNext begins_variant old mid
brace_next p h = record { passed = p; first = record { char = h.char; more = h.more; split = h.split; is_first = or_right (is_quote h.char) (is_left_brace h.char) h.is_first } }

module _ (names : List (List ℕ)) (old mid : State) (p : PassedGap old mid) (start : ℕ) (counted : (before : List ℕ) → mid.input ≡ before ++ mid.unread → start ≡ length (encode_utf8_all before)) where
  -- by a string
  pub text_named : {A : Type 0} (state_of : A → EnumAccessState) (new : State) (a : A) (k : ℕ) → FirstCharIs is_quote mid.unread → state_of a ≡ record { reader = new; start = start; variant = k; has_content = false } → ReadsAs {V = ℕ} (variant_kind names) (λ n. n) mid new (Ok k) → NamesVariant names state_of old (Ok a)
  text_named state_of new a k h same reads =
      let (t, took, is) = reads.sound in
      let (u, escape_free, one, place) = a_text names t k is in
      names_read names state_of old a mid (quote_next p h) (subst (NameRead names old) (sym same) (record {
        name = u;
        escape_free = escape_free;
        place = place;
        after = took_after old mid new (text u escape_free) p (subst (λ z. TookValue mid z new) one took);
        between = mid;
        passed = p;
        counted = counted;
      }))

  pub text_unnamed : {A : Type 0} (state_of : A → EnumAccessState) (new : State) (e : Error) → FirstCharIs is_quote mid.unread → ReadsAs {V = ℕ} (variant_kind names) (λ n. n) mid new (Err e) → NamesVariant names state_of old (Err e)
  text_unnamed state_of new e h k =
      names_refused names state_of old e mid (quote_next p h) (other_text mid (record { passed = p; first = h }) k.refused) (λ live. k.unprompted (failed_of p.rest ∙ live))
      (λ t r i d reads shallow is. by t r i d (variant_next names (i, d) mid.unread h.char h.more r t p.solid h.split reads is) reads shallow is)
    where
      by : (t : Tree) (r : List ℕ) (i : ℕ) (d : Option Tree) → VariantAt h.char t → Reads mid.unread t r → mid.level + depth t ≤ max_depth → named_variant names t ≡ Some (i, d) → IsOutOfMemory e
      by (text u escape_free) r i d (at_text _ _ q) reads shallow is = k.complete.memory (text u escape_free) r i (failed_of p.rest ∙ p.live) reads shallow (place_named (index_of names u escape_free) i None d is)
      by (object (member u escape_free w no_member)) r i d (at_object _ _ _ q) reads shallow is = absurd (true_false h.is_first (ap is_quote q))
      by null r i d at reads shallow is = absurd (cc)
      by (boolean b) r i d at reads shallow is = absurd (cc)
      by (number n) r i d at reads shallow is = absurd (cc)
      by (array ts) r i d at reads shallow is = absurd (cc)
      by (object no_member) r i d at reads shallow is = absurd (cc)
      by (object (member u escape_free w (member v o x ps))) r i d at reads shallow is = absurd (cc)

  -- an object
  pub object_named : {A : Type 0} (state_of : A → EnumAccessState) (new : State) (a : A) (k : ℕ) → FirstCharIs is_left_brace mid.unread → state_of a ≡ record { reader = new; start = start; variant = k; has_content = true } → ReadsKeyed names mid new (Ok k) → NamesVariant names state_of old (Ok a)
  object_named state_of new a k h same reads =
      let (u, escape_free, at, place) = reads.sound in
      names_read names state_of old a mid (brace_next p h) (subst (NameRead names old) (sym same) (record {
        name = u;
        escape_free = escape_free;
        place = place;
        after = content_after old mid new u escape_free p at;
        between = mid;
        passed = p;
        counted = counted;
      }))

  pub object_unnamed : {A : Type 0} (state_of : A → EnumAccessState) (new : State) (e : Error) → FirstCharIs is_left_brace mid.unread → ReadsKeyed names mid new (Err e) → NamesVariant names state_of old (Err e)
  object_unnamed state_of new e h k =
      names_refused names state_of old e mid (brace_next p h) (cause k.refused) (λ live. k.unprompted (failed_of p.rest ∙ live))
      (λ t r i d reads shallow is. by t r i d (variant_next names (i, d) mid.unread h.char h.more r t p.solid h.split reads is) reads shallow is)
    where
      cause : RefusedBy (NotOpened curly mid.level) mid e ⊎ RefusesKeyed names mid e → RefusesName names old e
      cause (inl f) = not_opened mid (record { passed = p; first = h }) f
      cause (inr f) = in_object mid (record { passed = p; first = h }) f

      by : (t : Tree) (r : List ℕ) (i : ℕ) (d : Option Tree) → VariantAt h.char t → Reads mid.unread t r → mid.level + depth t ≤ max_depth → named_variant names t ≡ Some (i, d) → IsOutOfMemory e
      by (text u escape_free) r i d (at_text _ _ q) reads shallow is = absurd (no_quote_brace h.char q h.is_first)
        where
          no_quote_brace : (x : ℕ) → is_quote x ≡ true → is_left_brace x ≡ true → ⊥
          no_quote_brace x a b = grind arith
      by (object (member u escape_free w no_member)) r i d (at_object _ _ _ q) reads shallow is = k.complete u r escape_free w i (failed_of p.rest ∙ p.live) reads shallow (place_named (index_of names u escape_free) i (Some w) d is)
      by null r i d at reads shallow is = absurd (cc)
      by (boolean b) r i d at reads shallow is = absurd (cc)
      by (number n) r i d at reads shallow is = absurd (cc)
      by (array ts) r i d at reads shallow is = absurd (cc)
      by (object no_member) r i d at reads shallow is = absurd (cc)
      by (object (member u escape_free w (member v o x ps))) r i d at reads shallow is = absurd (cc)

neither : (x : List ℕ) → NotBegun is_quote x → NotBegun is_left_brace x → NotBegun begins_variant x
neither [] a b = tt
neither (c ∷ x) a b = rw (a, b) refl

-- there is neither
pub no_name_begun : {A : Type 0} (names : List (List ℕ)) (state_of : A → EnumAccessState) (old mid : State) → PassedGap old mid → (e : Error) → NotBegun is_quote mid.unread → NotBegun is_left_brace mid.unread → Refused (Unexpected codes.EofParsingValue codes.ExpectedStringOrObject) (cursor_of mid) e → NamesVariant names state_of old (Err e)
no_name_begun names state_of old mid p e a b f =
    let n = neither mid.unread a b in
    names_nothing names state_of old e (refused_token old mid e p (refused_as mid mid e refl (λ reason place k. no_variant_here mid.unread reason place n k) f)) (λ h. absurd (true_false h p.live))
    (λ t r x live reads is. nothing mid.unread t r x refl n (value_next old mid t r p reads) is)
  where
    nothing : (y : List ℕ) (t : Tree) (r : List ℕ) (x : ℕ × Option Tree) → mid.unread ≡ y → NotBegun begins_variant y → Reads mid.unread t r → named_variant names t ≡ Some x → ⊥
    nothing [] t r x same n reads is = value_no_end old mid t r p same (reads_here old.unread p.gap mid.unread r t p.split p.is_gap reads)
    nothing (c ∷ m) t r x same n reads is = true_false (begins_variant_at c t (variant_next names x mid.unread c m r t p.solid same reads is)) n

-- ---- the maker

-- the same seen in another way
pub unnamed_seen : {A B : Type 0} (names : List (List ℕ)) (see : A → EnumAccessState) (state_of : B → EnumAccessState) (old : State) (e : Error) → NamesVariant names see old (Err e) → NamesVariant names state_of old (Err e)
unnamed_seen names see state_of old e n = record { read = tt; left = n.left; refused = n.refused; ends = n.ends; differs = n.differs; unprompted = n.unprompted; same_text = tt; before = n.before }

pub named_seen : {A B : Type 0} (names : List (List ℕ)) (see : A → EnumAccessState) (state_of : B → EnumAccessState) (old : State) (a : A) (b : B) → see a ≡ state_of b → NamesVariant names see old (Ok a) → NamesVariant names state_of old (Ok b)
named_seen names see state_of old a b same n = record {
  read = subst (NameRead names old) same n.read;
  left = λ t r k c live reads shallow is. subst (λ (s : EnumAccessState). (s.variant ≡ k) × ContentLeft c r s) same (n.left t r k c live reads shallow is);
  refused = tt;
  ends = λ at. n.ends at;
  differs = λ w o. n.differs w o;
  unprompted = tt;
  same_text = subst (λ (s : EnumAccessState). SameText old s.reader) same n.same_text;
  before = λ h. n.before h;
}

-- the reader that was lent shows itself again
pub lent_name : (names : List (List ℕ)) (old : State) (s : EnumAccessState) (lent : State) → NameRead names old s → lent ≡ record s.reader { failed = true } → s ≡ record s { reader = record lent { failed = false } }
lent_name names old s lent n is = ap (λ (r : State). record s { reader = r }) (ap (λ b. record s.reader { failed = b }) (live s.has_content n.after) ∙ ap (λ (r : State). record r { failed = false }) (sym is))
  where
    live : (b : Bool) → AfterName b old n.name n.escape_free s.reader → s.reader.failed ≡ false
    live false took = still_live old s.reader took.live took.rest
    live true at = inside_live old s.reader n.name n.escape_free at
