-- What the short ways return is what the reader's other calls return.
use Rattle.std.proofs.Common.{◌≡◌, ℕ, ◌+◌, ◌≤◌, ◌<◌, ◌^◌, Bool, true, false, nat_lt, ℤ, pos, negsuc, nat_abs, ◌-ℤ◌, ◌≤ℤ◌, List, ◌++◌, Option, Some, None, inl, refl, ap, sym, ◌∙◌, subst, arith}
use Rattle.std.specs.Prelude.{MatchOption, Result, Ok, Err, String, string_bytes}
use Rattle.std.proofs.lemmas.Bool.Decides.{nat_tests}
use Rattle.std.proofs.lemmas.Int.{ints, to_z-of_z}
use mir.Syntax.{w128}
use mir.Val.{to_z, of_z, SFits}
use Rattle.json5_grammar.specs.Language.Documents.{max_depth}
use Rattle.json5_grammar.specs.Language.Numbers.{Number, Decimal, whole, decimal}
use Rattle.json5_grammar.specs.Language.Trees.{number, text}
use Rattle.json5_grammar.specs.Language.Values.{is_number}
use Rattle.json5_tokens.specs.Cursor.{Cursor}
use Rattle.json5_tokens.specs.ShortWays.{TookNumber, TookWhole, TookInRange, TakesShortDecimal, StepsTo, TakesShortStep, TakesShortSign}
use Rattle.json5_tokens.specs.ShortTexts.{ReadsEscapeFreeString, TookEscapeFree, TakesShortString, TakesShortKey, TookShortOwned, TakesShortOwned, IsTextAt}
use Rattle.json5_tokens.specs.ShortTexts as texts
use Rattle.json5_tokens.specs.TextTokens.{IsSliceAt}
use Rattle.json5_tokens.specs.declared.short_texts.Span.{Span}
use Rattle.json5_tokens.specs.declared.scanner.ShortStep.{ShortStep}
use Rattle.json5_tokens.specs.declared.scanner.ShortStep.TheVariants as short
use Rattle.json5_read.specs.declared.brackets.BracketPair.{BracketPair}
use Rattle.json5_de.specs.AccessCalls.{AdvancesToEntry, Advances}
use Rattle.json5_de.specs.Convert.{natural_below, integer_below, every_text}
use Rattle.json5_de.specs.KeyKinds.{ReadsKeyAs, string_key}
use Rattle.json5_de.specs.Keys.{TookKey}
use Rattle.json5_de.specs.DeserializeLaw.{TookValue}
use Rattle.json5_de.specs.ObjectFaults.{PassesColon}
use Rattle.json5_de.specs.Objects.{AfterColon}
use Rattle.json5_de.specs.TokenKinds.{ReadsAs, whole_kind, natural_kind, integer_kind, decimal_kind, string_kind}
use Rattle.json5_de.specs.ShortWays.{ReadsShort, ReadsShortText, ReadsShortKey, RunsOut}
use Rattle.json5_de.specs.State.{State, GivesUp}
use Rattle.json5_de.proofs.TokenKinds.{reads_ok}
use Rattle.json5_de.proofs.ReadSteps.{value_gap, input_of}
use Rattle.json5_de.proofs.FoundKeys.{key_ok}
use Rattle.json5_grammar.proofs.CommonLemmas.{true_false}
use Rattle.json5_read.proofs.NoFailedCode.{memory_other}
use Rattle.json5_types.specs.Errors.{LacksMemory}
use Rattle.json5_types.specs.declared.error.Error.{Error}

-- a reader whose scanner is there
abbrev pub reader_at : Cursor → ℕ → Bool → State
reader_at s level failed = record { input = s.input; unread = s.unread; level = level; failed = failed }

-- ---- numbers

took_number : (before after : Cursor) (level : ℕ) (failed : Bool) (n : Number) → level ≤ max_depth → failed ≡ false → TookNumber before after n → TookValue (reader_at before level failed) (number n) (reader_at after level failed)
took_number before after level failed n room live k = record {
  live = live;
  reads = record {
    front = k.gap;
    phrase = k.literal;
    split = k.split;
    blank = value_gap k.gap (k.literal ++ after.unread) after.unread (is_number k.is_number) k.is_gap refl;
    value = is_number k.is_number;
    stops = k.stops;
  };
  shallow = omega (arith, room);
  rest = ap (λ i. record { input = i; unread = after.unread; level = level; failed = failed }) k.same;
}

reads_whole : {V C : Type 0} (f : ℤ → Option C) (content : V → C) (before after : Cursor) (level : ℕ) (failed : Bool) (old : State) (z : ℤ) (v : V) → reader_at before level failed ≡ old → level ≤ max_depth → failed ≡ false → TookWhole before after z
    → f z ≡ Some (content v) → ReadsAs (whole_kind f) content old (reader_at after level failed) (Ok v)
reads_whole f content before after level failed old z v e room live k is =
    subst (λ s. ReadsAs (whole_kind f) content s (reader_at after level failed) (Ok v)) e
    (reads_ok (whole_kind f) content (reader_at before level failed) (reader_at after level failed) v (number (whole z), took_number before after level failed (whole z) room live k, is))

natural_in : (m : ℕ) (z : ℤ) → pos 0 ≤ℤ z → z ≤ℤ pos m → natural_below (m + 1) z ≡ Some (nat_abs z)
natural_in m (pos n) l h = let below : nat_lt n (m + 1) ≡ true = grind (arith, nat_tests, ints, h) in rw below refl
natural_in m (negsuc n) l h = absurd (omega (arith, ints, l))

integer_in : (m z : ℤ) → pos 0 ≤ℤ m → (negsuc 0 -ℤ m) ≤ℤ z → z ≤ℤ m → integer_below (nat_abs m + 1) z ≡ Some z
integer_in (pos m) (pos n) p l h = let below : nat_lt n (m + 1) ≡ true = grind (arith, nat_tests, ints, h) in rw below refl
integer_in (pos m) (negsuc n) p l h = let below : nat_lt n (m + 1) ≡ true = grind (arith, nat_tests, ints, l) in rw below refl
integer_in (negsuc m) z p l h = absurd (omega (arith, ints, p))

pub short_natural : (before after : Cursor) (level : ℕ) (failed : Bool) (old : State) (max : ℕ) (most z : ℤ) → reader_at before level failed ≡ old → level ≤ max_depth → failed ≡ false → max < 2 ^ 64 → most ≡ pos max
    → TookInRange (pos 0) (to_z w128 (of_z w128 most)) before after z → ReadsAs (natural_kind (max + 1)) (λ n. n) old (reader_at after level failed) (Ok (nat_abs (to_z w128 (of_z w128 z))))
short_natural before after level failed old max most z e room live m is k =
    let top : to_z w128 (of_z w128 most) ≡ pos max = rw is (to_z-of_z w128 (pos max) (omega (arith, ints, m))) in
    let high : z ≤ℤ pos max = rw top at k.high in
    let low = k.low in
    let stored : to_z w128 (of_z w128 z) ≡ z = to_z-of_z w128 z (omega (arith, ints, m, low, high)) in
    let converts : natural_below (max + 1) z ≡ Some (nat_abs (to_z w128 (of_z w128 z))) = natural_in max z low high ∙ ap (λ y. Some (nat_abs y)) (sym stored) in
    reads_whole (natural_below (max + 1)) (λ n. n) before after level failed old z (nat_abs (to_z w128 (of_z w128 z))) e room live k.took converts

pub same_reader : (before after : Cursor) (level : ℕ) (failed : Bool) (old : State) → reader_at before level failed ≡ old → after ≡ before → reader_at after level failed ≡ old
same_reader before after level failed old e same = ap (λ s. reader_at s level failed) same ∙ e

-- the least number of a range
abbrev pub least : ℤ → ℤ
least max = to_z w128 (of_z w128 (negsuc 0 -ℤ to_z w128 (of_z w128 max)))

pub short_integer : (before after : Cursor) (level : ℕ) (failed : Bool) (old : State) (max : ℤ) (o : Option ℤ) → reader_at before level failed ≡ old → level ≤ max_depth → failed ≡ false → SFits w128 max
    → MatchOption o (after ≡ before) (λ z. TookInRange (least max) (to_z w128 (of_z w128 max)) before after z) → ReadsShort (integer_kind (nat_abs max + 1)) (λ n. n) old (reader_at after level failed) o
short_integer before after level failed old max None e room live fits k = same_reader before after level failed old e k
short_integer before after level failed old max (Some z) e room live fits k =
    let top : to_z w128 (of_z w128 max) ≡ max = to_z-of_z w128 max fits in
    let bottom : least max ≡ (negsuc 0 -ℤ max) = ap (λ (y : ℤ). to_z w128 (of_z w128 (negsuc 0 -ℤ y))) top ∙ to_z-of_z w128 (negsuc 0 -ℤ max) (omega (arith, ints, fits)) in
    let low : (negsuc 0 -ℤ max) ≤ℤ z = rw bottom at k.low in
    let high : z ≤ℤ max = rw top at k.high in
    let p : pos 0 ≤ℤ max = omega (arith, ints, low, high) in
    reads_whole (integer_below (nat_abs max + 1)) (λ n. n) before after level failed old z z e room live k.took (integer_in max z p low high)

pub short_decimal : (before after : Cursor) (level : ℕ) (failed : Bool) (old : State) (o : Option Decimal) → reader_at before level failed ≡ old → level ≤ max_depth → failed ≡ false → TakesShortDecimal before after o
    → ReadsShort decimal_kind (λ d. d) old (reader_at after level failed) o
short_decimal before after level failed old None e room live k = same_reader before after level failed old e k
short_decimal before after level failed old (Some d) e room live k =
    subst (λ s. ReadsAs decimal_kind (λ d. d) s (reader_at after level failed) (Ok d)) e
    (reads_ok decimal_kind (λ d. d) (reader_at before level failed) (reader_at after level failed) d (number (decimal d), took_number before after level failed (decimal d) room live k, refl))

-- ---- a step to the next member

begun_by : (comma_due : Bool) (x y : List ℕ) → StepsTo comma_due x y → StepsTo comma_due x y
begun_by false x y k = record { gap = k.gap; split = k.split; is_gap = k.is_gap; solid = k.solid }
begun_by true x y (z, comma, k) = (z, comma, record { gap = k.gap; split = k.split; is_gap = k.is_gap; solid = k.solid })

-- a step to the next element or member, or to the closing bracket, is taken, or nothing
abbrev pub StepsShort : BracketPair → Bool → State → State → ShortStep → Type 0
StepsShort b comma_due old new short.Entry = AdvancesToEntry b comma_due old new true
StepsShort b comma_due old new short.Closing = AdvancesToEntry b comma_due old new false
StepsShort b comma_due old new short.Other = new ≡ old

pub short_step : (b : BracketPair) (comma_due : Bool) (before after : Cursor) (level : ℕ) (failed : Bool) (old : State) (step : ShortStep) → reader_at before level failed ≡ old → failed ≡ false → TakesShortStep b.closing comma_due before after step
    → StepsShort b comma_due old (reader_at after level failed) step
short_step b comma_due before after level failed old short.Other e live k = same_reader before after level failed old e k
short_step b comma_due before after level failed old short.Entry e live k =
    subst (λ s. StepsShort b comma_due s (reader_at after level failed) short.Entry) e
    (record { live = live; begun = begun_by comma_due before.unread after.unread k.step.0; inside = k.step.1; rest = ap (λ i. record { input = i; unread = after.unread; level = level; failed = failed }) k.same })
short_step b comma_due before after level failed old short.Closing e live k =
    subst (λ s. StepsShort b comma_due s (reader_at after level failed) short.Closing) e
    (record { live = live; close = k.step; rest = ap (λ i. record { input = i; unread = after.unread; level = level; failed = failed }) k.same })

-- the step that was taken is what the call answers
pub advances_at_once : (b : BracketPair) (comma_due : Bool) (old new : State) (more : Bool) → AdvancesToEntry b comma_due old new more → Advances b comma_due old new (Ok more)
advances_at_once b comma_due old new true k =
    record { sound = k; refused = tt; nowhere = tt; steady = record { same_text = input_of k.rest; unprompted = tt; before = λ h. absurd (true_false h k.live) } }
advances_at_once b comma_due old new false k =
    record { sound = k; refused = tt; nowhere = tt; steady = record { same_text = input_of k.rest; unprompted = tt; before = λ h. absurd (true_false h k.live) } }

-- ---- strings without an escape

took_text : (before after : Cursor) (level : ℕ) (failed : Bool) (span : Span) → level ≤ max_depth → failed ≡ false → TookEscapeFree ReadsEscapeFreeString before after span
    → (u : List ℕ) × TookValue (reader_at before level failed) (text u true) (reader_at after level failed) × IsSliceAt after.input u span.start span.end
took_text before after level failed span room live k = (
  k.spelled,
  record { live = live; reads = k.read; shallow = omega (arith, room); rest = ap (λ i. record { input = i; unread = after.unread; level = level; failed = failed }) k.same },
  subst (λ i. IsSliceAt i k.spelled span.start span.end) (sym k.same) k.stands,
)

pub short_text : (before after : Cursor) (level : ℕ) (failed : Bool) (old : State) (o : Option Span) → reader_at before level failed ≡ old → level ≤ max_depth → failed ≡ false → TakesShortString before after o
    → ReadsShortText old (reader_at after level failed) o
short_text before after level failed old None e room live k = same_reader before after level failed old e k
short_text before after level failed old (Some span) e room live k = subst (λ s. ReadsShortText s (reader_at after level failed) (Some span)) e (took_text before after level failed span room live k)

-- ---- strings with and without escapes

took_owned : {A : Type 0} (before after : Cursor) (level : ℕ) (failed : Bool) (t : String A) → level ≤ max_depth → failed ≡ false → (k : TookShortOwned before after t)
    → TookValue (reader_at before level failed) (text k.spelled k.escape_free) (reader_at after level failed)
took_owned before after level failed t room live k = record {
  live = live;
  reads = k.read;
  shallow = omega (arith, room);
  rest = ap (λ i. record { input = i; unread = after.unread; level = level; failed = failed }) k.same;
}

pub short_string_owned : {A : Type 0} (before after : Cursor) (level : ℕ) (failed : Bool) (old : State) (o : Option (String A)) → reader_at before level failed ≡ old → level ≤ max_depth → failed ≡ false → TakesShortOwned before after o
    → ReadsShort string_kind string_bytes old (reader_at after level failed) o
short_string_owned before after level failed old None e room live k = same_reader before after level failed old e k
short_string_owned before after level failed old (Some t) e room live k =
    subst (λ r. ReadsAs string_kind string_bytes r (reader_at after level failed) (Ok t)) e
    (reads_ok string_kind string_bytes (reader_at before level failed) (reader_at after level failed) t (text k.spelled k.escape_free, took_owned before after level failed t room live k, ap Some (sym k.bytes)))

-- ---- keys without an escape

took_key : (before after : Cursor) (level : ℕ) (failed : Bool) (span : Span) → failed ≡ false → TookEscapeFree texts.ReadsEscapeFreeKey before after span
    → (u : List ℕ) × TookKey (reader_at before level failed) u true (reader_at after level failed) × IsSliceAt after.input u span.start span.end
took_key before after level failed span live k = (
  k.spelled,
  record { live = live; reads = k.read; rest = ap (λ i. record { input = i; unread = after.unread; level = level; failed = failed }) k.same },
  subst (λ i. IsSliceAt i k.spelled span.start span.end) (sym k.same) k.stands,
)

pub short_key : (before after : Cursor) (level : ℕ) (failed : Bool) (old : State) (o : Option Span) → reader_at before level failed ≡ old → failed ≡ false → TakesShortKey before after o → ReadsShortKey old (reader_at after level failed) o
short_key before after level failed old None e live k = same_reader before after level failed old e k
short_key before after level failed old (Some span) e live k = subst (λ s. ReadsShortKey s (reader_at after level failed) (Some span)) e (took_key before after level failed span live k)

-- a part of what the reader reads is that of its scanner
pub slice_at : {level : ℕ} {failed : Bool} {old : State} {u : List ℕ} {span : Span} (s : Cursor) → reader_at s level failed ≡ old → IsSliceAt old.input u span.start span.end → IsSliceAt s.input u span.start span.end
slice_at {u = u} {span = span} s e k = subst (λ x. IsSliceAt x u span.start span.end) (sym (ap (λ (r : State). r.input) e)) k

-- an owned copy of the text at the span; or memory ran out
abbrev pub OwnsTextAt : {A : Type 0} → Span → State → State → Result (String A) Error → Type 0
OwnsTextAt span old new (Ok t) = (new ≡ old) × IsTextAt old.input span (string_bytes t)
OwnsTextAt span old new (Err e) = LacksMemory e × GivesUp old new

-- a refusal since memory ran out, in place of a copy of a text
pub own_lost : {A : Type 0} (span : Span) (old new : State) (r : Result (String A) Error) → RunsOut old new r → OwnsTextAt span old new r
own_lost span old new (Ok t) lost = absurd lost
own_lost span old new (Err e) lost = lost

-- ---- a colon

-- the colon after a key is passed, or nothing
abbrev pub PassesShortColon : State → State → Bool → Type 0
PassesShortColon old new true = AfterColon old new
PassesShortColon old new false = new ≡ old

pub short_colon : (before after : Cursor) (level : ℕ) (failed : Bool) (old : State) (b : Bool) → reader_at before level failed ≡ old → failed ≡ false → TakesShortSign 58 before after b → PassesShortColon old (reader_at after level failed) b
short_colon before after level failed old false e live k = same_reader before after level failed old e k
short_colon before after level failed old true e live k =
    subst (λ s. PassesShortColon s (reader_at after level failed) true) e
    (record { live = live; colon = k.0; rest = ap (λ i. record { input = i; unread = after.unread; level = level; failed = failed }) k.1 })

-- the colon that was taken is what the call answers
pub colon_at_once : (old new : State) → AfterColon old new → PassesColon old new (Ok tt)
colon_at_once old new k = record {
  passed = k;
  refused = tt;
  complete = λ t r live value. refl;
  failed = tt;
  steady = record { same_text = input_of k.rest; unprompted = tt; before = λ h. absurd (true_false h k.live) };
}

-- ---- an owned copy of a key

-- a key whose text is kept in some form
pub kept_key : {K : Type 0} {span : Span} (content : K → List ℕ) (old mid new : State) (k : K) → ((u : List ℕ) × TookKey old u true mid × IsSliceAt mid.input u span.start span.end) → (new ≡ mid) × IsTextAt mid.input span (content k) → ReadsKeyAs string_key content old new (Ok k)
kept_key content old mid new k (u, took, stands) (same, bytes) =
    subst (λ s. ReadsKeyAs string_key content old s (Ok k)) (sym same) (key_ok content every_text _ old mid k (u, true, took, ap Some (sym (bytes u stands))))

pub own_key : {A : Type 0} {span : Span} (old mid new : State) (r : Result (String A) Error) → ((u : List ℕ) × TookKey old u true mid × IsSliceAt mid.input u span.start span.end) → OwnsTextAt span mid new r → ReadsKeyAs string_key string_bytes old new r
own_key old mid new (Ok t) key owns = kept_key string_bytes old mid new t key owns
own_key old mid new (Err e) (u, took, stands) (lacks, gives_up) = record {
  sound = tt;
  complete = record { memory = λ u escape_free r c live reads is. lacks.kind };
  refused = inl lacks;
  unprompted = λ live. memory_other e lacks.kind;
  same_text = gives_up.same_text ∙ input_of took.rest;
  failed = gives_up.failed;
  before = λ h. absurd (true_false h took.live);
}
