-- What is taken at once takes what reading on lists takes.
use Rattle.std.proofs.Common.{◌≡◌, ℕ, Bool, true, false, List, [], ◌∷◌, ◌++◌, refl, ap, sym, ◌∙◌, subst, append_assoc, arith, inl, inr, Option, Some, None, String}
use Rattle.std.specs.Prelude.{◌==◌, Result, Ok, is_some, slice_get}
use Rattle.std.specs.declared.alloc.Global.{Global}
use Rattle.std.specs.Str.{all_scalars}
use Rattle.std.proofs.lemmas.Bool.{both_ways}
use Rattle.std.proofs.lemmas.Bool.Decides.{nat_tests}
use Rattle.json5_grammar.specs.Language.Blanks as blanks
use Rattle.json5_grammar.specs.Language.Blanks.{is_solid, Gap, Solid}
use Rattle.json5_grammar.specs.Language.Characters.{NotBegun, is_in}
use Rattle.json5_grammar.specs.Faults.Fronts.{BracketKind, of_array, of_object, closing}
use Rattle.json5_grammar.specs.Model.Collections.{IsSign, IsEnd, ReadsKey}
use Rattle.json5_grammar.specs.Language.Numbers.{Number}
use Rattle.json5_grammar.specs.Model.Reading.{got, and_then}
use Rattle.json5_grammar.specs.Model.ReadBlanks.{skip, between}
use Rattle.json5_grammar.specs.Model.ReadSteps.{forget, colon_after, separator, comma_at}
use Rattle.json5_grammar.specs.Model.ReadTexts.{key}
use Rattle.json5_grammar.specs.Model.ReadValues.{read, colon_at}
use Rattle.json5_grammar.specs.Language.Trees as trees
use Rattle.json5_grammar.specs.Language.Strings.{Str}
use Rattle.json5_grammar.specs.Language.Values.{Val, Reads, is_number, is_text}
use Rattle.json5_grammar.proofs.CommonLemmas.{same_char}
use Rattle.json5_grammar.proofs.BlanksRead.{begins_solid, skip_blanks, skip_rest, printable_solid}
use Rattle.json5_grammar.proofs.BlanksSound.{gap_read, gap_before, one_gap}
use Rattle.json5_grammar.proofs.CharacterClasses.{number_begins, quote_begins}
use Rattle.json5_grammar.proofs.ObjectsRead.{brace_solid, colon_solid}
use Rattle.json5_grammar.proofs.ArraysRead.{comma_solid, bracket_solid, phrase_found}
use Rattle.json5_grammar.proofs.KeysRead.{key_complete}
use Rattle.json5_grammar.proofs.ValueHeads.{val_head, value_solid, begins_value_solid, key_head, key_solid}
use Rattle.json5_grammar.proofs.ValuesRead.{read_complete}
use Rattle.json5_types.specs.declared.error.Error.{Error}
use Rattle.json5_types.specs.declared.value.Value.{Value}
use Rattle.json5_types.specs.declared.value.Value as value
use Rattle.json5_types.specs.NumberMeanings.{whole_in}
use Rattle.json5_types.specs.ValueMeanings.{value_of}
use Rattle.json5_types.specs.ValueMeanings as datum
use Rattle.json5_tokens.specs.Cursor.{Cursor, Took}
use Rattle.json5_tokens.specs.declared.short_texts.Span.{Span}
use Rattle.json5_tokens.specs.ShortWays.{AfterGap, StepsTo, Stepped, TookNumber, TakesShortSign}
use Rattle.json5_tokens.specs.ShortNumberSkips.{TakesShortNumber}
use Rattle.json5_tokens.specs.ShortWords.{TakesShortWord}
use Rattle.json5_tokens.specs.ShortTexts.{TakesShortKey, TakesShortString, TookShortOwned}
use Rattle.json5_read.specs.declared.brackets.BracketPair.{BracketPair}
use Rattle.json5_read.specs.declared.brackets.BracketKind.{BracketKind as OwnKind}
use Rattle.json5_read.specs.declared.kinds.Literal.{Literal}
use Rattle.json5_read.specs.declared.kinds.ValueKind.{ValueKind}
use Rattle.json5_read.specs.declared.kinds.ValueKind.TheVariants as kinds
use Rattle.json5_read.specs.Brackets.{bracket_of, brackets_of}
use Rattle.json5_read.specs.Entries.{IsVisible, entry_front, entry_start, next_entry}
use Rattle.json5_read.specs.Kinds.{kind_at, word_of}
use Rattle.json5_read.specs.OwnedReads.{Keeps, IsOfTree, tree_at}
use Rattle.json5_read.specs.Opening.{AtKind}
use Rattle.json5_read.specs.SkipSteps.{PassesShort}
use Rattle.json5_read.specs.ModelSteps.{IsInside, Gave, Steps}
use Rattle.json5_read.proofs.BuildScalars.{scalar_taken, text_taken}
use Rattle.json5_read.proofs.EntrySteps.{separator_is, front_closes, front_goes, closes_here, start_or_end}
use Rattle.json5_read.proofs.SkipScalars.{literal_value, number_value, tests_of}
use Rattle.json5_read.proofs.UnexpectedCharacters.{closing_is}
use Rattle.json5_read.proofs.ModelSteps.{some_next, same_step, then_step, took_step, took_nothing, ready_after}

-- ---- a step on lists

closing_solid : (k : BracketKind) → is_solid (closing k) ≡ true
closing_solid of_array = bracket_solid
closing_solid of_object = brace_solid

-- blanks before a sign are passed over
sign_read : (c : ℕ) (x r : List ℕ) → is_solid c ≡ true → IsSign c x r → skip between x ≡ got tt (c ∷ r)
sign_read c x r h k = ap (skip between) k.split ∙ gap_read (blanks.Gap.blanks k.blank) (begins_solid c r h)

comma_read : (k : BracketKind) (x z : List ℕ) → IsSign 44 x z → separator k x ≡ got true z
comma_read k x z s = separator_is k x ∙ ap (λ m. and_then m (λ u y. comma_at k y)) (sign_read 44 x z comma_solid s)

pub start_goes : (k : BracketKind) (x y : List ℕ) → AfterGap x y → NotBegun (λ d. d == closing k) y → entry_start k x ≡ got true y
start_goes k x y g n = ap (λ m. and_then m (λ u y. entry_front k y)) (ap (skip between) g.split ∙ gap_read g.is_gap g.solid) ∙ front_goes k y n

start_closes : (k : BracketKind) (x r : List ℕ) → IsSign (closing k) x r → entry_start k x ≡ got false r
start_closes k x r s = ap (λ m. and_then m (λ u y. entry_front k y)) (sign_read (closing k) x r (closing_solid k) s) ∙ front_closes k r

-- something is taken: y is the end of x
abbrev Taken : List ℕ → List ℕ → Type 0
Taken x y = (s : List ℕ) × (x ≡ s ++ y)

sign_taken : (c : ℕ) (x y r : List ℕ) → IsSign c x y → Taken y r → Taken x r
sign_taken c x y r s (t, is) = (s.front ++ c ∷ t, s.split ∙ ap (λ z. s.front ++ c ∷ z) is ∙ sym (append_assoc s.front (c ∷ t) r))

-- an entry begins
goes_read : (k : BracketKind) (comma_due : Bool) (x y : List ℕ) → StepsTo comma_due x y → NotBegun (λ d. d == closing k) y → (next_entry k comma_due x ≡ got true y) × Taken x y
goes_read k false x y g n = (start_goes k x y g n, (g.gap, g.split))
goes_read k true x y (z, comma, g) n = (ap (λ m. and_then m (start_or_end k)) (comma_read k x z comma) ∙ start_goes k z y g n, sign_taken 44 x z y comma (g.gap, g.split))

-- the bracket is closed
ends_read : (k : BracketKind) (comma_due : Bool) (x r : List ℕ) → IsEnd (closing k) comma_due x r → (next_entry k comma_due x ≡ got false r) × Taken x r
ends_read k false x r s = (start_closes k x r s, sign_taken (closing k) x r r s ([], refl))
ends_read k true x r (inl s) =
    (ap (λ m. and_then m (start_or_end k)) (separator_is k x ∙ ap (λ m. and_then m (λ u y. comma_at k y)) (sign_read (closing k) x r (closing_solid k) s) ∙ closes_here k r), sign_taken (closing k) x r r s ([], refl))
ends_read k true x r (inr (y, comma, s)) = (ap (λ m. and_then m (start_or_end k)) (comma_read k x y comma) ∙ start_closes k y r s, sign_taken 44 x y r comma (sign_taken (closing k) y r r s ([], refl)))

-- ---- names

colon_read : (x r : List ℕ) → IsSign 58 x r → colon_after x ≡ skip between r
colon_read x r s = ap (λ m. and_then m (λ u y. and_then (colon_at y) (λ v z. skip between z))) (sign_read 58 x r colon_solid s)

pub colon_took : (old new : Cursor) → (k : TakesShortSign 58 old new true) → Took old (k.0.front ++ 58 ∷ []) new
colon_took old new k = record { split = k.0.split ∙ sym (append_assoc k.0.front (58 ∷ []) new.unread); same = k.1 }

pub colon_stepped : (old mid new : Cursor) (result : Result (Unit {0}) Error) → TakesShortSign 58 old mid true → Steps (skip between mid.unread) mid new result → Steps (colon_after old.unread) old new result
colon_stepped old mid new result colon k =
    same_step old new (colon_after old.unread) (skip between mid.unread) result (colon_read old.unread mid.unread colon.0)
    (then_step {A = Unit {0}} old mid new (got tt mid.unread) tt (λ u y. skip between y) result (record { reads = refl; taken = colon.0.front ++ 58 ∷ []; took = colon_took old mid colon }) k)

-- the colon is in front
pub colon_at_once : (old mid : Cursor) → Took old (58 ∷ []) mid → TakesShortSign 58 old mid true
colon_at_once old mid took = (record { front = []; split = took.split; blank = blanks.Blanks.empty }, took.same)

-- a space may be among the blanks
pub space_stepped : (old mid new : Cursor) (ate : Bool) (result : Result (Unit {0}) Error) → (ate ≡ true → Took old (32 ∷ []) mid) → (ate ≡ false → (mid ≡ old) × NotBegun (λ d. d == 32) old.unread)
    → Steps (skip between mid.unread) mid new result → Steps (skip between old.unread) old new result
space_stepped old mid new true result taken kept k =
    let took = taken refl in
    same_step old new (skip between old.unread) (skip between mid.unread) result (ap (skip between) took.split ∙ skip_blanks mid.unread (blanks.Blanks.blank refl blanks.Blanks.empty))
    (then_step {A = Unit {0}} old mid new (got tt mid.unread) tt (λ u y. skip between y) result (record { reads = refl; taken = 32 ∷ []; took = took }) k)
space_stepped old mid new false result taken kept k = subst (λ (s : Cursor). Steps (skip between s.unread) s new result) (kept refl).0 k

-- no blanks are in front
pub nothing_stepped : (s : Cursor) (c : ℕ) → slice_get s.unread 0 ≡ Some c → IsVisible c → Steps (skip between s.unread) s s (Ok tt)
nothing_stepped s c first v =
    let (r, x) = some_next s.unread c first in
    let printable : is_in 33 126 c ≡ true = grind (arith, nat_tests, v.low, v.high) in
    let other : (c == 47) ≡ false = grind (arith, nat_tests, v.no_slash) in
    took_step s s (skip between s.unread) tt [] (skip_rest s.unread (subst Solid (sym x) (begins_solid c r (printable_solid c printable other)))) (took_nothing s s refl)

-- after a character that may have been eaten the rest is still the end of the input
pub ready_eaten : (old mid : Cursor) (c : ℕ) (ate : Bool) → IsInside old → (ate ≡ true → Took old (c ∷ []) mid) → (ate ≡ false → (mid ≡ old) × NotBegun (λ d. d == c) old.unread) → IsInside mid
ready_eaten old mid c true ready taken kept = ready_after old mid (c ∷ []) ready (taken refl)
ready_eaten old mid c false ready taken kept = subst IsInside (sym (kept refl).0) ready

-- no blanks stand before a key
pub key_spelled : (x u r : List ℕ) → Solid x → (k : ReadsKey x u true r) → x ≡ k.spelling ++ r
key_spelled x u r solid k = (one_gap k.front (k.spelling ++ r) [] x (blanks.Gap.blanks k.blank) (key_solid r (key_head k.key)) (blanks.Gap.blanks blanks.Blanks.empty) solid (sym k.split)).1

pub key_stepped : (old new : Cursor) (span : Span) → Solid old.unread → TakesShortKey old new (Some span) → Steps (forget (key old.unread)) old new (Ok tt)
key_stepped old new span solid k =
    let split = key_spelled old.unread k.spelled new.unread solid k.read in
    took_step old new (forget (key old.unread)) tt k.read.spelling (ap (λ z. forget (key z)) split ∙ ap forget (key_complete k.read.key)) (record { split = split; same = k.same })

-- ---- entries

pub entry_gave : (k : OwnKind) (b : BracketPair) (comma_due : Bool) (old new : Cursor) → b ≡ brackets_of k → Stepped b.closing comma_due false old new → Gave (next_entry (bracket_of k) comma_due old.unread) true old new
entry_gave k b comma_due old new e s =
    let (reads, (taken, split)) = goes_read (bracket_of k) comma_due old.unread new.unread s.step.0 (subst (λ c. NotBegun (λ d. d == c) new.unread) (closing_is k b e) s.step.1) in
    record { reads = reads; taken = taken; took = record { split = split; same = s.same } }

-- the sign is next, so it is taken
pub sign_eaten : (c : ℕ) (r : List ℕ) (mid new : Cursor) (b : Bool) → mid.unread ≡ c ∷ r → (b ≡ true → Took mid (c ∷ []) new) → (b ≡ false → (new ≡ mid) × NotBegun (λ d. d == c) mid.unread) → Took mid (c ∷ []) new
sign_eaten c r mid new true at taken kept = taken refl
sign_eaten c r mid new false at taken kept = absurd (both_ways (c == c) (subst (NotBegun (λ d. d == c)) at (kept refl).1) (same_char c))

pub closing_gave : (k : OwnKind) (b : BracketPair) (comma_due : Bool) (old mid new : Cursor) (ate : Bool) → b ≡ brackets_of k → Stepped b.closing comma_due true old mid
    → (ate ≡ true → Took mid (b.closing ∷ []) new) → (ate ≡ false → (new ≡ mid) × NotBegun (λ d. d == b.closing) mid.unread) → Gave (next_entry (bracket_of k) comma_due old.unread) false old new
closing_gave k b comma_due old mid new ate e s taken kept =
    let (r, end, at) = s.step in
    let took = sign_eaten b.closing r mid new ate at taken kept in
    let same : r ≡ new.unread = cc (sym at ∙ took.split) in
    let (reads, (text, split)) = ends_read (bracket_of k) comma_due old.unread new.unread (subst (λ c. IsEnd c comma_due old.unread new.unread) (closing_is k b e) (subst (IsEnd b.closing comma_due old.unread) same end)) in
    record { reads = reads; taken = text; took = record { split = split; same = took.same ∙ s.same } }

-- ---- strings

-- no blanks stand before it
string_split : (old new : Cursor) {u : List ℕ} {escape_free : Bool} → AtKind kinds.String old → (k : Reads old.unread (trees.text u escape_free) new.unread) → old.unread ≡ k.phrase ++ new.unread
string_split old new {u = u} {escape_free = escape_free} at k =
    let (r, x) = some_next old.unread at.char at.first in
    let solid : Solid old.unread = subst Solid (sym x) (begins_solid at.char r (begins_value_solid at.char (quote_begins at.char (tests_of at.char (kind_at at.char) kinds.String refl at.is)))) in
    phrase_found old.unread [] old.unread new.unread (trees.text u escape_free) refl (blanks.Gap.blanks blanks.Blanks.empty) solid k

string_passed : (old new : Cursor) (span : Span) → AtKind kinds.String old → TakesShortString old new (Some span) → PassesShort old new true
string_passed old new span at k room =
    let split = string_split old new at k.read in
    record {
      reads = ap (λ z. forget (read room z)) split ∙ ap forget (read_complete k.read.value new.unread k.read.stops room (omega arith));
      taken = k.read.phrase;
      took = record { split = split; same = k.same };
    }

pub string_short : (old new : Cursor) (o : Option Span) (b : Bool) → AtKind kinds.String old → TakesShortString old new o → b ≡ is_some o → PassesShort old new b
string_short old new None b at same e = subst (PassesShort old new) (sym e) same
string_short old new (Some span) b at k e = subst (PassesShort old new) (sym e) (string_passed old new span at k)

-- ---- literals

pub literal_short : (old new : Cursor) (l : Literal) (b : Bool) → AtKind (kinds.Literal l) old → TakesShortWord (word_of l) old new b → PassesShort old new b
literal_short old new l false at same = same
literal_short old new l true at took = λ room. (literal_value room old new at.char at.first (kind_at at.char) refl l (Ok tt) at.ready at.is (record { taken = took; refused = tt; kept = tt })).given

-- ---- numbers

-- a number has no blanks before it
number_took : (old new : Cursor) (n : Number) → AtKind kinds.Number old → (k : TookNumber old new n) → Took old k.literal new
number_took old new n at k =
    let (r, x) = some_next old.unread at.char at.first in
    let (none, phrase) = gap_before [] k.gap (k.literal ++ new.unread) at.char r blanks.Blanks.empty (begins_value_solid at.char (number_begins at.char (tests_of at.char (kind_at at.char) kinds.Number refl at.is))) k.is_gap (value_solid new.unread (val_head (is_number k.is_number))) (sym x ∙ k.split) in
    record { split = x ∙ sym phrase; same = k.same }

pub number_short : (old new : Cursor) (b : Bool) → AtKind kinds.Number old → TakesShortNumber old new b → PassesShort old new b
number_short old new false at same = same
number_short old new true at (n, k) = λ room.
    (number_value room old new at.char at.first (kind_at at.char) refl (Ok (whole_in n)) at.ready at.is (record {
      taken = (k.literal, n, number_took old new n at k, k.is_number, k.stops, refl);
      refused = tt;
      kept = tt;
      memory = λ s r n split num stops. refl;
    })).given

-- ---- texts, which are kept

str_of : {s u : List ℕ} {escape_free : Bool} → Val s (trees.text u escape_free) → Str s u escape_free
str_of (is_text k) = k

pub string_kept : (room : ℕ) (old new : Cursor) (t : String Global) → AtKind kinds.String old → all_scalars old.unread ≡ true → TookShortOwned old new t → Keeps IsOfTree (tree_at room old) old new (Ok (value.String t))
string_kept room old new t at scalars k =
    text_taken room old new t scalars (k.read.phrase, k.spelled, k.escape_free, record { split = string_split old new at k.read; same = k.same }, str_of k.read.value, k.bytes)

-- ---- numbers, which are kept

pub number_kept : (room : ℕ) (old new : Cursor) (n : Number) (v : Value) → AtKind kinds.Number old → TookNumber old new n → value_of v ≡ datum.number n → Keeps IsOfTree (tree_at room old) old new (Ok v)
number_kept room old new n v at k is = scalar_taken room old new k.literal (trees.number n) v refl (number_took old new n at k) (is_number k.is_number) k.stops is

pub kind_front : (k : ValueKind) (old mid : Cursor) → mid ≡ old → AtKind k old → AtKind k mid
kind_front k old mid same at = subst (AtKind k) (sym same) at
