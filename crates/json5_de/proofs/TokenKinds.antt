-- The kinds of values that one token makes are lawful, and a read of one keeps the law, from its steps.
use Rattle.std.proofs.Common.{◌≡◌, ◌≢◌, ℕ, ℤ, Bool, false, List, refl, ap, sym, ◌∙◌, subst, ◌⊎◌, ◌++◌, inl, inr, Option, Some, None}
use Rattle.std.specs.Prelude.{true, Result, Ok, Err, IsOk, IfOk, IfErr, OnErr, IsErrAnd, if◌then◌else◌}
use Rattle.json5_grammar.specs.declared.error_code.ErrorCode.{ErrorCode}
use Rattle.json5_grammar.specs.declared.error_code.ErrorCode.TheVariants as codes
use Rattle.json5_types.specs.declared.error.Error.{Error}
use Rattle.json5_types.specs.Errors.{code, kind_of}
use Rattle.json5_tokens.specs.Cursor.{Cursor}
use Rattle.json5_types.specs.Errors.{LacksMemory}
use Rattle.json5_grammar.specs.Language.Values.{null_text, true_text, false_text, Stops, is_null, is_number}
use Rattle.json5_de.specs.State.{State, GivesUp}
use Rattle.json5_tokens.specs.Cursor.{Refused}
use Rattle.json5_tokens.specs.TokenFaults.{FaultyBlanks, FaultyNumber, FaultyString}
use Rattle.json5_grammar.specs.Language.Strings.{Str}
use Rattle.json5_de.specs.State.{cursor_of}
use Rattle.json5_de.specs.ReaderSteps.{PassedGap, TookText, IsMismatch, IsMismatchOf, WholeAt}
use Rattle.json5_de.specs.TokenCalls.{PassesWord}
use Rattle.json5_de.specs.DeserializeLaw.{Gives, CompletesFree, StaysFailed, Unprompted}
use Rattle.json5_grammar.specs.Language.Numbers.{Number, whole, decimal, Num, lengthens}
use Rattle.json5_grammar.specs.Language.Trees.{Tree, null, boolean, number, text, array, object}
use Rattle.json5_de.specs.Convert.{as_whole, as_number, every_decimal, as_text, if_escape_free, digits_bytes}
use Rattle.json5_de.specs.Faults.{RefusedBy, RefusedByOrMemory, NotNumber, faulty_number, other_number, faulty_text, begins_with}
use Rattle.json5_read.specs.EntryFaults.{FaultRelation, AfterBlanks, in_blanks, after_gap}
use Rattle.json5_de.specs.TokenKinds.{Kind, RefusedWith, ReadsAs, ReadsNull, EndsWhere, DiffersWhere, TellsApart, every_tree, no_tree, escape_free_text, null_kind, bool_kind, whole_kind, decimal_kind, coded_text_kind, text_kind, escape_free_kind, bytes_kind}
use Rattle.json5_de.proofs.ExpectedKinds.{Expected, wrongly_refused, completes_or_memory, ends_from, ends_or_memory, differs_from, differs_or_memory}
use Rattle.json5_de.proofs.ExpectsWords.{expects_null, expects_bool}
use Rattle.json5_de.proofs.ExpectsNumbers.{expects_number}
use Rattle.json5_de.proofs.ExpectsStrings.{expects_text}
use Rattle.json5_de.proofs.ReadSteps.{input_of, refused_blanks, refused_token, took_leaf, refused_or_memory, null_stops}
use Rattle.json5_de.proofs.Mismatches.{StartsAt, refused_number, refused_text}
use Rattle.json5_de.proofs.AllocationFreeFronts.{whole_there, no_other_number, escape_free_there, no_other_text}
use Rattle.json5_grammar.specs.Language.Characters.{NotBegun}
use Rattle.json5_types.specs.NumberMeanings.{keeps_digits}
use Rattle.std.proofs.lemmas.Bool.{false≢true}
use Rattle.json5_read.proofs.FoundEntries.{after_lacks}
use Rattle.json5_de.proofs.NoFailedCode.{number_lacks, text_lacks}
use Rattle.json5_read.proofs.NoFailedCode.{Lacks, in_blanks_other, word_lacks, other_says, memory_other}
use Rattle.json5_grammar.proofs.CommonLemmas.{true_false}

-- a kind of value is told apart from all others, and none of its faults is that the reader had failed
pub record IsLawful {C : Type 0} (kind : Kind C) : Type 0 where
  pub expected : Expected kind.IsFault kind.convert kind.begins kind.ends kind.differs
  pub lacks : Lacks kind.IsFault

pub refused_other : {F : List ℕ → Option ErrorCode → Option (List ℕ) → Type 0} → Lacks F → (old : State) (e : Error) → RefusedBy F old e → old.failed ≡ false → kind_of e ≢ code codes.Failed
refused_other l old e k live = let f = k live in other_says f.reason e (after_lacks l _ f.reason f.place f.fault) f.says

pub unprompted_from : {V : Type 0} {F : List ℕ → Option ErrorCode → Option (List ℕ) → Type 0} → Lacks F → (m : Bool) (old : State) (result : Result V Error) → IfErr result (RefusedWith m F old) → Unprompted old result
unprompted_from l m old (Ok v) k = tt
unprompted_from l false old (Err e) k = refused_other l old e k
unprompted_from l true old (Err e) (inl m) = λ live. memory_other e m.kind
unprompted_from l true old (Err e) (inr k) = refused_other l old e k

-- what a comment at fault says is something else too
pub blanks_other : {s : Cursor} (e : Error) → Refused FaultyBlanks s e → kind_of e ≢ code codes.Failed
blanks_other e f = let (before, part, shown, fault) = f.fault in other_says f.reason e (in_blanks_other fault) f.says

-- ---- the law of a read, from its steps

pub or_memory_as : (m : Bool) {F : List ℕ → Option ErrorCode → Option (List ℕ) → Type 0} (old : State) (e : Error) → RefusedWith m F old e → RefusedByOrMemory F old e
or_memory_as false old e k = inr k
or_memory_as true old e k = k

-- what gave up after the gap gave up
pub given_up : (old mid new : State) → PassedGap old mid → GivesUp mid new → GivesUp old new
given_up old mid new p g = record { failed = g.failed; same_text = g.same_text ∙ input_of p.rest }

pub given_up_after : (old mid new last : State) (s : List ℕ) → PassedGap old mid → TookText mid s new → GivesUp new last → GivesUp old last
given_up_after old mid new last s p k g = given_up old mid last p (record { failed = g.failed; same_text = g.same_text ∙ input_of k.rest })

pub gives_up : (old new : State) → new ≡ record old { failed = true } → GivesUp old new
gives_up old new e = record { failed = ap (λ (s : State). s.failed) e; same_text = ap (λ (s : State). s.input) e }

-- a value was read
pub reads_ok : {V C : Type 0} (kind : Kind C) (content : V → C) (old new : State) (v : V) → Gives content kind.convert old new v → ReadsAs kind content old new (Ok v)
reads_ok kind content old new v (t, took, is) = record {
  sound = (t, took, is);
  complete = tt;
  no_memory = λ t r c live reads shallow is allocation_free. refl;
  refused = tt;
  unprompted = tt;
  same_text = input_of took.rest;
  failed = tt;
  before = λ f. true_false f took.live;
}

-- the token in front was refused
pub reads_err : {V C : Type 0} {kind : Kind C} → IsLawful kind → (content : V → C) (old new : State) (e : Error) → CompletesFree {V = V} kind.allocation_free kind.convert old (Err e) → RefusedWith kind.may_lack_memory kind.IsFault old e → GivesUp old new
    → StaysFailed {V = V} old new (Err e) → ReadsAs kind content old new (Err e)
reads_err {V = V} {kind = kind} l content old new e allocation_free k failed before = record {
  sound = tt;
  complete = completes_or_memory {V = V} l.expected old (Err e) (or_memory_as kind.may_lack_memory old e k);
  no_memory = allocation_free;
  refused = k;
  unprompted = unprompted_from {V = V} l.lacks kind.may_lack_memory old (Err e) k;
  same_text = failed.same_text;
  failed = failed.failed;
  before = before;
}

passed_on : (m : Bool) {F : List ℕ → Option ErrorCode → Option (List ℕ) → Type 0} (old : State) (e : Error) → RefusedBy F old e → RefusedWith m F old e
passed_on false old e k = k
passed_on true old e k = inr k

-- a fault of the relation
pub refuses : {V C : Type 0} {kind : Kind C} → IsLawful kind → (content : V → C) (old new : State) (e : Error) → RefusedBy kind.IsFault old e → GivesUp old new → StaysFailed {V = V} old new (Err e) → ReadsAs kind content old new (Err e)
refuses {kind = kind} l content old new e k =
    reads_err l content old new e (λ t r c live reads shallow is allocation_free. absurd (wrongly_refused l.expected old e t r c live reads is k)) (passed_on kind.may_lack_memory old e k)

-- a comment before it is at fault, or the reader had failed
pub not_begun : {V C : Type 0} {kind : Kind C} → IsLawful kind → (content : V → C) (old new : State) (e : Error) → (old.failed ≡ false → Refused FaultyBlanks (cursor_of old) e) → GivesUp old new → StaysFailed {V = Unit {0}} old new (Err e)
    → ReadsAs kind content old new (Err e)
not_begun l content old new e k failed before = refuses l content old new e (refused_blanks old e k) failed before

-- after the blanks, a fault of the relation
pub refuses_after : {V C : Type 0} {kind : Kind C} → IsLawful kind → (content : V → C) (old mid new : State) (e : Error) → PassedGap old mid → Refused kind.IsFault (cursor_of mid) e → GivesUp mid new → ReadsAs kind content old new (Err e)
refuses_after l content old mid new e p k failed = refuses l content old new e (refused_token old mid e p k) (given_up old mid new p failed) (λ f. true_false f p.live)

-- the same, or memory ran out, if no tree is read without memory
pub refuses_value : {V C : Type 0} {kind : Kind C} → IsLawful kind → kind.may_lack_memory ≡ true → ((t : Tree) → kind.allocation_free t ≡ false) → (content : V → C) (old mid new : State) (e : Error) → PassedGap old mid → RefusedByOrMemory kind.IsFault old e → GivesUp mid new
    → ReadsAs kind content old new (Err e)
refuses_value {V = V} {kind = kind} l m none content old mid new e p k failed = reads_err l content old new e
    (λ t r c live reads shallow is allocation_free. absurd (let both : false ≡ true = sym (none t) ∙ allocation_free in cc))
    (subst (λ z. RefusedWith z kind.IsFault old e) (sym m) k)
    (given_up old mid new p failed)
    (λ h. true_false h p.live)

-- memory ran out after the token was taken, if no tree is read without memory
pub refuses_memory : {V C : Type 0} {kind : Kind C} → IsLawful kind → kind.may_lack_memory ≡ true → ((t : Tree) → kind.allocation_free t ≡ false) → (content : V → C) (old mid new last : State) (e : Error) (s : List ℕ) → PassedGap old mid → TookText mid s new → LacksMemory e
    → GivesUp new last → ReadsAs kind content old last (Err e)
refuses_memory {V = V} {kind = kind} l m none content old mid new last e s p k is failed = reads_err l content old last e
    (λ t r c live reads shallow converts allocation_free. absurd (let both : false ≡ true = sym (none t) ∙ allocation_free in cc))
    (subst (λ z. RefusedWith z kind.IsFault old e) (sym m) (inl is))
    (given_up_after old mid new last s p k failed)
    (λ h. true_false h p.live)

-- ---- the kinds

pub lawful_null : IsLawful null_kind
lawful_null = record { expected = expects_null; lacks = word_lacks null_text codes.EofParsingNull codes.ExpectedNull (λ e. absurd (cc)) (λ e. absurd (cc)) }

-- null is taken, or refused
pub null_result : (old mid new : State) (result : Result (Unit {0}) Error) → PassedGap old mid → PassesWord null_text codes.EofParsingNull codes.ExpectedNull mid new result → ReadsNull old new result
null_result old mid new (Ok u) p k = reads_ok null_kind (λ _. tt) old new u (null, took_leaf old mid new null_text null refl p k.taken is_null (null_stops new.unread), refl)
null_result old mid new (Err e) p k = refuses_after lawful_null (λ _. tt) old mid new e p k.refused k.failed

pub lawful_bool : IsLawful bool_kind
lawful_bool = record { expected = expects_bool; lacks = λ x. word_lacks (if begins_with 0x66 x then false_text else true_text) codes.EofParsingBool codes.ExpectedBool (λ e. absurd (cc)) (λ e. absurd (cc)) x }

pub lawful_whole : {C : Type 0} (f : ℤ → Option C) → IsLawful (whole_kind f)
lawful_whole f = record { expected = expects_number (as_whole f); lacks = number_lacks (as_whole f) }

pub lawful_decimal : IsLawful decimal_kind
lawful_decimal = record { expected = expects_number every_decimal; lacks = number_lacks every_decimal }

-- ---- whole numbers

-- the number in front was refused, and a whole number isn't refused
pub number_refused : {V C : Type 0} (f : ℤ → Option C) (content : V → C) (old mid new : State) (e : Error) → PassedGap old mid → LacksMemory e ⊎ Refused FaultyNumber (cursor_of mid) e → GivesUp mid new
    → ((s r : List ℕ) (n : Number) → mid.unread ≡ s ++ r → Num s n → NotBegun (lengthens s) r → keeps_digits n ≡ false → false ≡ true)
    → ReadsAs (whole_kind f) content old new (Err e)
number_refused f content old mid new e p k failed memory =
    reads_err (lawful_whole f) content old new e
    (λ t r v live reads shallow converts allocation_free. let w = whole_there f old mid t r v p reads converts in absurd (false≢true (memory w.literal r w.number w.split w.is_number w.stops w.allocation_free)))
    (refused_or_memory old mid e (λ x reason place g. faulty_number g) p k)
    (given_up old mid new p failed)
    (λ h. true_false h p.live)

pub not_whole : {V C : Type 0} (f : ℤ → Option C) (content : V → C) (old mid new last : State) (result : Result V Error) (start : ℕ) (s : List ℕ) (n : Number) → PassedGap old mid → TookText mid s new → Num s n → Stops s new.unread → as_whole f n ≡ None
    → StartsAt mid start → IsErrAnd result (IsMismatch new.input start) → GivesUp new last → ReadsAs (whole_kind f) content old last result
not_whole f content old mid new last (Ok v) start s n p k num stops none at is failed = absurd is
not_whole f content old mid new last (Err e) start s n p k num stops none at is failed =
    reads_err (lawful_whole f) content old last e
    (λ t r v live reads shallow converts allocation_free. absurd (no_other_number (as_whole f) old mid new s n t r v p k num stops none reads converts))
    (refused_number {V = Unit {0}} (as_whole f) old mid new (Err e) start s n p k num stops none at is)
    (given_up_after old mid new last s p k failed)
    (λ h. true_false h p.live)

-- what is no whole number is no whole number in a range
pub narrower : {V W C : Type 0} (f : ℤ → Option C) (wide : V → ℤ) (content : W → C) (old new : State) (e : Error) → ReadsAs (whole_kind (λ z. Some z)) wide old new (Err e) → ReadsAs (whole_kind f) content old new (Err e)
narrower {C = C} f wide content old new e k =
    reads_err (lawful_whole f) content old new e
    (λ t r v live reads shallow converts allocation_free. let (z, is) = some_whole t v converts in k.no_memory t r z live reads shallow is refl)
    (narrowed k.refused)
    (record { failed = k.failed; same_text = k.same_text })
    k.before
  where
    some_number : (n : Number) (v : C) → as_whole f n ≡ Some v → (z : ℤ) × (as_whole (λ x. Some x) n ≡ Some z)
    some_number (whole z) v e = (z, refl)
    some_number (decimal d) v e = absurd (cc)

    some_whole : (t : Tree) (v : C) → as_number (as_whole f) t ≡ Some v → (z : ℤ) × (as_number (as_whole (λ x. Some x)) t ≡ Some z)
    some_whole (number n) v e = some_number n v e
    some_whole null v e = absurd (cc)
    some_whole (boolean b) v e = absurd (cc)
    some_whole (text u escape_free) v e = absurd (cc)
    some_whole (array ts) v e = absurd (cc)
    some_whole (object ps) v e = absurd (cc)

    none_number : (n : Number) → as_whole (λ x. Some x) n ≡ None → as_whole f n ≡ None
    none_number (whole z) e = absurd (cc)
    none_number (decimal d) e = refl

    wider : (x : List ℕ) (reason : Option ErrorCode) (place : Option (List ℕ)) → NotNumber (as_whole (λ x. Some x)) x reason place → NotNumber (as_whole f) x reason place
    wider x reason place (faulty_number k) = faulty_number k
    wider x reason place (other_number {n = n} r num stops none) = other_number r num stops (none_number n none)

    after : (x : List ℕ) (reason : Option ErrorCode) (place : Option (List ℕ)) → AfterBlanks (NotNumber (as_whole (λ x. Some x))) x reason place → AfterBlanks (NotNumber (as_whole f)) x reason place
    after x reason place (in_blanks f) = in_blanks f
    after x reason place (after_gap {x = y} {reason = c} {place = p} g s f) = after_gap g s (wider y c p f)

    narrowed : RefusedByOrMemory (NotNumber (as_whole (λ x. Some x))) old e → RefusedByOrMemory (NotNumber (as_whole f)) old e
    narrowed (inl m) = inl m
    narrowed (inr k) = inr (λ live. let f = k live in record { reason = f.reason; place = f.place; fault = after _ f.reason f.place f.fault; says = f.says; placed = f.placed })

-- the number is in the range
pub in_range : {V C : Type 0} (f : ℤ → Option C) (content : V → C) (old new : State) (start : ℕ) (z : ℤ) (v : V) → WholeAt old new start z → f z ≡ Some (content v) → ReadsAs (whole_kind f) content old new (Ok v)
in_range f content old new start z v w is =
    reads_ok (whole_kind f) content old new v (number (whole z), took_leaf old w.between new w.phrase (number (whole z)) refl w.passed w.took (is_number w.is_number) w.stops, is)

-- it isn't
pub out_of_range : {V C : Type 0} (f : ℤ → Option C) (content : V → C) (old new last : State) (result : Result V Error) (start : ℕ) (z : ℤ) → WholeAt old new start z → f z ≡ None → IsErrAnd result (IsMismatch new.input start) → GivesUp new last
    → ReadsAs (whole_kind f) content old last result
out_of_range f content old new last result start z w none is failed = not_whole f content old w.between new last result start w.phrase (whole z) w.passed w.took w.is_number w.stops none w.counted is failed

-- ---- strings

pub lawful_coded : {C : Type 0} (other : Option ErrorCode) → other ≢ Some codes.Failed → (f : List ℕ → Bool → Option C) (allocation_free : Tree → Bool) → IsLawful (coded_text_kind other f allocation_free)
lawful_coded other h f allocation_free = record { expected = expects_text other f; lacks = text_lacks other h f }

pub lawful_text : {C : Type 0} (f : List ℕ → Bool → Option C) (allocation_free : Tree → Bool) → IsLawful (text_kind f allocation_free)
lawful_text = lawful_coded None (λ e. absurd (cc))

pub lawful_bytes : IsLawful bytes_kind
lawful_bytes = lawful_coded (Some codes.InvalidBytes) (λ e. absurd (cc)) digits_bytes no_tree

-- the string in front was taken or refused
pub reads_text : {V C : Type 0} (f : List ℕ → Bool → Option C) (allocation_free : Tree → Bool) (content : V → C) (old mid new : State) (result : Result V Error) → PassedGap old mid → IfOk result (Gives content (as_text f) old new)
    → IfErr result (λ e. LacksMemory e ⊎ Refused FaultyString (cursor_of mid) e) → OnErr result (GivesUp mid new) → CompletesFree allocation_free (as_text f) old result → ReadsAs (text_kind f allocation_free) content old new result
reads_text f allocation_free content old mid new (Ok v) p gives k failed complete = reads_ok (text_kind f allocation_free) content old new v gives
reads_text f allocation_free content old mid new (Err e) p gives k failed complete =
    reads_err (lawful_text f allocation_free) content old new e complete (refused_or_memory old mid e (λ x reason place g. faulty_text g) p k) (given_up old mid new p failed) (λ h. true_false h p.live)

-- it isn't of the type
pub not_coded : {V C : Type 0} (other : Option ErrorCode) → other ≢ Some codes.Failed → (f : List ℕ → Bool → Option C) (allocation_free : Tree → Bool) (content : V → C) (old mid new last : State) (result : Result V Error) (start : ℕ) (s u : List ℕ) (escape_free : Bool)
    → PassedGap old mid → TookText mid s new → Str s u escape_free → f u escape_free ≡ None → StartsAt mid start → IsErrAnd result (IsMismatchOf other new.input start) → GivesUp new last → ReadsAs (coded_text_kind other f allocation_free) content old last result
not_coded other h f allocation_free content old mid new last (Ok v) start s u escape_free p k str none at is failed = absurd is
not_coded other h f allocation_free content old mid new last (Err e) start s u escape_free p k str none at is failed =
    reads_err (lawful_coded other h f allocation_free) content old last e
    (λ t r v live reads shallow converts allocation_free. absurd (no_other_text f old mid new s u escape_free t r v p k str none reads converts))
    (refused_text {V = Unit {0}} other f old mid new (Err e) start s u escape_free p k str none at is)
    (given_up_after old mid new last s p k failed)
    (λ h. true_false h p.live)

pub not_text : {V C : Type 0} (f : List ℕ → Bool → Option C) (allocation_free : Tree → Bool) (content : V → C) (old mid new last : State) (result : Result V Error) (start : ℕ) (s u : List ℕ) (escape_free : Bool) → PassedGap old mid → TookText mid s new → Str s u escape_free
    → f u escape_free ≡ None → StartsAt mid start → IsErrAnd result (IsMismatch new.input start) → GivesUp new last → ReadsAs (text_kind f allocation_free) content old last result
not_text = not_coded None (λ e. absurd (cc))

escape_free_converts : (t : Tree) → escape_free_text t ≡ true → (v : List ℕ) × (as_text if_escape_free t ≡ Some v)
escape_free_converts null e = absurd (cc)
escape_free_converts (boolean b) e = absurd (cc)
escape_free_converts (number n) e = absurd (cc)
escape_free_converts (text u true) e = (_, refl)
escape_free_converts (text u false) e = absurd (cc)
escape_free_converts (array ts) e = absurd (cc)
escape_free_converts (object ps) e = absurd (cc)

-- an escape-free string takes no memory
pub escape_free_completes : {V C : Type 0} (convert : Tree → Option C) (old mid : State) (result : Result V Error) → PassedGap old mid → ((s u r : List ℕ) → mid.unread ≡ s ++ r → Str s u true → IsOk result) → CompletesFree escape_free_text convert old result
escape_free_completes convert old mid result p ok t r c live reads shallow is allocation_free =
    let (v, converts) = escape_free_converts t allocation_free in
    let k = escape_free_there old mid t r v p reads converts in
    ok k.string k.text r k.split k.is_string

pub escape_free_refused : {V : Type 0} (content : V → List ℕ) (old mid new : State) (e : Error) → PassedGap old mid → LacksMemory e ⊎ Refused FaultyString (cursor_of mid) e → GivesUp mid new → ((s u r : List ℕ) → mid.unread ≡ s ++ r → Str s u true → false ≡ true)
    → ReadsAs escape_free_kind content old new (Err e)
escape_free_refused content old mid new e p k failed ok =
    reads_text if_escape_free every_tree content old mid new (Err e) p tt k failed
    (λ t r v live reads shallow is allocation_free. let k = escape_free_there old mid t r v p reads is in absurd (false≢true (ok k.string k.text r k.split k.is_string)))

-- ---- values of any kind

-- ---- the codes

-- the same results, with the faults alone
abbrev Answers : {V C : Type 0} → (m : Bool) → FaultRelation → (Tree → Option C) → (V → C) → State → State → Result V Error → Type 0
Answers m F convert content old new result = IfOk result (λ v. Gives content convert old new v) × IfErr result (RefusedWith m F old)

answers : {V C : Type 0} (kind : Kind C) (content : V → C) (old new : State) (result : Result V Error) → ReadsAs kind content old new result → Answers kind.may_lack_memory kind.IsFault kind.convert content old new result
answers kind content old new (Ok v) k = (k.sound, tt)
answers kind content old new (Err e) k = (tt, k.refused)

ends_as : {V C : Type 0} {kind : Kind C} → IsLawful kind → (m : Bool) → kind.may_lack_memory ≡ m → (content : V → C) (old new : State) (result : Result V Error) → Answers m kind.IsFault kind.convert content old new result → EndsWhere m kind.ends old result
ends_as l false e content old new result k = ends_from l.expected content old new result k.0 k.1
ends_as l true e content old new result k = ends_or_memory LacksMemory l.expected content old new result k.0 k.1

differs_as : {V C : Type 0} {kind : Kind C} → IsLawful kind → (m : Bool) → kind.may_lack_memory ≡ m → (content : V → C) (old new : State) (result : Result V Error) → Answers m kind.IsFault kind.convert content old new result → DiffersWhere m kind.begins kind.differs old result
differs_as l false e content old new result k = differs_from l.expected content old new result k.0 k.1
differs_as l true e content old new result k = differs_or_memory LacksMemory l.expected content old new result k.0 k.1

pub tells_apart : {V C : Type 0} {kind : Kind C} → IsLawful kind → (content : V → C) → TellsApart kind content
tells_apart {kind = kind} l content old new result k =
    let a = answers kind content old new result k in
    (ends_as l kind.may_lack_memory refl content old new result a, differs_as l kind.may_lack_memory refl content old new result a)
