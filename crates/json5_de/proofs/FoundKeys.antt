-- What a read of a key means, from its steps.
use Rattle.std.proofs.Common.{◌≡◌, ℕ, Bool, true, false, List, [], ◌++◌, refl, ap, sym, ◌∙◌, subst, ◌⊎◌, inl, inr, Option, Some, None}
use Rattle.std.specs.Prelude.{Result, Ok, Err, length}
use Rattle.std.specs.Str.{encode_utf8_all, chars}
use Rattle.std.proofs.lemmas.Bool.{false≢true}
use Rattle.std.proofs.lemmas.List.{append-nil}
use Rattle.std.proofs.lemmas.Option.{same_Some}
use Rattle.std.proofs.lemmas.Str.{chars-encodes}
use Rattle.json5_grammar.specs.declared.error_code.ErrorCode.{ErrorCode}
use Rattle.json5_grammar.specs.declared.error_code.ErrorCode.TheVariants as codes
use Rattle.json5_grammar.specs.Language.Blanks.{Blanks, Gap}
use Rattle.json5_grammar.specs.Faults.Tokens.{BlankFault}
use Rattle.json5_grammar.specs.Language.Documents.{Doc, max_depth}
use Rattle.json5_grammar.specs.Model.Collections.{ReadsKey}
use Rattle.json5_grammar.specs.Language.Names.{Key}
use Rattle.json5_grammar.specs.Faults.Positions.{position_after}
use Rattle.json5_grammar.specs.Language.Trees.{Tree}
use Rattle.json5_grammar.proofs.CommonLemmas.{none_some, true_false}
use Rattle.json5_grammar.proofs.BlanksSound.{gap_blanks, no_blank_fault, one_gap}
use Rattle.json5_grammar.proofs.ObjectsRead.{one_reads_key}
use Rattle.json5_grammar.proofs.ValueHeads.{key_head, key_solid}
use Rattle.json5_types.specs.declared.error.Error.{Error}
use Rattle.json5_types.specs.Errors.{LacksMemory, code, custom, kind_of, error_position}
use Rattle.json5_tokens.specs.Cursor.{Refused, Says, IsOutOfMemory}
use Rattle.json5_tokens.specs.TokenFaults.{FaultyBlanks, FaultyKey}
use Rattle.json5_de.specs.declared.de.tokens.FoundText.{FoundText}
use Rattle.json5_de.specs.State.{State, GivesUp, cursor_of}
use Rattle.json5_de.specs.DeserializeLaw.{StaysFailed, IsUnprompted}
use Rattle.json5_de.specs.Convert.{index_of}
use Rattle.json5_de.specs.ConvertLists.{if_some}
use Rattle.json5_de.specs.Faults.{RefusedBy, RefusedByOrMemory}
use Rattle.json5_read.specs.EntryFaults.{AfterBlanks, in_blanks, after_gap}
use Rattle.json5_de.specs.Keys.{TookKey, KeyConversion, GivesKey, CompletesAnyKey, CompletesEscapeFreeKey, OneKeyAnswer, ReadsKeyOf, ReadsOneKey}
use Rattle.json5_de.specs.KeyKinds.{KeyFault, KeyKind, NotKey, no_key, other_key, ReadsKeyAs, not_converted, coded_text_key, text_key, document_key, document_of, NotDocument, some_of, variant_key}
use Rattle.json5_de.specs.FoundTexts.{TookKeyAt, JudgesText, OfFound}
use Rattle.json5_de.specs.KeySteps.{IsTextFault, no_memory, at_key, is_out_of_memory}
use Rattle.json5_de.specs.TokenKinds.{Kind, RefusedAs}
use Rattle.json5_de.specs.ReaderSteps.{PassedGap, IsMismatch, IsMismatchOf}
use Rattle.json5_de.specs.WholeInputs.{ReadsDocument, RefusesReading}
use Rattle.json5_read.proofs.NoFailedCode.{key_lacks, memory_other}
use Rattle.json5_de.proofs.TokenKinds.{refused_other, given_up_after}
use Rattle.json5_de.proofs.ReadSteps.{input_of, refused_token}
use Rattle.json5_de.proofs.KeyDocuments.{converts, is_document, IsRefusedText, refused_text}

-- ---- what is in front

key_gap : {s u : List ℕ} {escape_free : Bool} (w x r : List ℕ) → Key s r u escape_free → Gap w x → x ≡ s ++ r → Blanks w
key_gap w x r k g e = let head = key_head k in gap_blanks head.char (head.more ++ r) (subst (Gap w) (e ∙ ap (λ z. z ++ r) head.is) g)

-- the key that was taken was read from the front
pub took_key : (old new : State) (key : FoundText) → (k : TookKeyAt old new key) → TookKey old k.text k.escape_free new
took_key old new key k = record {
  live = k.passed.live;
  reads = record {
    front = k.passed.gap;
    spelling = k.spelling;
    split = k.passed.split ∙ ap (λ y. k.passed.gap ++ y) k.took.split;
    blank = key_gap k.passed.gap k.between.unread new.unread k.is_spelling k.passed.is_gap k.took.split;
    key = k.is_spelling;
  };
  rest = k.took.rest ∙ ap (λ (m : State). record m { unread = new.unread }) k.passed.rest;
}

-- what can be read as a key follows the gap
pub key_after : (old mid : State) (u : List ℕ) (escape_free : Bool) (r : List ℕ) → PassedGap old mid → (h : ReadsKey old.unread u escape_free r) → mid.unread ≡ h.spelling ++ r
key_after old mid u escape_free r p h = (one_gap h.front (h.spelling ++ r) p.gap mid.unread (Gap.blanks h.blank) (key_solid r (key_head h.key)) p.is_gap p.solid (sym h.split ∙ p.split)).1

-- no comment is at fault before a key
pub no_fault_before : (old : State) (e : Error) (u : List ℕ) (escape_free : Bool) (r : List ℕ) → ReadsKey old.unread u escape_free r → Refused FaultyBlanks (cursor_of old) e → ⊥
no_fault_before old e u escape_free r h f =
    let (before, part, shown, fault) = f.fault in
    no_blank_fault (Gap.blanks h.blank) (key_solid r (key_head h.key)) (subst (λ x. BlankFault x f.reason f.place before part shown) h.split fault)

-- it is the key that was taken
the_key : (old new : State) (key : FoundText) (u : List ℕ) (escape_free : Bool) (r : List ℕ) → (k : TookKeyAt old new key) → ReadsKey old.unread u escape_free r → (k.text ≡ u) × (k.escape_free ≡ escape_free)
the_key old new key u escape_free r k h = let one = one_reads_key old.unread new.unread r k.text u k.escape_free escape_free (took_key old new key k).reads h in (one.0, one.1)

-- ---- the law of a key, from its steps

-- a key was read
pub key_ok : {V C : Type 0} (content : V → C) (convert : KeyConversion C) (refuses : State → Error → State → Type 0) (old new : State) (v : V) → GivesKey content convert old new v → ReadsOneKey content convert refuses old new (Ok v)
key_ok content convert refuses old new v (u, escape_free, took, is) = record {
  sound = (u, escape_free, took, is);
  complete = tt;
  refused = tt;
  unprompted = tt;
  same_text = input_of took.rest;
  failed = tt;
  before = λ f. true_false f took.live;
}

after_key : {IsFault : KeyFault} (x : List ℕ) (reason : Option ErrorCode) (place : Option (List ℕ)) → AfterBlanks FaultyKey x reason place → AfterBlanks (NotKey IsFault) x reason place
after_key x reason place (in_blanks f) = in_blanks f
after_key x reason place (after_gap g s f) = after_gap g s (no_key f)

no_key_there : {IsFault : KeyFault} (old : State) (e : Error) → RefusedByOrMemory FaultyKey old e → RefusedByOrMemory (NotKey IsFault) old e
no_key_there old e (inl m) = inl m
no_key_there old e (inr k) = inr (λ live. let f = k live in record { reason = f.reason; place = f.place; fault = after_key old.unread f.reason f.place f.fault; says = f.says; placed = f.placed })

key_other : (old : State) (e : Error) → RefusedByOrMemory FaultyKey old e → old.failed ≡ false → IsUnprompted e
key_other old e (inl m) live = memory_other e m.kind
key_other old e (inr k) live = refused_other key_lacks old e k live

-- a key without an escape isn't refused
pub found_free : (old : State) (e : Error) → CompletesAnyKey {V = FoundText} old (Err e) → CompletesEscapeFreeKey {V = Unit {0}} old (Err e)
found_free old e complete u r live reads = absurd (false≢true (sym (complete u true r live reads).1))

-- what holds of a key holds of the key of a type
pub as_type : {V C : Type 0} {content : V → C} {convert : KeyConversion C} {refuses : State → Error → State → Type 0} {old new : State} {result : Result V Error} → ReadsOneKey content convert refuses old new result → ReadsKeyOf content convert refuses old new result
as_type k = record { sound = k.sound; complete = k.complete; refused = k.refused; unprompted = k.unprompted; same_text = k.same_text }

-- no key was found
pub not_found : {V C : Type 0} (kind : KeyKind C) (content : V → C) (old new : State) (e : Error) → RefusedByOrMemory FaultyKey old e → CompletesAnyKey {V = FoundText} old (Err e) → GivesUp old new → StaysFailed {V = FoundText} old new (Err e)
    → ReadsKeyAs kind content old new (Err e)
not_found kind content old new e k complete failed before = record {
  sound = tt;
  complete = record { memory = λ u escape_free r c live reads is. (complete u escape_free r live reads).0 };
  refused = no_key_there old e k;
  unprompted = key_other old e k;
  same_text = failed.same_text;
  failed = failed.failed;
  before = before;
}

-- a key was found, and refused
refuses_found : {V C : Type 0} (kind : KeyKind C) (content : V → C) (old new last : State) (key : FoundText) (e : Error) → (k : TookKeyAt old new key) → (kind.convert k.text k.escape_free ≡ None) ⊎ IsOutOfMemory e → RefusedByOrMemory (NotKey kind.IsFault) old e → IsUnprompted e → GivesUp new last
    → ReadsKeyAs kind content old last (Err e)
refuses_found {C = C} kind content old new last key e k not refused other gives_up = let failed = given_up_after old k.between new last k.spelling k.passed k.took gives_up in record {
  sound = tt;
  complete = record { memory = completes not };
  refused = refused;
  unprompted = λ live. other;
  same_text = failed.same_text;
  failed = failed.failed;
  before = λ h. true_false h k.passed.live;
}
  where
    completes : (kind.convert k.text k.escape_free ≡ None) ⊎ IsOutOfMemory e → (u : List ℕ) (escape_free : Bool) (r : List ℕ) (c : C) → old.failed ≡ false → ReadsKey old.unread u escape_free r → kind.convert u escape_free ≡ Some c → IsOutOfMemory e
    completes (inl none) u escape_free r c live reads is =
        let (text, mark) = the_key old new key u escape_free r k reads in
        absurd (none_some (kind.convert u escape_free) c (subst (λ z. kind.convert u z ≡ None) mark (subst (λ z. kind.convert z k.escape_free ≡ None) text none)) is)
    completes (inr m) u escape_free r c live reads is = m

-- a fault of the key's text, at the key
refused_key : {IsFault : KeyFault} (old new : State) (key : FoundText) (e : Error) (reason : Option ErrorCode) → (k : TookKeyAt old new key) → IsFault k.text k.escape_free reason → Says reason e
    → ((before rest : List ℕ) → new.input ≡ before ++ rest → key.start ≡ length (encode_utf8_all before) → error_position e ≡ Some (position_after before)) → RefusedBy (NotKey IsFault) old e
refused_key {IsFault = IsFault} old new key e reason k fault says placed = refused_token old k.between e k.passed (record {
  reason = reason;
  place = Some [];
  fault = subst (λ x. NotKey IsFault x reason (Some [])) (sym k.took.split) (other_key new.unread k.is_spelling fault);
  says = says;
  placed = λ before whole. subst (λ z. error_position e ≡ Some (position_after z)) (sym (append-nil before)) (placed before k.between.unread (input_of k.took.rest ∙ whole) (k.counted before whole));
})

-- memory ran out
pub key_lacks_memory : {V C : Type 0} (kind : KeyKind C) (content : V → C) (old new last : State) (key : FoundText) (e : Error) → TookKeyAt old new key → LacksMemory e → GivesUp new last → ReadsKeyAs kind content old last (Err e)
key_lacks_memory kind content old new last key e k m failed = refuses_found kind content old new last key e k (inr m.kind) (inl m) (memory_other e m.kind) failed

-- ---- texts

-- the text converts
pub key_is_text : {V C : Type 0} {of_other : Option ErrorCode} (f : KeyConversion C) (content : V → C) (old new : State) (key : FoundText) (v : V) → (k : TookKeyAt old new key) → f k.text k.escape_free ≡ Some (content v) → ReadsKeyAs (coded_text_key of_other f) content old new (Ok v)
key_is_text f content old new key v k is = key_ok content f _ old new v (k.text, k.escape_free, took_key old new key k, is)

pub mismatch_other : (of_other : Option ErrorCode) (input : List ℕ) (start : ℕ) (e : Error) → (of_other ≡ Some codes.Failed → ⊥) → IsMismatchOf of_other input start e → IsUnprompted e
mismatch_other of_other input start e unlike (inl m) = memory_other e m.kind
mismatch_other None input start e unlike (inr ((own, says), placed)) = λ k. let same : custom own ≡ code codes.Failed = sym says ∙ k in absurd (cc)
mismatch_other (Some c) input start e unlike (inr (says, placed)) = λ k. let same : code c ≡ code codes.Failed = sym says ∙ k in unlike (ap Some (cc))

-- it doesn't
pub key_not_coded : {V C : Type 0} (of_other : Option ErrorCode) (f : KeyConversion C) (content : V → C) (old new last : State) (key : FoundText) (e : Error) → (of_other ≡ Some codes.Failed → ⊥) → (k : TookKeyAt old new key) → f k.text k.escape_free ≡ None
    → IsMismatchOf of_other new.input key.start e → GivesUp new last → ReadsKeyAs (coded_text_key of_other f) content old last (Err e)
key_not_coded of_other f content old new last key e unlike k none is failed =
    refuses_found (coded_text_key of_other f) content old new last key e k (inl none) (refused is) (mismatch_other of_other new.input key.start e unlike is) failed
  where
    refused : IsMismatchOf of_other new.input key.start e → RefusedByOrMemory (NotKey (not_converted of_other f)) old e
    refused (inl m) = inl m
    refused (inr (says, placed)) = inr (refused_key old new key e of_other k (refl, none) says placed)

pub key_not_text : {V C : Type 0} (f : KeyConversion C) (content : V → C) (old new last : State) (key : FoundText) (e : Error) → (k : TookKeyAt old new key) → f k.text k.escape_free ≡ None → IsMismatch new.input key.start e → GivesUp new last
    → ReadsKeyAs (text_key f) content old last (Err e)
key_not_text f content old new last key e k none is failed = key_not_coded None f content old new last key e (λ e. absurd (cc)) k none is failed

-- the text is looked at without a copy
pub key_judged : {V C : Type 0} (lacks : Bool) (of_other : Option ErrorCode) → (of_other ≡ Some codes.Failed → ⊥) → (f : KeyConversion C) (content : V → C) (old new last : State) (key : FoundText) (result : Result V Error) → TookKeyAt old new key
    → JudgesText lacks of_other f content key new last result → ReadsKeyAs (coded_text_key of_other f) content old last result
key_judged lacks of_other unlike f content old new last key (Ok v) k j =
    subst (λ s. ReadsKeyAs (coded_text_key of_other f) content old s (Ok v)) (sym j.kept) (key_is_text f content old new key v k (j.converts k.text k.escape_free k.is_text k.scalars))
key_judged {V = V} {C = C} lacks of_other unlike f content old new last key (Err e) k j = by_cause j.other
  where
    by_cause : ((lacks ≡ true) × LacksMemory e) ⊎ OfFound new key (λ u escape_free. f u escape_free ≡ None) → ReadsKeyAs (coded_text_key of_other f) content old last (Err e)
    by_cause (inl (may, memory)) = key_lacks_memory (coded_text_key of_other f) content old new last key e k memory j.failed
    by_cause (inr none) = key_not_coded of_other f content old new last key e unlike k (none k.text k.escape_free k.is_text k.scalars) j.refused j.failed

-- the same of the name of a variant
pub variant_key_judged : (names : List (List ℕ)) (old new last : State) (key : FoundText) (result : Result ℕ Error) → TookKeyAt old new key → JudgesText false None (index_of names) (λ n. n) key new last result → ReadsKeyAs (variant_key names) (λ n. n) old last result
variant_key_judged names old new last key result k j = key_judged false None (λ e. absurd (cc)) (index_of names) (λ n. n) old new last key result k j

-- the bytes of the key's text have the text's characters
pub key_characters : (old new : State) (key : FoundText) (bytes : List ℕ) → (k : TookKeyAt old new key) → bytes ≡ encode_utf8_all k.text → chars bytes ≡ k.text
key_characters old new key bytes k same = ap chars same ∙ chars-encodes k.text k.scalars

-- ---- documents

-- the text is a document that converts
pub key_is_document : {V C : Type 0} (kind : Kind C) (content : V → C) (old new : State) (key : FoundText) (v : V) (x : List ℕ) → (k : TookKeyAt old new key) → x ≡ k.text → ((t : Tree) × Doc max_depth x t × (kind.convert t ≡ Some (content v)))
    → ReadsKeyAs (document_key kind) content old new (Ok v)
key_is_document kind content old new key v x k same (t, doc, is) =
    key_ok content (document_of kind.convert) _ old new v (k.text, k.escape_free, took_key old new key k, converts kind.convert k.text k.escape_free t (content v) (subst (λ z. Doc max_depth z t) same doc) is)

-- it isn't
pub key_no_document : {V C : Type 0} (kind : Kind C) (content : V → C) (old new last : State) (key : FoundText) (x : List ℕ) (own e : Error) → (k : TookKeyAt old new key) → x ≡ k.text → ReadsDocument content kind.convert max_depth x (Err own)
    → RefusesReading kind.convert (RefusedAs kind) max_depth x own → IsUnprompted own → IsTextFault new.input key.start own e → GivesUp new last → ReadsKeyAs (document_key kind) content old last (Err e)
key_no_document {C = C} kind content old new last key x own e k same complete refuses other fault failed = let gives_up = given_up_after old k.between new last k.spelling k.passed k.took failed in record {
  sound = tt;
  complete = record { memory = λ u escape_free r c live reads is. lacks fault (completes u escape_free r c reads is) };
  refused = refused fault (refused_text kind k.text k.escape_free own (subst (λ z. RefusesReading kind.convert (RefusedAs kind) max_depth z own) same refuses));
  unprompted = λ live. not_failed fault;
  same_text = gives_up.same_text;
  failed = gives_up.failed;
  before = λ h. true_false h k.passed.live;
}
  where
    completes : (u : List ℕ) (escape_free : Bool) (r : List ℕ) (c : C) → ReadsKey old.unread u escape_free r → document_of kind.convert u escape_free ≡ Some c → IsOutOfMemory own
    completes u escape_free r c reads is =
        let (text, mark) = the_key old new key u escape_free r k reads in
        let (t, doc, found) = is_document kind.convert u escape_free c is in
        complete t c (subst (λ z. Doc max_depth z t) (sym (same ∙ text)) doc) found

    lacks : IsTextFault new.input key.start own e → IsOutOfMemory own → IsOutOfMemory e
    lacks (no_memory is memory) m = memory.kind
    lacks (at_key none there is says) m = says.kind ∙ m

    not_failed : IsTextFault new.input key.start own e → IsUnprompted e
    not_failed (no_memory is memory) = memory_other e memory.kind
    not_failed (at_key none there is says) = λ failed. other (sym says.kind ∙ failed)

    same_words : (reason : Option ErrorCode) → kind_of e ≡ kind_of own → Says reason own → Says reason e
    same_words None kind (words, is) = (words, kind ∙ is)
    same_words (Some c) kind is = kind ∙ is

    refused : IsTextFault new.input key.start own e → IsRefusedText kind k.text k.escape_free own → RefusedByOrMemory (NotKey (NotDocument kind)) old e
    refused (no_memory is memory) why = inl memory
    refused (at_key none there is says) (inl m) = absurd (false≢true (sym none ∙ ap is_out_of_memory m.kind))
    refused (at_key none there is says) (inr (reason, why, words)) =
        inr (refused_key old new key e reason k why (same_words reason says.kind words) (λ before rest split counted. says.place ∙ ap Some (is before rest split counted)))

-- ---- one result

-- two values that may be read from one key have the same content, and leave the same
pub same_key : {V C : Type 0} (content : V → C) (convert : KeyConversion C) → OneKeyAnswer content convert
same_key content convert old new last v w (u, p, a, is) (x, q, b, other) =
    let (text, mark, rest) = one_reads_key old.unread new.unread last.unread u x p q a.reads b.reads in (
      same_Some (content v) (content w) (sym is ∙ ap (λ z. convert z p) text ∙ ap (convert x) mark ∙ other),
      a.rest ∙ ap (λ z. record old { unread = z }) rest ∙ sym b.rest,
    )

-- ---- keys that are always there

-- what K gives
pub some_key : {V C : Type 0} (content : V → C) (convert : KeyConversion C) (refuses : State → Error → State → Type 0) (old new : State) (v : V) → ReadsOneKey content convert refuses old new (Ok v)
    → ReadsOneKey (if_some content) (some_of convert) refuses old new (Ok (Some v))
some_key content convert refuses old new v k = let (u, escape_free, took, is) = k.sound in key_ok (if_some content) (some_of convert) refuses old new (Some v) (u, escape_free, took, ap (if_some Some) is)

some_there : {C : Type 0} (o : Option C) (c : Option C) → if_some Some o ≡ Some c → (d : C) × (o ≡ Some d)
some_there None c e = absurd (cc)
some_there (Some d) c e = (d, refl)

-- what K refuses
pub no_some_key : {V C : Type 0} (content : V → C) (convert : KeyConversion C) (refuses : State → Error → State → Type 0) (old new : State) (e : Error) → ReadsOneKey content convert refuses old new (Err e)
    → ReadsOneKey {V = Option V} (if_some content) (some_of convert) refuses old new (Err e)
no_some_key content convert refuses old new e k = record {
  sound = tt;
  complete = record { memory = λ u escape_free r c live reads is. let (d, there) = some_there (convert u escape_free) c is in k.complete.memory u escape_free r d live reads there };
  refused = k.refused;
  unprompted = k.unprompted;
  same_text = k.same_text;
  failed = k.failed;
  before = k.before;
}
