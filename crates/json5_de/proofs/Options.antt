-- The steps of reading an option.
use Rattle.std.proofs.Common.{◌≡◌, ℕ, ◌+◌, ◌≤◌, Bool, true, false, List, [], ◌∷◌, ◌++◌, refl, ap, sym, ◌∙◌, subst, inl, inr, Option, Some, None, arith}
use Rattle.std.specs.Prelude.{◌==◌, Result, Ok, Err}
use Rattle.std.proofs.lemmas.Bool.{false≢true}
use Rattle.json5_grammar.specs.declared.error_code.ErrorCode.TheVariants as codes
use Rattle.json5_grammar.specs.Language.Documents.{max_depth}
use Rattle.json5_grammar.specs.declared.error_code.ErrorCode.{ErrorCode}
use Rattle.json5_grammar.specs.Language.Blanks.{Blanks, Gap, Solid}
use Rattle.json5_grammar.specs.Language.Strings.{quoted}
use Rattle.json5_grammar.specs.Language.Trees.{Tree, null, boolean, number, text, array, object, depth}
use Rattle.json5_grammar.specs.Language.Values.{Val, Reads, is_null, is_true, is_false, is_number, is_text, is_empty_array, is_array, is_empty_object, is_object}
use Rattle.json5_grammar.proofs.BlanksSound.{gap_last}
use Rattle.json5_grammar.proofs.CharacterClasses.{number_others, quote_others}
use Rattle.json5_grammar.proofs.ValueHeads.{val_head, number_head}
use Rattle.json5_grammar.proofs.ArraysRead.{phrase_found, reads_found}
use Rattle.json5_grammar.proofs.EntriesAfterGaps.{reads_here, no_reads_in_blanks}
use Rattle.json5_types.specs.declared.error.Error.{Error}
use Rattle.json5_types.specs.Errors.{code, kind_of, error_position}
use Rattle.json5_tokens.specs.Cursor.{Refused}
use Rattle.json5_tokens.specs.TokenFaults.{FaultyBlanks}
use Rattle.json5_de.specs.State.{State, SameText, GivesUp, cursor_of}
use Rattle.json5_de.specs.DeserializeLaw.{TookValue, Gives, Completes, CompletesFree, Unprompted, ReadsValue}
use Rattle.json5_de.specs.OptionFaults.{NoOption, option_missing, faulty_null, RefusesOption, option_free}
use Rattle.json5_read.specs.Offsets.{PositionedAt}
use Rattle.json5_de.specs.Convert.{unit_of}
use Rattle.json5_de.specs.ConvertLists.{option_of, if_some}
use Rattle.json5_de.specs.Faults.{AtEnd, RefusedBy, IsPositionless, FaultyNull}
use Rattle.json5_de.specs.ReaderSteps.{PassedGap}
use Rattle.json5_read.specs.ModelSteps.{Unexpected, at_end, at_char}
use Rattle.json5_de.proofs.ExpectedKinds.{Expected}
use Rattle.json5_de.proofs.BracketSteps.{only_read, level_of}
use Rattle.json5_de.proofs.ReadSteps.{input_of, refused_token}
use Rattle.json5_de.proofs.NoFailedCode.{option_lacks}
use Rattle.json5_de.proofs.TokenKinds.{refused_other}
use Rattle.json5_grammar.proofs.CommonLemmas.{first_same, true_false}

pub not_nil : (c : ℕ) (x y : List ℕ) → y ≡ c ∷ x → y ≡ [] → ⊥
not_nil c x y e k = let none : c ∷ x ≡ [] = sym e ∙ k in absurd (cc)

-- nothing but the end or a character is told apart
pub expects_nothing : {ends differs : ErrorCode} (begins : ℕ → Bool) → Expected {C = Unit {0}} (Unexpected ends differs) (λ t. None) begins ends differs
expects_nothing {ends = ends} {differs = differs} begins = record {
  at_end = λ reason place f. none [] reason place refl f;
  at_other = λ c r reason place h f. some (c ∷ r) c r reason place refl f;
  no_fault = λ s r t v reason place e k stops f. absurd (cc);
  first = λ s t v e k. absurd (cc);
}
  where
    none : (x : List ℕ) (reason : Option ErrorCode) (place : Option (List ℕ)) → x ≡ [] → Unexpected ends differs x reason place → (reason ≡ Some ends) × (place ≡ None)
    none x reason place e at_end = (refl, refl)
    none x reason place e (at_char c r) = absurd (cc)

    some : (x : List ℕ) (c : ℕ) (r : List ℕ) (reason : Option ErrorCode) (place : Option (List ℕ)) → x ≡ c ∷ r → Unexpected ends differs x reason place → (reason ≡ Some differs) × (place ≡ Some [])
    some x c r reason place e at_end = absurd (cc)
    some x c r reason place e (at_char d q) = (refl, refl)

-- ---- what is next

-- where a value can be read no comment before it is at fault
pub blanks_no_value : (s : State) (e : Error) (t : Tree) (r : List ℕ) → Refused FaultyBlanks (cursor_of s) e → Reads s.unread t r → ⊥
blanks_no_value s e t r f p = let (b, part, shown, fault) = f.fault in no_reads_in_blanks s.unread b part r t f.reason f.place shown fault p

-- at the end nothing is next
pub end_next : (s mid : State) (c : ℕ) (m : List ℕ) → AtEnd s → PassedGap s mid → mid.unread ≡ c ∷ m → ⊥
end_next s mid c m at p e = not_nil c m mid.unread e (gap_last s.unread p.gap mid.unread at.1 p.is_gap p.solid p.split).1

-- a value that can be read is next
pub value_next : (s mid : State) (t : Tree) (r : List ℕ) → PassedGap s mid → Reads s.unread t r → Reads mid.unread t r
value_next s mid t r p k = reads_found s.unread p.gap mid.unread r t p.split p.is_gap p.solid k

pub value_no_end : (s mid : State) (t : Tree) (r : List ℕ) → PassedGap s mid → mid.unread ≡ [] → Reads s.unread t r → ⊥
value_no_end s mid t r p e k =
    let head = val_head k.value in
    not_nil head.char (head.more ++ r) mid.unread (phrase_found s.unread p.gap mid.unread r t p.split p.is_gap p.solid k ∙ ap (λ z. z ++ r) head.is) e

-- ---- null

other_head : (c d : ℕ) (x y : List ℕ) → (d == 110) ≡ false → d ∷ y ≡ 110 ∷ x → ⊥
other_head c d x y n e = true_false (ap (λ k. k == 110) (first_same d 110 y x e)) n

-- what begins with `n` is null
n_is_null : {s : List ℕ} {t : Tree} (x : List ℕ) → s ≡ 110 ∷ x → Val s t → t ≡ null
n_is_null x e is_null = refl
n_is_null x e is_true = absurd (other_head 0 116 x _ refl e)
n_is_null x e is_false = absurd (other_head 0 102 x _ refl e)
n_is_null x e (is_number n) = let h = number_head n in absurd (other_head 0 h.0 x h.1 (number_others h.0 h.3).0 (sym h.2 ∙ e))
n_is_null x e (is_text (quoted {q = q} {s = s} h i)) = absurd (other_head 0 q x (s ++ q ∷ []) (quote_others q h).0 e)
n_is_null x e (is_empty_array {w = w} b) = absurd (other_head 0 91 x _ refl e)
n_is_null x e (is_array {m = m} ms) = absurd (other_head 0 91 x _ refl e)
n_is_null x e (is_empty_object {w = w} b) = absurd (other_head 0 123 x _ refl e)
n_is_null x e (is_object {m = m} ps) = absurd (other_head 0 123 x _ refl e)

null_begins : {s : List ℕ} {t : Tree} → t ≡ null → Val s t → (x : List ℕ) × (s ≡ 110 ∷ x)
null_begins e is_null = (_, refl)
null_begins e is_true = absurd (cc)
null_begins e is_false = absurd (cc)
null_begins e (is_number n) = absurd (cc)
null_begins e (is_text k) = absurd (cc)
null_begins e (is_empty_array b) = absurd (cc)
null_begins e (is_array m) = absurd (cc)
null_begins e (is_empty_object b) = absurd (cc)
null_begins e (is_object m) = absurd (cc)

-- where an `n` is next a value is null
pub null_next : (s mid : State) (t : Tree) (m r : List ℕ) → PassedGap s mid → mid.unread ≡ 110 ∷ m → Reads s.unread t r → t ≡ null
null_next s mid t m r p e k =
    let head = val_head k.value in
    let whole : 110 ∷ m ≡ head.char ∷ (head.more ++ r) = sym e ∙ phrase_found s.unread p.gap mid.unread r t p.split p.is_gap p.solid k ∙ ap (λ z. z ++ r) head.is in
    n_is_null head.more (head.is ∙ ap (λ c. c ∷ head.more) (sym (first_same 110 head.char m (head.more ++ r) whole))) k.value

-- where another character is next it isn't
pub null_not_next : (y : List ℕ) (t : Tree) (c : ℕ) (m r : List ℕ) → y ≡ c ∷ m → Solid y → (c ≡ 110 → ⊥) → Reads y t r → t ≡ null → ⊥
null_not_next y t c m r e solid n k is =
    let (x, begins) = null_begins is k.value in
    let whole : c ∷ m ≡ 110 ∷ (x ++ r) = sym e ∙ phrase_found y [] y r t refl (Gap.blanks Blanks.empty) solid k ∙ ap (λ z. z ++ r) begins in
    n (first_same c 110 m (x ++ r) whole)

-- ---- what it converts to

pub option_some : {C : Type 0} (f : Tree → Option C) (t : Tree) (c : C) → (t ≡ null → ⊥) → f t ≡ Some c → option_of f t ≡ Some (Some c)
option_some f null c n e = absurd (n refl)
option_some f (boolean b) c n e = ap (if_some Some) e
option_some f (number k) c n e = ap (if_some Some) e
option_some f (text u escape_free) c n e = ap (if_some Some) e
option_some f (array ts) c n e = ap (if_some Some) e
option_some f (object ps) c n e = ap (if_some Some) e

some_of : {C : Type 0} (o : Option C) (v : Option C) → if_some Some o ≡ Some v → (c : C) × (o ≡ Some c)
some_of None v e = absurd (cc)
some_of (Some c) v e = (c, refl)

pub option_parts : {C : Type 0} (f : Tree → Option C) (t : Tree) (v : Option C) → (t ≡ null → ⊥) → option_of f t ≡ Some v → (c : C) × (f t ≡ Some c)
option_parts f null v n e = absurd (n refl)
option_parts f (boolean b) v n e = some_of (f (boolean b)) v e
option_parts f (number k) v n e = some_of (f (number k)) v e
option_parts f (text u escape_free) v n e = some_of (f (text u escape_free)) v e
option_parts f (array ts) v n e = some_of (f (array ts)) v e
option_parts f (object ps) v n e = some_of (f (object ps)) v e

pub null_unit : (t : Tree) → t ≡ null → unit_of t ≡ Some tt
null_unit t e = ap unit_of e

-- a value that was read after the blanks was read
pub took_after : (s mid new : State) (t : Tree) → PassedGap s mid → TookValue mid t new → TookValue s t new
took_after s mid new t p took = record {
  live = p.live;
  reads = reads_here s.unread p.gap mid.unread new.unread t p.split p.is_gap took.reads;
  shallow = let level = level_of p.rest in let deep = took.shallow in omega (arith, level, deep);
  rest = only_read s mid new p.rest took.rest;
}

-- ---- no T begins

pub other_sign : (c d : ℕ) → (c ≡ d → ⊥) → (c == d) ≡ false
other_sign c d n = grind arith

pub missing_there : (old mid : State) (e : Error) → PassedGap old mid → mid.unread ≡ [] → kind_of e ≡ code codes.EofParsingValue → error_position e ≡ None → RefusedBy NoOption old e
missing_there old mid e p none kind place = refused_token old mid e p (record {
  reason = Some codes.EofParsingValue;
  place = None;
  fault = subst (λ x. NoOption x (Some codes.EofParsingValue) None) (sym none) option_missing;
  says = kind;
  placed = place;
})

pub null_there : (old mid : State) (e : Error) (m : List ℕ) → PassedGap old mid → mid.unread ≡ 110 ∷ m → Refused FaultyNull (cursor_of mid) e → RefusedBy NoOption old e
null_there old mid e m p n f = refused_token old mid e p (record {
  reason = f.reason;
  place = f.place;
  fault = subst (λ x. NoOption x f.reason f.place) (sym n) (faulty_null (subst (λ x. FaultyNull x f.reason f.place) n f.fault));
  says = f.says;
  placed = f.placed;
})

-- ---- the law of an option

pub option_is_free : (allocation_free : Tree → Bool) (t : Tree) → (t ≡ null → ⊥) → option_free allocation_free t ≡ true → allocation_free t ≡ true
option_is_free allocation_free null n e = absurd (n refl)
option_is_free allocation_free (boolean b) n e = e
option_is_free allocation_free (number k) n e = e
option_is_free allocation_free (text u escape_free) n e = e
option_is_free allocation_free (array ts) n e = e
option_is_free allocation_free (object ps) n e = e

module _ {V C : Type 0} (content : V → C) (convert : Tree → Option C) (allocation_free : Tree → Bool) (refuses : State → Error → State → Type 0) where
  abbrev ReadsOption : State → State → Result (Option V) Error → Type 0
  ReadsOption old new result = ReadsValue (if_some content) (option_of convert) (option_free allocation_free) (RefusesOption refuses) old new result

  pub reads_option : (old new : State) (o : Option V) → Gives (if_some content) (option_of convert) old new o → ReadsOption old new (Ok o)
  reads_option old new o (t, took, is) = record {
    sound = (t, took, is);
    complete = tt;
    no_memory = λ t r c live reads shallow converts f. refl;
    refused = tt;
    unprompted = tt;
    same_text = input_of took.rest;
    failed = tt;
    before = λ h. absurd (true_false h took.live);
  }

  -- no T begins
  pub refuses_option : (old new : State) (e : Error) → RefusedBy NoOption old e → GivesUp old new → (old.failed ≡ true → IsPositionless codes.Failed e × (new ≡ old))
      → ((t : Tree) (r : List ℕ) → old.failed ≡ false → Reads old.unread t r → ⊥) → ReadsOption old new (Err e)
  refuses_option old new e f failed before nothing = record {
    sound = tt;
    complete = record { memory = λ t r c live reads shallow converts. absurd (nothing t r live reads) };
    no_memory = λ t r c live reads shallow converts allocation_free. absurd (nothing t r live reads);
    refused = λ live. inl (f live);
    unprompted = refused_other option_lacks old e f;
    same_text = failed.same_text;
    failed = failed.failed;
    before = before;
  }

  -- T refuses
  pub refuses_some : (old start after new : State) (own e : Error) (c : ℕ) (m : List ℕ) → PassedGap old start → start.unread ≡ c ∷ m → (c == 110) ≡ false → refuses start own after → Completes {V = V} convert start (Err own)
      → CompletesFree {V = V} allocation_free convert start (Err own) → Unprompted {V = V} start (Err own) → SameText start after → new ≡ record after { failed = true }
      → PositionedAt (λ before. start.input ≡ before ++ start.unread) own e → ReadsOption old new (Err e)
  refuses_some old start after new own e c m p next no_null cause complete no_memory other same left placed = record {
    sound = tt;
    complete = record { memory = λ t r v live reads shallow converts. let (k, is) = option_parts convert t v (is_no_null t r reads) converts in placed.kind ∙ complete.memory t r k (at_start live) (there t r reads) (deep t shallow) is };
    no_memory = λ t r v live reads shallow converts is_free.
        let (k, is) = option_parts convert t v (is_no_null t r reads) converts in
        absurd (false≢true (no_memory t r k (at_start live) (there t r reads) (deep t shallow) is (option_is_free allocation_free t (is_no_null t r reads) is_free)));
    refused = λ live. inr (record { start = start; passed = p; char = c; more = m; begins = next; no_null = no_null; own = own; after = after; cause = cause; left = left; placed = placed });
    unprompted = λ live k. other (at_start live) (sym placed.kind ∙ k);
    same_text = input_of left ∙ same ∙ input_of p.rest;
    failed = ap (λ (s : State). s.failed) left;
    before = λ h. absurd (true_false h p.live);
  }
    where
      there : (t : Tree) (r : List ℕ) → Reads old.unread t r → Reads start.unread t r
      there t r reads = value_next old start t r p reads

      is_no_null : (t : Tree) (r : List ℕ) → Reads old.unread t r → t ≡ null → ⊥
      is_no_null t r reads = null_not_next start.unread t c m r next p.solid (λ is. true_false (ap (λ k. k == 110) is) no_null) (there t r reads)

      at_start : old.failed ≡ false → start.failed ≡ false
      at_start live = ap (λ (s : State). s.failed) p.rest ∙ live

      deep : (t : Tree) → old.level + depth t ≤ max_depth → start.level + depth t ≤ max_depth
      deep t shallow = let level = level_of p.rest in omega (arith, level, shallow)
