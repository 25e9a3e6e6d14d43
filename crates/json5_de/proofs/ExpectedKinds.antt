-- A kind of value: none is found at the end of the input or at a character that can't begin one, and one that can be read isn't refused.
use Rattle.std.proofs.Common.{◌≡◌, ℕ, Bool, true, false, List, [], ◌∷◌, ◌++◌, refl, ap, sym, ◌∙◌, subst, inl, inr, Option, Some, None}
use Rattle.std.specs.Prelude.{Result, Ok, Err, IfOk, IfErr}
use Rattle.std.proofs.lemmas.List.{append-nil}
use Rattle.json5_grammar.specs.declared.error_code.ErrorCode.{ErrorCode}
use Rattle.json5_grammar.specs.Faults.Codes.{after_text}
use Rattle.json5_grammar.specs.Language.Blanks.{Blanks, LastBlanks, Gap, is_solid}
use Rattle.json5_grammar.specs.Faults.Tokens.{BlankFault}
use Rattle.json5_grammar.specs.Language.Trees.{Tree}
use Rattle.json5_grammar.specs.Language.Values.{Val, Stops, Reads}
use Rattle.json5_grammar.proofs.BlanksRead.{begins_solid}
use Rattle.json5_grammar.proofs.BlanksSound.{one_gap, no_blank_fault, gap_last, gap_before}
use Rattle.json5_grammar.proofs.ValueHeads.{val_head, value_solid}
use Rattle.json5_types.specs.declared.error.Error.{Error}
use Rattle.json5_tokens.specs.Cursor.{Says, IsPositioned}
use Rattle.json5_tokens.specs.TokenFaults.{FaultyBlanks}
use Rattle.json5_de.specs.State.{State, cursor_of}
use Rattle.json5_de.specs.DeserializeLaw.{Gives, Completes}
use Rattle.json5_de.specs.Faults.{RefusedBy, RefusedByOr, RefusedByOrMemory, IsPositionless, IsAfter, AtEnd, AtOther, EndsWith, EndsWithOr, DiffersWith, DiffersWithOr}
use Rattle.json5_read.specs.EntryFaults.{AfterBlanks, in_blanks, after_gap}
use Rattle.json5_grammar.proofs.CommonLemmas.{first_same, true_false}

-- a kind of value: what is refused where one is expected, its trees, what begins one, and the codes at the end and at another character
pub record Expected {C : Type 0} (IsFault : List ℕ → Option ErrorCode → Option (List ℕ) → Type 0) (convert : Tree → Option C) (begins : ℕ → Bool) (ends differs : ErrorCode) : Type 0 where
  pub at_end : (reason : Option ErrorCode) (place : Option (List ℕ)) → IsFault [] reason place → (reason ≡ Some ends) × (place ≡ None)
  pub at_other : (c : ℕ) (r : List ℕ) (reason : Option ErrorCode) (place : Option (List ℕ)) → begins c ≡ false → IsFault (c ∷ r) reason place → (reason ≡ Some differs) × (place ≡ Some [])
  pub no_fault : (s r : List ℕ) (t : Tree) (v : C) (reason : Option ErrorCode) (place : Option (List ℕ)) → convert t ≡ Some v → Val s t → Stops s r → IsFault (s ++ r) reason place → ⊥
  pub first : (s : List ℕ) (t : Tree) (v : C) → convert t ≡ Some v → Val s t → (c : ℕ) × (y : List ℕ) × (s ≡ c ∷ y) × (begins c ≡ true)

-- ---- gaps

-- blanks to the end have no fault
pub no_end_fault : (x : List ℕ) (reason : Option ErrorCode) (place : Option (List ℕ)) → LastBlanks x → FaultyBlanks x reason place → ⊥
no_end_fault x reason place l (before, part, shown, fault) =
    no_blank_fault (Gap.at_end l) tt (subst (λ y. BlankFault y reason place before part shown) (sym (append-nil x)) fault)

pub after_end : {C : Type 0} {F : List ℕ → Option ErrorCode → Option (List ℕ) → Type 0} {convert : Tree → Option C} {begins : ℕ → Bool} {ends differs : ErrorCode} → Expected F convert begins ends differs
    → (x : List ℕ) (reason : Option ErrorCode) (place : Option (List ℕ)) → LastBlanks x → AfterBlanks F x reason place → (reason ≡ Some ends) × (place ≡ None)
after_end a x reason place l (in_blanks f) = absurd (no_end_fault x reason place l f)
after_end {F = F} a x reason place l (after_gap {w = w} {x = y} {place = p} g s f) =
    let gap = gap_last (w ++ y) w y l g s refl in
    let k = a.at_end reason p (subst (λ z. F z reason p) gap.1 f) in
    (k.0, ap (after_text w) k.1)

pub after_other : {C : Type 0} {F : List ℕ → Option ErrorCode → Option (List ℕ) → Type 0} {convert : Tree → Option C} {begins : ℕ → Bool} {ends differs : ErrorCode} → Expected F convert begins ends differs
    → (x w r : List ℕ) (c : ℕ) (reason : Option ErrorCode) (place : Option (List ℕ)) → Blanks w → is_solid c ≡ true → begins c ≡ false → x ≡ w ++ c ∷ r → AfterBlanks F x reason place
    → (reason ≡ Some differs) × (place ≡ Some w)
after_other a x w r c reason place b s n e (in_blanks (before, part, shown, fault)) =
    absurd (no_blank_fault (Gap.blanks b) (begins_solid c r s) (subst (λ y. BlankFault y reason place before part shown) e fault))
after_other {F = F} a x w r c reason place b s n e (after_gap {w = v} {x = y} {place = p} g t f) =
    let gap = gap_before w v y c r b s g t (sym e) in
    let k = a.at_other c r reason p n (subst (λ z. F z reason p) gap.1 f) in
    (k.0, ap (after_text v) k.1 ∙ ap Some (append-nil v ∙ gap.0))

-- what can be read isn't refused
pub no_refusal : {C : Type 0} {F : List ℕ → Option ErrorCode → Option (List ℕ) → Type 0} {convert : Tree → Option C} {begins : ℕ → Bool} {ends differs : ErrorCode} → Expected F convert begins ends differs
    → (x r : List ℕ) (t : Tree) (v : C) (reason : Option ErrorCode) (place : Option (List ℕ)) → convert t ≡ Some v → Reads x t r → AfterBlanks F x reason place → ⊥
no_refusal a x r t v reason place e h (in_blanks (before, part, shown, fault)) =
    no_blank_fault (Gap.blanks h.blank) (value_solid r (val_head h.value)) (subst (λ y. BlankFault y reason place before part shown) h.split fault)
no_refusal {F = F} a x r t v reason place e h (after_gap {w = w} {x = y} {place = p} g s f) =
    let gap = one_gap h.front (h.phrase ++ r) w y (Gap.blanks h.blank) (value_solid r (val_head h.value)) g s (sym h.split) in
    a.no_fault h.phrase r t v reason p e h.value h.stops (subst (λ z. F z reason p) gap.1 f)

-- at the end there is no value
pub end_no_value : (x r : List ℕ) (t : Tree) → LastBlanks x → Reads x t r → ⊥
end_no_value x r t l h =
    let head = val_head h.value in
    let gap = one_gap x [] h.front (h.phrase ++ r) (Gap.at_end l) tt (Gap.blanks h.blank) (value_solid r head) (append-nil x ∙ h.split) in
    let none : head.char ∷ (head.more ++ r) ≡ [] = sym (ap (λ z. z ++ r) head.is) ∙ gap.1 in
    absurd (cc)

-- a character follows the blanks that begins no value of the kind
pub other_no_value : {C : Type 0} {F : List ℕ → Option ErrorCode → Option (List ℕ) → Type 0} {convert : Tree → Option C} {begins : ℕ → Bool} {ends differs : ErrorCode} → Expected F convert begins ends differs
    → (x w q r : List ℕ) (c : ℕ) (t : Tree) (v : C) → Blanks w → is_solid c ≡ true → begins c ≡ false → x ≡ w ++ c ∷ q → convert t ≡ Some v → Reads x t r → ⊥
other_no_value {begins = begins} a x w q r c t v b s n e k h =
    let gap = gap_before w h.front (h.phrase ++ r) c q b s (Gap.blanks h.blank) (value_solid r (val_head h.value)) (sym e ∙ h.split) in
    let (d, y, is, begun) = a.first h.phrase t v k h.value in
    let same : d ∷ (y ++ r) ≡ c ∷ q = sym (ap (λ z. z ++ r) is) ∙ gap.1 in
    true_false (subst (λ z. begins z ≡ true) (first_same d c (y ++ r) q same) begun) n

-- ---- what a refusal says

pub end_fault : {C : Type 0} {F : List ℕ → Option ErrorCode → Option (List ℕ) → Type 0} {convert : Tree → Option C} {begins : ℕ → Bool} {ends differs : ErrorCode} → Expected F convert begins ends differs
    → (old : State) (e : Error) → AtEnd old → RefusedBy F old e → IsPositionless ends e
end_fault a old e (live, l) k =
    let f = k live in
    let is = after_end a old.unread f.reason f.place l f.fault in
    (subst (λ z. Says z e) is.0 f.says, subst (λ z. IsPositioned (cursor_of old) z e) is.1 f.placed)

pub other_fault : {C : Type 0} {F : List ℕ → Option ErrorCode → Option (List ℕ) → Type 0} {convert : Tree → Option C} {begins : ℕ → Bool} {ends differs : ErrorCode} → Expected F convert begins ends differs
    → (old : State) (e : Error) (w : List ℕ) → AtOther begins old w → RefusedBy F old e → IsAfter differs old w e
other_fault a old e w o k =
    let f = k o.live in
    let is = after_other a old.unread w o.more o.char f.reason f.place o.blank o.solid o.other o.split f.fault in
    (subst (λ z. Says z e) is.0 f.says, subst (λ z. IsPositioned (cursor_of old) z e) is.1 f.placed)

pub wrongly_refused : {C : Type 0} {F : List ℕ → Option ErrorCode → Option (List ℕ) → Type 0} {convert : Tree → Option C} {begins : ℕ → Bool} {ends differs : ErrorCode} → Expected F convert begins ends differs
    → (old : State) (e : Error) (t : Tree) (r : List ℕ) (v : C) → old.failed ≡ false → Reads old.unread t r → convert t ≡ Some v → RefusedBy F old e → ⊥
wrongly_refused a old e t r v live reads is k = let f = k live in no_refusal a old.unread r t v f.reason f.place is reads f.fault

-- ---- the clauses of a read that takes no memory

pub ends_from : {V C : Type 0} {F : List ℕ → Option ErrorCode → Option (List ℕ) → Type 0} {convert : Tree → Option C} {begins : ℕ → Bool} {ends differs : ErrorCode} → Expected F convert begins ends differs
    → (content : V → C) (old new : State) (result : Result V Error) → IfOk result (λ v. Gives content convert old new v) → IfErr result (RefusedBy F old) → EndsWith ends old result
ends_from a content old new (Ok v) (t, took, is) k at = end_no_value old.unread new.unread t at.1 took.reads
ends_from a content old new (Err e) g k at = end_fault a old e at k

pub differs_from : {V C : Type 0} {F : List ℕ → Option ErrorCode → Option (List ℕ) → Type 0} {convert : Tree → Option C} {begins : ℕ → Bool} {ends differs : ErrorCode} → Expected F convert begins ends differs
    → (content : V → C) (old new : State) (result : Result V Error) → IfOk result (λ v. Gives content convert old new v) → IfErr result (RefusedBy F old) → DiffersWith begins differs old result
differs_from a content old new (Ok v) (t, took, is) k w o = other_no_value a old.unread w o.more new.unread o.char t (content v) o.blank o.solid o.other o.split is took.reads
differs_from a content old new (Err e) g k w o = other_fault a old e w o k

-- ---- the same, unless memory runs out

pub ends_or_memory : {V C : Type 0} (Lacks : Error → Type 0) {F : List ℕ → Option ErrorCode → Option (List ℕ) → Type 0} {convert : Tree → Option C} {begins : ℕ → Bool} {ends differs : ErrorCode} → Expected F convert begins ends differs
    → (content : V → C) (old new : State) (result : Result V Error) → IfOk result (λ v. Gives content convert old new v) → IfErr result (RefusedByOr Lacks F old) → EndsWithOr Lacks ends old result
ends_or_memory Lacks a content old new (Ok v) (t, took, is) k at = end_no_value old.unread new.unread t at.1 took.reads
ends_or_memory Lacks a content old new (Err e) g (inl m) at = inl m
ends_or_memory Lacks a content old new (Err e) g (inr k) at = inr (end_fault a old e at k)

pub differs_or_memory : {V C : Type 0} (Lacks : Error → Type 0) {F : List ℕ → Option ErrorCode → Option (List ℕ) → Type 0} {convert : Tree → Option C} {begins : ℕ → Bool} {ends differs : ErrorCode} → Expected F convert begins ends differs
    → (content : V → C) (old new : State) (result : Result V Error) → IfOk result (λ v. Gives content convert old new v) → IfErr result (RefusedByOr Lacks F old) → DiffersWithOr Lacks begins differs old result
differs_or_memory Lacks a content old new (Ok v) (t, took, is) k w o = other_no_value a old.unread w o.more new.unread o.char t (content v) o.blank o.solid o.other o.split is took.reads
differs_or_memory Lacks a content old new (Err e) g (inl m) w o = inl m
differs_or_memory Lacks a content old new (Err e) g (inr k) w o = inr (other_fault a old e w o k)

pub completes_or_memory : {V C : Type 0} {F : List ℕ → Option ErrorCode → Option (List ℕ) → Type 0} {convert : Tree → Option C} {begins : ℕ → Bool} {ends differs : ErrorCode} → Expected F convert begins ends differs
    → (old : State) (result : Result V Error) → IfErr result (RefusedByOrMemory F old) → Completes convert old result
completes_or_memory a old (Ok v) k = tt
completes_or_memory a old (Err e) (inl m) = record { memory = λ t r c live reads shallow is. m.kind }
completes_or_memory a old (Err e) (inr k) = record { memory = λ t r c live reads shallow is. absurd (wrongly_refused a old e t r c live reads is k) }
