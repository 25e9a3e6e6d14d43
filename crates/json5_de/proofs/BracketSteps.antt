-- The steps of reading an array.
use Rattle.std.proofs.Common.{◌≡◌, ℕ, ◌<◌, Bool, true, false, List, [], ◌∷◌, ◌++◌, refl, ap, sym, ◌∙◌, subst, inl, inr, Option, Some, arith}
use Rattle.std.specs.Prelude.{◌==◌, Result, Ok, Err, IfErr, IsOk}
use Rattle.json5_grammar.specs.declared.error_code.ErrorCode.{ErrorCode}
use Rattle.json5_grammar.specs.declared.error_code.ErrorCode.TheVariants as codes
use Rattle.json5_grammar.specs.Language.Characters.{NotBegun}
use Rattle.json5_grammar.specs.Language.Blanks.{Gap, is_solid}
use Rattle.json5_grammar.specs.Faults.Tokens.{BlankFault}
use Rattle.json5_grammar.proofs.BlanksSound.{no_blank_fault}
use Rattle.json5_grammar.proofs.ValueHeads.{val_head, value_solid}
use Rattle.json5_grammar.specs.Language.Trees.{Tree}
use Rattle.json5_grammar.specs.Language.Values.{Reads}
use Rattle.json5_grammar.specs.Language.Documents.{max_depth}
use Rattle.json5_grammar.specs.Model.Collections.{IsSign, IsEnd, IsElement}
use Rattle.json5_grammar.proofs.ArraysRead.{comma_solid, bracket_solid, opening_solid, sign_found, reads_found}
use Rattle.json5_grammar.proofs.ArraysPartlyRead.{after_same_comma, no_comma_end}
use Rattle.json5_grammar.proofs.EntriesAfterGaps.{reads_here, no_sign, no_sign_in_blanks}
use Rattle.json5_types.specs.declared.error.Error.{Error}
use Rattle.json5_tokens.specs.Cursor.{Refused}
use Rattle.json5_tokens.specs.TokenFaults.{FaultyBlanks}
use Rattle.json5_types.specs.Errors.{code, kind_of, error_position}
use Rattle.json5_grammar.specs.declared.position.Position.{Position}
use Rattle.json5_grammar.specs.Faults.Positions.{position_after}
use Rattle.std.proofs.lemmas.List.{append-nil}
use Rattle.json5_de.specs.State.{State, cursor_of, OnlyRead}
use Rattle.json5_de.specs.DeserializeLaw.{TookValue}
use Rattle.json5_de.specs.ReaderSteps.{PassedGap, TookText}
use Rattle.json5_read.specs.declared.brackets.BracketPair.{BracketPair}
use Rattle.json5_de.specs.BracketSigns.{AreSigns}
use Rattle.json5_read.specs.Brackets.{square}
use Rattle.json5_de.specs.Arrays.{TookElement, NotOpened, no_bracket, text_ends, too_deep, NoBracket, other_sign, bracket_missing, NotClosed, not_here, after_comma as comma_before}
use Rattle.json5_read.specs.ModelSteps.{Unexpected, at_end, at_char}
use Rattle.json5_de.specs.AccessCalls.{AtEntry, NothingNext}
use Rattle.json5_tokens.specs.ShortWays.{AfterGap, StepsTo}
use Rattle.json5_read.specs.EntryFaults.{NoNext, no_comma, comma_missing, in_blanks_after, AfterBlanks, in_blanks, after_gap}
use Rattle.json5_de.specs.Faults.{RefusedBy}
use Rattle.json5_de.proofs.ReadSteps.{refused_token}
use Rattle.json5_de.proofs.RefusalPositions.{refused_as, refused_after}
use Rattle.json5_read.proofs.FoundEntries.{sign_next, none_due}
use Rattle.json5_grammar.proofs.CommonLemmas.{same_char, true_false}

pub failed_of : {s t : State} → s ≡ t → s.failed ≡ t.failed
failed_of e = ap (λ (s : State). s.failed) e

pub level_of : {s t : State} → s ≡ t → s.level ≡ t.level
level_of e = ap (λ (s : State). s.level) e

pub unread_of : {s t : State} → s ≡ t → s.unread ≡ t.unread
unread_of e = ap (λ (s : State). s.unread) e

pub after_gap_of : (old mid : State) → PassedGap old mid → AfterGap old.unread mid.unread
after_gap_of old mid p = record { gap = p.gap; split = p.split; is_gap = p.is_gap; solid = p.solid }

-- ---- what is refused

pub not_opened_here : (b : BracketPair) (level : ℕ) (x : List ℕ) (reason : Option ErrorCode) (place : Option (List ℕ)) → NotBegun (λ c. c == b.opening) x → Unexpected b.ends b.not_opened x reason place → NotOpened b level x reason place
not_opened_here b level x reason place n at_end = text_ends
not_opened_here b level x reason place n (at_char c r) = no_bracket c r n

pub no_bracket_here : (b : BracketPair) (comma : Bool) (x : List ℕ) (reason : Option ErrorCode) (place : Option (List ℕ)) → (comma ≡ true → NotBegun (λ c. c == 0x2C) x) → NotBegun (λ c. c == b.closing) x
    → Unexpected b.ends b.not_closed x reason place → NoBracket b comma x reason place
no_bracket_here b comma x reason place m n at_end = bracket_missing
no_bracket_here b comma x reason place m n (at_char c r) = other_sign c r n m

-- ---- what follows

pub no_sign_next : (sign : ℕ) (x y r : List ℕ) → is_solid sign ≡ true → AfterGap x y → NotBegun (λ c. c == sign) y → IsSign sign x r → ⊥
no_sign_next sign x y r h g n s = no_sign sign x g.gap y r h g.split g.is_gap g.solid n s

-- if a comment is at fault, no sign and no gap follows
no_sign_faulty : (sign : ℕ) {x : List ℕ} {reason : Option ErrorCode} {place : Option (List ℕ)} (r : List ℕ) → is_solid sign ≡ true → FaultyBlanks x reason place → IsSign sign x r → ⊥
no_sign_faulty sign {x = x} {reason = reason} {place = place} r h (w, p, shown, fault) c = no_sign_in_blanks sign x w p r reason place shown h fault c

no_gap_faulty : {x : List ℕ} {reason : Option ErrorCode} {place : Option (List ℕ)} (y : List ℕ) → FaultyBlanks x reason place → AfterGap x y → ⊥
no_gap_faulty {reason = reason} {place = place} y (w, p, shown, fault) g = no_blank_fault g.is_gap g.solid (subst (λ z. BlankFault z reason place w p shown) g.split fault)

-- neither a comma nor the bracket where a comma is due
nothing_due : (b : BracketPair) (x : List ℕ) → ((y : List ℕ) → IsSign 0x2C x y → ⊥) → ((r : List ℕ) → IsSign b.closing x r → ⊥) → NothingNext b true x
nothing_due b x m n = record { no_entry = λ y g. m g.0 g.1; no_close = λ r c. close r c }
  where
    close : (r : List ℕ) → IsEnd b.closing true x r → ⊥
    close r (inl c) = n r c
    close r (inr (y, comma, c)) = m y comma

-- a comment in front is at fault
nowhere_faulty : (b : BracketPair) → AreSigns b → (comma_due : Bool) (x : List ℕ) {reason : Option ErrorCode} {place : Option (List ℕ)} → FaultyBlanks x reason place → NothingNext b comma_due x
nowhere_faulty b k false x f = record { no_entry = λ y g. no_gap_faulty y f g; no_close = λ r c. no_sign_faulty b.closing r k.closing f c }
nowhere_faulty b k true x f = nothing_due b x (λ y c. no_sign_faulty 0x2C y comma_solid f c) (λ r c. no_sign_faulty b.closing r k.closing f c)

-- a comment after the comma is at fault
nowhere_after : (b : BracketPair) → AreSigns b → (x z : List ℕ) {reason : Option ErrorCode} {place : Option (List ℕ)} → AfterGap x (0x2C ∷ z) → FaultyBlanks z reason place → NothingNext b true x
nowhere_after b k x z g f = record { no_entry = λ y begun. entry y begun; no_close = λ r c. close r c }
  where
    comma : IsSign 0x2C x z
    comma = sign_next 0x2C x (0x2C ∷ z) z g refl

    entry : (y : List ℕ) → StepsTo true x y → ⊥
    entry y (w, other, gap) = no_gap_faulty y f (after_same_comma (λ q. AfterGap q y) x z w comma other gap)

    close : (r : List ℕ) → IsEnd b.closing true x r → ⊥
    close r (inl c) = no_sign_next b.closing x (0x2C ∷ z) r k.closing g k.no_comma c
    close r (inr (w, other, c)) = no_sign_faulty b.closing r k.closing f (after_same_comma (λ q. IsSign b.closing q r) x z w comma other c)

nowhere_due : (b : BracketPair) → AreSigns b → (x y : List ℕ) {reason : Option ErrorCode} {place : Option (List ℕ)} → AfterGap x y → NoNext b true y reason place → NothingNext b true x
nowhere_due b k x y g (no_comma c q d m n) = nothing_due b x (λ z s. no_sign_next 0x2C x (c ∷ q) z comma_solid g m s) (λ r s. no_sign_next b.closing x (c ∷ q) r k.closing g n s)
nowhere_due b k x y g (comma_missing d) = nothing_due b x (λ z s. no_sign_next 0x2C x [] z comma_solid g tt s) (λ r s. no_sign_next b.closing x [] r k.closing g tt s)
nowhere_due b k x y g (in_blanks_after {x = z} d f) = nowhere_after b k x z g f

-- where the next entry is refused, neither an entry nor the bracket follows
pub nowhere : (b : BracketPair) → AreSigns b → (comma_due : Bool) (x : List ℕ) {reason : Option ErrorCode} {place : Option (List ℕ)} → AfterBlanks (NoNext b comma_due) x reason place → NothingNext b comma_due x
nowhere b k comma_due x (in_blanks f) = nowhere_faulty b k comma_due x f
nowhere b k false x (after_gap g s f) = absurd (none_due f)
nowhere b k true x (after_gap {w = w} {x = y} g s f) = nowhere_due b k (w ++ y) y (record { gap = w; split = refl; is_gap = g; solid = s }) f

pub only_read : (s t u : State) → OnlyRead s t → OnlyRead t u → OnlyRead s u
only_read s t u a b = b ∙ ap (λ (m : State). record m { unread = u.unread }) a

-- ---- an element

-- what can be read where an element may begin is an element
pub element_read : (comma_due : Bool) (x y r : List ℕ) (t : Tree) → StepsTo comma_due x y → Reads y t r → IsElement comma_due x t r
element_read false x y r t g p = reads_here x g.gap y r t g.split g.is_gap p
element_read true x y r t (z, comma, g) p = (z, comma, reads_here z g.gap y r t g.split g.is_gap p)

-- an element begins after blanks
reads_gap : (x r : List ℕ) (t : Tree) → Reads x t r → (y : List ℕ) × AfterGap x y
reads_gap x r t p = (p.phrase ++ r, record { gap = p.front; split = p.split; is_gap = Gap.blanks p.blank; solid = value_solid r (val_head p.value) })

-- if no element may begin, there is none
pub no_element_next : (b : BracketPair) (comma_due : Bool) (x r : List ℕ) (t : Tree) → NothingNext b comma_due x → IsElement comma_due x t r → ⊥
no_element_next b false x r t n e = let (y, g) = reads_gap x r t e in n.no_entry y g
no_element_next b true x r t n (z, comma, e) = let (y, g) = reads_gap z r t e in n.no_entry y (z, comma, g)

-- the element begins where an element may begin
pub element_found : (comma_due : Bool) (x y r : List ℕ) (t : Tree) → StepsTo comma_due x y → IsElement comma_due x t r → Reads y t r
element_found false x y r t g p = reads_found x g.gap y r t g.split g.is_gap g.solid p
element_found true x y r t (z, comma, g) (k, other, p) = reads_found z g.gap y r t g.split g.is_gap g.solid (after_same_comma (λ q. Reads q t r) x z k comma other p)

-- no bracket closes there
pub no_close_found : (b : BracketPair) → AreSigns b → (comma_due : Bool) (x y r : List ℕ) → StepsTo comma_due x y → NotBegun (λ c. c == b.closing) y → IsEnd b.closing comma_due x r → ⊥
no_close_found b k false x y r g n c = no_sign_next b.closing x y r k.closing g n c
no_close_found b k true x y r (z, comma, g) n (inl c) = no_comma_end b.closing x z r k.closing k.no_comma comma c
no_close_found b k true x y r (z, comma, g) n (inr (w, other, c)) = no_sign_next b.closing z y r k.closing g n (after_same_comma (λ q. IsSign b.closing q r) x z w comma other c)

pub took_element : (comma_due : Bool) (s mid last : State) (t : Tree) → AtEntry square comma_due s mid → TookValue mid t last → TookElement comma_due s t last
took_element comma_due s mid last t at took = record {
  live = at.live;
  element = element_read comma_due s.unread mid.unread last.unread t at.begun took.reads;
  shallow = let deep = took.shallow in let level = level_of at.rest in omega (arith, deep, level);
  rest = only_read s mid last at.rest took.rest;
}

-- an array's brackets
pub square_signs : AreSigns square
square_signs = record {
  opening = opening_solid;
  closing = bracket_solid;
  no_comma = refl;
  other_ends = λ e. absurd (cc);
  other_not_opened = λ e. absurd (cc);
  other_not_closed = λ e. absurd (cc);
}

-- one open bracket too many
pub too_deep_here : (b : BracketPair) (level : ℕ) (s next : State) (e : Error) (p : Position) → level ≡ max_depth → TookText s (b.opening ∷ []) next → kind_of e ≡ code codes.TooDeep → error_position e ≡ Some p
    → ((before : List ℕ) → s.input ≡ before ++ s.unread → p ≡ position_after before) → Refused (NotOpened b level) (cursor_of s) e
too_deep_here b level s next e p full took kind place there = record {
  reason = Some codes.TooDeep;
  place = Some [];
  fault = subst (λ x. NotOpened b level x (Some codes.TooDeep) (Some [])) (sym took.split) (too_deep next.unread full);
  says = kind;
  placed = λ before split. place ∙ ap (λ q. Some q) (there before split) ∙ ap (λ q. Some (position_after q)) (sym (append-nil before));
}

-- ---- no closing

pub no_close_next : (b : BracketPair) → AreSigns b → (comma_due : Bool) (s mid : State) (r : List ℕ) → PassedGap s mid → (comma_due ≡ true → NotBegun (λ c. c == 0x2C) mid.unread) → NotBegun (λ c. c == b.closing) mid.unread → IsEnd b.closing comma_due s.unread r → ⊥
no_close_next b k false s mid r p m n c = no_sign_next b.closing s.unread mid.unread r k.closing (after_gap_of s mid p) n c
no_close_next b k true s mid r p m n (inl c) = no_sign_next b.closing s.unread mid.unread r k.closing (after_gap_of s mid p) n c
no_close_next b k true s mid r p m n (inr (y, comma, c)) = no_sign_next 0x2C s.unread mid.unread y comma_solid (after_gap_of s mid p) (m refl) comma

-- a comment in front is at fault
pub no_close_faulty : (b : BracketPair) → AreSigns b → (comma_due : Bool) (s : State) (e : Error) (r : List ℕ) → Refused FaultyBlanks (cursor_of s) e → IsEnd b.closing comma_due s.unread r → ⊥
no_close_faulty b k comma_due s e r f c = (nowhere_faulty b k comma_due s.unread f.fault).no_close r c

-- after the comma
pub no_close_after : (b : BracketPair) → AreSigns b → (comma_due : Bool) (s mid next : State) (r : List ℕ) → comma_due ≡ true → PassedGap s mid → TookText mid (0x2C ∷ []) next → (IsSign b.closing next.unread r → ⊥) → IsEnd b.closing comma_due s.unread r → ⊥
no_close_after b k comma_due s mid next r d p took n c = by (subst (λ t. IsEnd b.closing t s.unread r) d c)
  where
    comma : IsSign 0x2C s.unread next.unread
    comma = sign_next 0x2C s.unread mid.unread next.unread (after_gap_of s mid p) took.split

    by : IsEnd b.closing true s.unread r → ⊥
    by (inl q) = no_comma_end b.closing s.unread next.unread r k.closing k.no_comma comma q
    by (inr (y, other, q)) = n (after_same_comma (λ z. IsSign b.closing z r) s.unread next.unread y comma other q)

pub ok_unless : {V E : Type 0} {P : E → Type 0} (result : Result V E) → IfErr result P → ((e : E) → P e → ⊥) → IsOk result
ok_unless (Ok v) k h = refl
ok_unless (Err e) k h = absurd (h e k)

-- ---- what is refused instead of a closing bracket

-- without a comma, or where no comma is due
pub refused_bracket : (b : BracketPair) (comma_due : Bool) (s mid at : State) (e : Error) → PassedGap s mid → at ≡ mid → (comma_due ≡ true → NotBegun (λ c. c == 0x2C) mid.unread)
    → Refused (Unexpected b.ends b.not_closed) (cursor_of at) e × NotBegun (λ c. c == b.closing) at.unread → RefusedBy (NotClosed b comma_due) s e
refused_bracket b comma_due s mid at e p same m (f, n) =
    refused_token s mid e p (refused_as at mid e same (λ reason place k. not_here (no_bracket_here b comma_due mid.unread reason place m (subst (NotBegun (λ c. c == b.closing)) (unread_of same) n) k)) f)

-- after the comma
pub refused_bracket_after : (b : BracketPair) (comma_due : Bool) (s mid next far : State) (e : Error) → comma_due ≡ true → PassedGap s mid → TookText mid (0x2C ∷ []) next → PassedGap next far
    → Refused (Unexpected b.ends b.not_closed) (cursor_of far) e × NotBegun (λ c. c == b.closing) far.unread → RefusedBy (NotClosed b comma_due) s e
refused_bracket_after b comma_due s mid next far e d p took q (f, n) =
    let there : Refused (AfterBlanks (NoBracket b false)) (cursor_of next) e =
    refused_token next far e q (refused_as far far e refl (λ reason place k. no_bracket_here b false far.unread reason place (λ is. absurd (true_false is refl)) n k) f) q.live in
    refused_token s mid e p (refused_after mid next e (0x2C ∷ []) took (λ reason place k. comma_before d k) there)

-- a faulty comment after the comma
pub refused_blanks_after : (b : BracketPair) (comma_due : Bool) (s mid next : State) (e : Error) → comma_due ≡ true → PassedGap s mid → TookText mid (0x2C ∷ []) next → (next.failed ≡ false → Refused FaultyBlanks (cursor_of next) e) → RefusedBy (NotClosed b comma_due) s e
refused_blanks_after b comma_due s mid next e d p took f =
    refused_token s mid e p (refused_after mid next e (0x2C ∷ []) took (λ reason place k. comma_before d (in_blanks k)) (f (failed_of took.rest ∙ failed_of p.rest ∙ p.live)))

-- ---- no opening

opens_begun : (b : BracketPair) (level : ℕ) (x r : List ℕ) (reason : Option ErrorCode) (place : Option (List ℕ)) → x ≡ b.opening ∷ r → level < max_depth → NotOpened b level x reason place → ⊥
opens_begun b level x r reason place e room (no_bracket c q n) = let same : c ≡ b.opening = cc in true_false (ap (λ d. d == b.opening) same ∙ same_char b.opening) n
opens_begun b level x r reason place e room text_ends = absurd (cc)
opens_begun b level x r reason place e room (too_deep q full) = omega (arith, room, full)

-- an opening bracket within the limit isn't refused
pub no_opening_refusal : (b : BracketPair) → AreSigns b → (level : ℕ) (x r : List ℕ) (reason : Option ErrorCode) (place : Option (List ℕ)) → IsSign b.opening x r → level < max_depth → AfterBlanks (NotOpened b level) x reason place → ⊥
no_opening_refusal b k level x r reason place o room (in_blanks (w, p, shown, f)) = no_sign_in_blanks b.opening x w p r reason place shown k.opening f o
no_opening_refusal b k level x r reason place o room (after_gap {w = w} {x = y} {place = q} g s f) =
    opens_begun b level y r reason q (sign_found b.opening (w ++ y) w y r k.opening refl g s o) room f

pub opening_refused : (b : BracketPair) → AreSigns b → (s : State) (e : Error) (r : List ℕ) → RefusedBy (NotOpened b s.level) s e → s.failed ≡ false → IsSign b.opening s.unread r → s.level < max_depth → ⊥
opening_refused b k s e r f live o room = let f = f live in no_opening_refusal b k s.level s.unread r f.reason f.place o room f.fault
