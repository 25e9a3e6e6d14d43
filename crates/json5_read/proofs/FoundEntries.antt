-- The next entry, or the colon of a member, is found after blanks or refused there; reading on lists does the same.
use Rattle.std.proofs.Common.{◌≡◌, ◌≢◌, ℕ, Bool, true, false, not, List, [], ◌∷◌, ◌++◌, refl, ap, sym, ◌∙◌, subst, append_assoc, inr, Option, Some, None}
use Rattle.std.specs.Prelude.{◌==◌, slice_get, Err}
use Rattle.json5_grammar.specs.declared.error_code.ErrorCode.{ErrorCode}
use Rattle.json5_grammar.specs.declared.error_code.ErrorCode.TheVariants as codes
use Rattle.json5_grammar.specs.Faults.Codes.{after_text}
use Rattle.json5_grammar.specs.Faults.Positions.{position_after}
use Rattle.json5_grammar.specs.Language.Blanks.{Gap, Solid}
use Rattle.json5_grammar.specs.Language.Characters.{NotBegun}
use Rattle.json5_grammar.specs.Model.Collections.{IsSign}
use Rattle.json5_grammar.specs.Model.Reading.{Read, here, inner, and_then}
use Rattle.json5_grammar.specs.Model.ReadBlanks.{skip, between}
use Rattle.json5_grammar.specs.Model.ReadSteps.{colon_after, comma_at, separator}
use Rattle.json5_grammar.specs.Model.ReadValues.{colon_at}
use Rattle.json5_grammar.proofs.ArraysRead.{sign_here}
use Rattle.json5_grammar.proofs.BlanksSound.{gap_read, blank_refused}
use Rattle.json5_grammar.proofs.Refusals.{Refuses, refuses_after}
use Rattle.json5_types.specs.declared.error.Error.{Error}
use Rattle.json5_types.specs.Errors.{error_position}
use Rattle.json5_tokens.specs.Cursor.{Cursor, Took, IsPositioned, Refused}
use Rattle.json5_tokens.specs.ShortWays.{AfterGap, Stepped}
use Rattle.json5_tokens.specs.TokenFaults.{FaultyBlanks}
use Rattle.json5_read.specs.declared.brackets.BracketPair.{BracketPair}
use Rattle.json5_read.specs.declared.brackets.BracketKind.{BracketKind}
use Rattle.json5_read.specs.declared.brackets.BracketKind.TheVariants as kind
use Rattle.json5_read.specs.Brackets.{bracket_of, brackets_of}
use Rattle.json5_read.specs.Entries.{entry_front, entry_start, next_entry}
use Rattle.json5_read.specs.EntryFaults.{FaultRelation, AfterBlanks, in_blanks, after_gap, NoNext, no_comma, comma_missing, in_blanks_after, NoColon, no_colon, colon_missing}
use Rattle.json5_read.specs.ModelSteps.{IsInside, Steps, SameText, Unexpected, at_end, at_char}
use Rattle.json5_read.proofs.EntrySteps.{separator_is, start_or_end}
use Rattle.json5_read.proofs.ModelSteps.{some_next, blames_refused, refused_step}
use Rattle.json5_read.proofs.NoFailedCode.{Lacks, in_blanks_other}
use Rattle.json5_read.proofs.UnexpectedCharacters.{closing_is, ends_is}

-- ---- gaps

-- blanks were passed over, up to what is no blank
abbrev pub Passed : Cursor → Cursor → Type 0
Passed old mid = (w : List ℕ) × Took old w mid × Gap w mid.unread × Solid mid.unread

pub gap_of : (old mid : Cursor) → Passed old mid → AfterGap old.unread mid.unread
gap_of old mid (w, took, gap, solid) = record { gap = w; split = took.split; is_gap = gap; solid = solid }

-- a sign follows the gap
pub sign_next : (sign : ℕ) (x y z : List ℕ) → AfterGap x y → y ≡ sign ∷ z → IsSign sign x z
sign_next sign x y z g e = sign_here sign x g.gap z (g.split ∙ ap (λ k. g.gap ++ k) e) (subst (Gap g.gap) e g.is_gap)

-- ---- what is found

-- the bracket or an entry after the comma
pub found_after : (b : BracketPair) (comma_due closing : Bool) (old mid next last : Cursor) → comma_due ≡ true → Passed old mid → Took mid (44 ∷ []) next → Passed next last
    → (closing ≡ true → slice_get last.unread 0 ≡ Some b.closing) → (closing ≡ false → NotBegun (λ c. c == b.closing) last.unread) → Stepped b.closing comma_due (not (not closing)) old last
found_after b comma_due true old mid next last is p took q at other =
    let (r, split) = some_next last.unread b.closing (at refl) in
    let comma = sign_next 44 old.unread mid.unread next.unread (gap_of old mid p) took.split in
    let bracket = sign_next b.closing next.unread last.unread r (gap_of next last q) split in
    subst (λ d. Stepped b.closing d true old last) (sym is) (record { step = (r, inr (next.unread, comma, bracket), split); same = q.1.same ∙ took.same ∙ p.1.same })
found_after b comma_due false old mid next last is p took q at other =
    let comma = sign_next 44 old.unread mid.unread next.unread (gap_of old mid p) took.split in
    subst (λ d. Stepped b.closing d false old last) (sym is) (record { step = ((next.unread, comma, gap_of next last q), other refl); same = q.1.same ∙ took.same ∙ p.1.same })

-- ---- what is refused

-- the position of a fault that is refused after what was taken
pub placed_after : (old mid : Cursor) (e : Error) (w : List ℕ) (place : Option (List ℕ)) → Took old w mid → IsPositioned mid place e → IsPositioned old (after_text w place) e
placed_after old mid e w None took k = k
placed_after old mid e w (Some p) took k = λ before whole.
    let there : mid.input ≡ (before ++ w) ++ mid.unread = took.same ∙ whole ∙ ap (λ y. before ++ y) took.split ∙ sym (append_assoc before w mid.unread) in
    subst (λ z. error_position e ≡ Some (position_after z)) (append_assoc before w p) (k (before ++ w) there)

-- a comment in front is at fault
pub refused_blanks : {F : FaultRelation} (old : Cursor) (e : Error) → Refused FaultyBlanks old e → Refused (AfterBlanks F) old e
refused_blanks old e f = record { reason = f.reason; place = f.place; fault = in_blanks f.fault; says = f.says; placed = f.placed }

-- a fault after what was taken, also under another name
pub refused_after : {F G : FaultRelation} (old mid : Cursor) (e : Error) (w : List ℕ) → Took old w mid → ((reason : Option ErrorCode) (place : Option (List ℕ)) → F mid.unread reason place → G (w ++ mid.unread) reason (after_text w place))
    → Refused F mid e → Refused G old e
refused_after {G = G} old mid e w took h f = record {
  reason = f.reason;
  place = after_text w f.place;
  fault = subst (λ x. G x f.reason (after_text w f.place)) (sym took.split) (h f.reason f.place f.fault);
  says = f.says;
  placed = placed_after old mid e w f.place took f.placed;
}

-- a fault after the gap
pub refused_gap : {F G : FaultRelation} (old mid : Cursor) (e : Error) → Passed old mid → ((reason : Option ErrorCode) (place : Option (List ℕ)) → F mid.unread reason place → G mid.unread reason place) → Refused F mid e → Refused (AfterBlanks G) old e
refused_gap old mid e (w, took, gap, solid) h f = refused_after old mid e w took (λ reason place k. after_gap gap solid (h reason place k)) f

no_next : (b : BracketPair) (comma_due : Bool) (x : List ℕ) (reason : Option ErrorCode) (place : Option (List ℕ)) → comma_due ≡ true → NotBegun (λ c. c == 44) x → NotBegun (λ c. c == b.closing) x → Unexpected b.ends codes.ExpectedComma x reason place → NoNext b comma_due x reason place
no_next b comma_due x reason place d m n at_end = comma_missing d
no_next b comma_due x reason place d m n (at_char c r) = no_comma c r d m n

-- neither the comma that is due nor the bracket
pub missed_comma : (b : BracketPair) (comma_due : Bool) (old mid at : Cursor) (e : Error) → comma_due ≡ true → Passed old mid → at ≡ mid → NotBegun (λ c. c == 44) mid.unread → NotBegun (λ c. c == b.closing) mid.unread
    → Refused (Unexpected b.ends codes.ExpectedComma) at e → Refused (AfterBlanks (NoNext b comma_due)) old e
missed_comma b comma_due old mid at e d p same m n f =
    refused_gap old mid e p (λ reason place k. no_next b comma_due mid.unread reason place d m n k) (subst (λ (s : Cursor). Refused (Unexpected b.ends codes.ExpectedComma) s e) same f)

-- a comment after the comma is at fault
pub faulty_after : (b : BracketPair) (comma_due : Bool) (old mid next : Cursor) (e : Error) → comma_due ≡ true → Passed old mid → Took mid (44 ∷ []) next → Refused FaultyBlanks next e → Refused (AfterBlanks (NoNext b comma_due)) old e
faulty_after b comma_due old mid next e d p took f =
    refused_gap {F = NoNext b comma_due} old mid e p (λ reason place k. k) (refused_after mid next e (44 ∷ []) took (λ reason place k. in_blanks_after d k) f)

no_colon_here : (x : List ℕ) (reason : Option ErrorCode) (place : Option (List ℕ)) → NotBegun (λ c. c == 58) x → Unexpected codes.EofParsingObject codes.ExpectedColon x reason place → NoColon x reason place
no_colon_here x reason place n at_end = colon_missing
no_colon_here x reason place n (at_char c r) = no_colon c r n

pub missed_colon : (old mid at : Cursor) (e : Error) → Passed old mid → at ≡ mid → NotBegun (λ c. c == 58) mid.unread → Refused (Unexpected codes.EofParsingObject codes.ExpectedColon) at e → Refused (AfterBlanks NoColon) old e
missed_colon old mid at e p same n f =
    refused_gap old mid e p (λ reason place k. no_colon_here mid.unread reason place n k) (subst (λ (s : Cursor). Refused (Unexpected codes.EofParsingObject codes.ExpectedColon) s e) same f)

-- ---- no fault of these is that a reader had failed

pub after_lacks : {F : FaultRelation} → Lacks F → Lacks (AfterBlanks F)
after_lacks l x reason place (in_blanks (before, part, shown, fault)) = in_blanks_other fault
after_lacks l x reason place (after_gap {x = y} {place = p} g s f) = l y reason p f

pub next_lacks : (b : BracketPair) → b.ends ≢ codes.Failed → (comma_due : Bool) → Lacks (NoNext b comma_due)
next_lacks b other comma_due x reason place (no_comma c r d h k) = λ e. absurd (cc)
next_lacks b other comma_due x reason place (comma_missing d) = λ e. other (cc)
next_lacks b other comma_due x reason place (in_blanks_after d (before, part, shown, fault)) = in_blanks_other fault

pub colon_lacks : Lacks NoColon
colon_lacks x reason place (no_colon c r n) = λ e. absurd (cc)
colon_lacks x reason place colon_missing = λ e. absurd (cc)

-- ---- reading on lists refuses the same

-- after blanks the first thing that is asked for refuses
gap_refuses : {A : Type 0} (f : List ℕ → Read A) (w y : List ℕ) (reason : Option ErrorCode) (place : Option (List ℕ)) → Gap w y → Solid y → Refuses (f y) y reason place → Refuses (and_then (skip between (w ++ y)) (λ u z. f z)) (w ++ y) reason (after_text w place)
gap_refuses f w y reason place gap solid k = refuses_after w y (f y) (and_then (skip between (w ++ y)) (λ u z. f z)) reason place (λ p e. ap (λ m. and_then m (λ u z. f z)) (gap_read gap solid) ∙ e) k

blanks_refuse : {A : Type 0} (f : List ℕ → Read A) (x : List ℕ) (reason : Option ErrorCode) (place : Option (List ℕ)) → FaultyBlanks x reason place → Refuses (and_then (skip between x) (λ u z. f z)) x reason place
blanks_refuse f x reason place (before, part, shown, fault) = let (p, is, at) = blank_refused fault in (p, ap (λ m. and_then m (λ u z. f z)) is, at)

-- after blanks, where a comma is due
abbrev after_comma_due : BracketKind → List ℕ → Read Bool
after_comma_due k y = and_then (comma_at (bracket_of k) y) (start_or_end (bracket_of k))

due_refuses : (k : BracketKind) (y : List ℕ) (reason : Option ErrorCode) (place : Option (List ℕ)) → NoNext (brackets_of k) true y reason place → Refuses (after_comma_due k y) y reason place
due_refuses k y reason place (no_comma c r d n m) = let other = subst (λ s. (c == s) ≡ false) (closing_is k (brackets_of k) refl) m in (here (c ∷ r), rw (n, other) refl, refl)
due_refuses k y reason place (comma_missing d) = (inner, rw (ends_is k (brackets_of k) refl) refl, tt)
due_refuses k y reason place (in_blanks_after {x = z} {place = q} d f) =
    refuses_after (44 ∷ []) z (entry_start (bracket_of k) z) (after_comma_due k (44 ∷ z)) reason q (λ p e. e) (blanks_refuse (entry_front (bracket_of k)) z reason q f)

-- where no comma is due, nothing is refused after blanks
pub none_due : {b : BracketPair} {x : List ℕ} {reason : Option ErrorCode} {place : Option (List ℕ)} → NoNext b false x reason place → ⊥
none_due (no_comma c r d n m) = absurd (cc)
none_due (comma_missing d) = absurd (cc)
none_due (in_blanks_after d f) = absurd (cc)

entry_refuses : (k : BracketKind) (comma_due : Bool) (x : List ℕ) (reason : Option ErrorCode) (place : Option (List ℕ)) → AfterBlanks (NoNext (brackets_of k) comma_due) x reason place → Refuses (next_entry (bracket_of k) comma_due x) x reason place
entry_refuses k false x reason place (in_blanks f) = blanks_refuse (entry_front (bracket_of k)) x reason place f
entry_refuses k false x reason place (after_gap g s f) = absurd (none_due f)
entry_refuses k true x reason place (in_blanks f) =
    let (p, is, at) = blanks_refuse (comma_at (bracket_of k)) x reason place f in (p, ap (λ m. and_then m (start_or_end (bracket_of k))) (separator_is (bracket_of k) x ∙ is), at)
entry_refuses k true x reason place (after_gap {w = w} {x = y} {place = q} g s f) =
    let due : separator (bracket_of k) (w ++ y) ≡ comma_at (bracket_of k) y = separator_is (bracket_of k) (w ++ y) ∙ ap (λ m. and_then m (λ u z. comma_at (bracket_of k) z)) (gap_read g s) in
    refuses_after w y (after_comma_due k y) (next_entry (bracket_of k) true (w ++ y)) reason q (λ p e. ap (λ m. and_then m (start_or_end (bracket_of k))) due ∙ e) (due_refuses k y reason q f)

-- from the colon on
abbrev from_colon : List ℕ → Read (Unit {0})
from_colon y = and_then (colon_at y) (λ v z. skip between z)

from_colon_refuses : (y : List ℕ) (reason : Option ErrorCode) (place : Option (List ℕ)) → NoColon y reason place → Refuses (from_colon y) y reason place
from_colon_refuses y reason place (no_colon c r n) = (here (c ∷ r), rw n refl, refl)
from_colon_refuses y reason place colon_missing = (inner, refl, tt)

colon_after_refuses : (x : List ℕ) (reason : Option ErrorCode) (place : Option (List ℕ)) → AfterBlanks NoColon x reason place → Refuses (colon_after x) x reason place
colon_after_refuses x reason place (in_blanks f) = blanks_refuse from_colon x reason place f
colon_after_refuses x reason place (after_gap {w = w} {x = y} {place = q} g s f) = gap_refuses from_colon w y reason q g s (from_colon_refuses y reason q f)

-- ---- steps

pub ends_other : (k : BracketKind) → (brackets_of k).ends ≢ codes.Failed
ends_other kind.Array e = absurd (cc)
ends_other kind.Object e = absurd (cc)

pub entry_refused : (k : BracketKind) (comma_due : Bool) (old new : Cursor) (e : Error) → IsInside old → Refused (AfterBlanks (NoNext (brackets_of k) comma_due)) old e → SameText old new → Steps (next_entry (bracket_of k) comma_due old.unread) old new (Err e)
entry_refused k comma_due old new e r f same =
    refused_step old new (next_entry (bracket_of k) comma_due old.unread) e
    (blames_refused old (next_entry (bracket_of k) comma_due old.unread) e r (after_lacks (next_lacks (brackets_of k) (ends_other k) comma_due)) (λ reason place g. entry_refuses k comma_due old.unread reason place g) f) same

pub colon_refused : (old new : Cursor) (e : Error) → IsInside old → Refused (AfterBlanks NoColon) old e → SameText old new → Steps (colon_after old.unread) old new (Err e)
colon_refused old new e r f same =
    refused_step old new (colon_after old.unread) e (blames_refused old (colon_after old.unread) e r (after_lacks colon_lacks) (λ reason place g. colon_after_refuses old.unread reason place g) f) same
