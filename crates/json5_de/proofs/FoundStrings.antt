-- What it means to read a string that is found and looked at without a copy.
use Rattle.std.proofs.Common.{◌≡◌, ◌≢◌, Bool, true, false, List, ℕ, refl, ap, sym, ◌∙◌, subst, ◌⊎◌, inl, inr, Option, Some, None}
use Rattle.std.specs.Prelude.{Result, Ok, Err}
use Rattle.std.specs.Str.{chars}
use Rattle.std.proofs.lemmas.Str.{chars-encodes}
use Rattle.json5_grammar.specs.declared.error_code.ErrorCode.{ErrorCode}
use Rattle.json5_grammar.specs.declared.error_code.ErrorCode.TheVariants as codes
use Rattle.json5_grammar.specs.Language.Trees.{Tree, null, boolean, number, text, array, object}
use Rattle.json5_grammar.specs.Language.Values.{is_text}
use Rattle.json5_types.specs.declared.error.Error.{Error}
use Rattle.json5_types.specs.Errors.{LacksMemory}
use Rattle.json5_tokens.specs.TokenFaults.{FaultyString}
use Rattle.json5_de.specs.declared.de.tokens.FoundText.{FoundText}
use Rattle.json5_de.specs.State.{State, GivesUp}
use Rattle.json5_de.specs.Convert.{as_text, every_text, one_character}
use Rattle.json5_de.specs.Faults.{RefusedByOrMemory, NotText, faulty_text}
use Rattle.json5_read.specs.EntryFaults.{AfterBlanks, in_blanks, after_gap}
use Rattle.json5_de.specs.FoundTexts.{TookStringAt, SpellsText, OfFound, JudgesText}
use Rattle.json5_de.specs.DeserializeLaw.{CompletesFree, StaysFailed}
use Rattle.json5_de.specs.TokenKinds.{ReadsAs, coded_text_kind, escape_free_text}
use Rattle.json5_de.specs.ReaderSteps.{PassedGap}
use Rattle.json5_de.specs.TokenCalls.{CompletesEscapeFree}
use Rattle.json5_de.proofs.ExpectsStrings.{text_stops}
use Rattle.json5_de.proofs.TokenKinds.{escape_free_completes, lawful_coded, reads_ok, reads_err, refuses_memory, not_coded}
use Rattle.json5_de.proofs.ReadSteps.{took_leaf}
use Rattle.json5_de.proofs.StringCharacters.{same_character}

after_text : {C : Type 0} (other : Option ErrorCode) (f : List ℕ → Bool → Option C) (x : List ℕ) (reason : Option ErrorCode) (place : Option (List ℕ)) → AfterBlanks FaultyString x reason place → AfterBlanks (NotText other f) x reason place
after_text other f x reason place (in_blanks k) = in_blanks k
after_text other f x reason place (after_gap g s k) = after_gap g s (faulty_text k)

no_text : {C : Type 0} (other : Option ErrorCode) (f : List ℕ → Bool → Option C) (old : State) (e : Error) → RefusedByOrMemory FaultyString old e → RefusedByOrMemory (NotText other f) old e
no_text other f old e (inl m) = inl m
no_text other f old e (inr k) = inr (λ live. let g = k live in record { reason = g.reason; place = g.place; fault = after_text other f old.unread g.reason g.place g.fault; says = g.says; placed = g.placed })

-- an escape-free string is a string
escape_free_is_text : (t : Tree) → escape_free_text t ≡ true → (v : List ℕ) × (as_text every_text t ≡ Some v)
escape_free_is_text null e = absurd (cc)
escape_free_is_text (boolean b) e = absurd (cc)
escape_free_is_text (number n) e = absurd (cc)
escape_free_is_text (text u escape_free) e = (_, refl)
escape_free_is_text (array ts) e = absurd (cc)
escape_free_is_text (object ps) e = absurd (cc)

-- an escape-free string isn't refused
pub escape_free_found : (old mid : State) (e : Error) → PassedGap old mid → CompletesEscapeFree {V = FoundText} mid.unread (Err e) → CompletesFree {V = FoundText} escape_free_text (as_text every_text) old (Err e)
escape_free_found old mid e p ok = escape_free_completes {V = FoundText} (as_text every_text) old mid (Err e) p ok

-- no string was found
pub no_string : {V C : Type 0} (other : Option ErrorCode) → other ≢ Some codes.Failed → (f : List ℕ → Bool → Option C) (allocation_free : Tree → Bool) (content : V → C) (old new : State) (e : Error) → ((t : Tree) → allocation_free t ≡ true → escape_free_text t ≡ true)
    → RefusedByOrMemory FaultyString old e → CompletesFree {V = FoundText} escape_free_text (as_text every_text) old (Err e) → GivesUp old new → StaysFailed {V = FoundText} old new (Err e) → ReadsAs (coded_text_kind other f allocation_free) content old new (Err e)
no_string other unlike f allocation_free content old new e only k complete failed before =
    reads_err (lawful_coded other unlike f allocation_free) content old new e
    (λ t r c live reads shallow is spare. let escape_free = only t spare in let (v, there) = escape_free_is_text t escape_free in complete t r v live reads shallow there escape_free)
    (no_text other f old e k)
    failed
    before

-- the text is looked at without a copy
pub string_judged : {V C : Type 0} (lacks : Bool) (other : Option ErrorCode) → other ≢ Some codes.Failed → (f : List ℕ → Bool → Option C) (allocation_free : Tree → Bool) (content : V → C) (old new last : State) (found : FoundText) (result : Result V Error)
    → (lacks ≡ true → (t : Tree) → allocation_free t ≡ false) → TookStringAt old new found → JudgesText lacks other f content found new last result → ReadsAs (coded_text_kind other f allocation_free) content old last result
string_judged lacks other unlike f allocation_free content old new last found (Ok v) spare k j =
    subst (λ s. ReadsAs (coded_text_kind other f allocation_free) content old s (Ok v)) (sym j.kept) (reads_ok (coded_text_kind other f allocation_free) content old new v (
      text k.text k.escape_free,
      took_leaf old k.between new k.spelling (text k.text k.escape_free) refl k.passed k.took (is_text k.is_spelling) (text_stops new.unread k.is_spelling),
      j.converts k.text k.escape_free k.is_text k.scalars,
    ))
string_judged {V = V} {C = C} lacks other unlike f allocation_free content old new last found (Err e) spare k j = by_cause j.other
  where
    by_cause : ((lacks ≡ true) × LacksMemory e) ⊎ OfFound new found (λ u escape_free. f u escape_free ≡ None) → ReadsAs (coded_text_kind other f allocation_free) content old last (Err e)
    by_cause (inl (may, memory)) = refuses_memory (lawful_coded other unlike f allocation_free) refl (spare may) content old k.between new last e k.spelling k.passed k.took memory j.failed
    by_cause (inr none) = not_coded other unlike f allocation_free content old k.between new last (Err e) found.start k.spelling k.text k.escape_free k.passed k.took k.is_spelling (none k.text k.escape_free k.is_text k.scalars) k.counted j.refused j.failed

-- ---- texts of one character

-- the characters of a found text are those of its bytes
pub judged_character : (s : State) (found : FoundText) (bytes : List ℕ) (c : Option ℕ) → SpellsText s found.token bytes → one_character (chars bytes) false ≡ c → OfFound s found (λ u escape_free. one_character u escape_free ≡ c)
judged_character s found bytes c spells is u escape_free spelled scalars =
    same_character u escape_free ∙ ap (λ x. one_character x false) (sym (ap chars (spells u escape_free spelled) ∙ chars-encodes u scalars)) ∙ is
