-- What reading a whole input as a value of any kind comes to.
use Rattle.std.proofs.Common.{◌≡◌, ℕ, ◌-◌, ◌≤◌, List, ◌++◌, refl, sym, ◌∙◌, subst, append_assoc, arith, ◌⊎◌, inl, inr, Option, Some}
use Rattle.std.specs.Prelude.{Result, Ok, Err, IfOk, IfErr}
use Rattle.std.proofs.lemmas.Option.{same_Some}
use Rattle.json5_grammar.specs.Faults.Codes.{after_text}
use Rattle.json5_grammar.specs.declared.error_code.ErrorCode.{ErrorCode}
use Rattle.json5_grammar.specs.Language.Documents.{Doc, max_depth}
use Rattle.json5_grammar.specs.Model.ReadValues.{document}
use Rattle.json5_grammar.specs.Language.Trees.{Tree, depth}
use Rattle.json5_grammar.specs.Language.Values.{Reads}
use Rattle.json5_grammar.proofs.BlanksSound.{blank_refused}
use Rattle.json5_grammar.proofs.Refusals.{Refuses, one_refusal}
use Rattle.json5_grammar.proofs.OneFault.{blames_text, text_refuses, no_blame}
use Rattle.json5_read.specs.EntryFaults.{FaultRelation, AfterBlanks, in_blanks, after_gap}
use Rattle.json5_types.specs.declared.error.Error.{Error}
use Rattle.json5_types.specs.declared.value.Value.{Value}
use Rattle.json5_tokens.specs.Cursor.{Refused, IsOutOfMemory}
use Rattle.json5_types.specs.ValueMeanings.{value_of}
use Rattle.json5_de.specs.AnyTree.{RefusesTree, ReadingRefuses, RefusedInReading}
use Rattle.json5_de.specs.Convert.{datum_of, every_datum}
use Rattle.json5_de.specs.Faults.{Trailing, trailing, RefusedBy}
use Rattle.json5_de.specs.DeserializeLaw.{TookValue, IsUnprompted}
use Rattle.json5_de.specs.State.{State, at_start}
use Rattle.json5_de.specs.WholeInputs.{ReadsDocument, RefusesReading, in_value, after_value}
use Rattle.json5_de.proofs.BracketSteps.{failed_of}
use Rattle.json5_de.proofs.TreeFaults.{as_reading}
use Rattle.json5_read.proofs.FoundEntries.{placed_after}
use Rattle.json5_de.proofs.ReadSteps.{input_of}
use Rattle.json5_read.specs.DocumentReads.{FaultyDocument, unread_text, IsRefusedWithin, ReadsText}
use Rattle.json5_grammar.proofs.DocumentsRead.{to_end, blanks_refused, value_refused, comment_refused, character_refused, rest_refused}

-- what reading refuses the input with
abbrev RefusedReading : ℕ → FaultRelation
RefusedReading limit x reason place = Refuses (document limit x) x reason place

-- how a value of any kind is refused
abbrev pub any_refuses : State → Error → State → Type 0
any_refuses s e t = RefusesTree s e

-- the room that a reader within the limit has
room_is : (limit : ℕ) → limit ≤ max_depth → max_depth - (max_depth - limit) ≡ limit
room_is limit bound = omega (arith, bound)

-- a fault of the value is a fault of the input
faulty_value : (limit : ℕ) (x : List ℕ) (reason : Option ErrorCode) (place : Option (List ℕ)) → limit ≤ max_depth → AfterBlanks (ReadingRefuses (max_depth - limit)) x reason place → RefusedReading limit x reason place
faulty_value limit x reason place bound (in_blanks (before, part, shown, f)) = blanks_refused limit x reason place (blank_refused f)
faulty_value limit x reason place bound (after_gap {place = there} g s k) =
    subst (λ n. RefusedReading n x reason place) (room_is limit bound) (value_refused (max_depth - (max_depth - limit)) reason there g s k)

-- and so is a fault of what follows the value
faulty_rest : (t : Tree) (r : List ℕ) (reason : Option ErrorCode) (place : Option (List ℕ)) → AfterBlanks Trailing r reason place → Refuses (to_end t r) r reason place
faulty_rest t r reason place (in_blanks (before, part, shown, f)) = comment_refused t r reason place (blank_refused f)
faulty_rest t r reason place (after_gap g s (trailing c q)) = character_refused t c q g s

in_front : (limit : ℕ) (x : List ℕ) (e : Error) → limit ≤ max_depth → Refused (AfterBlanks (ReadingRefuses (max_depth - limit))) (unread_text x) e → Refused (RefusedReading limit) (unread_text x) e
in_front limit x e bound f = record { reason = f.reason; place = f.place; fault = faulty_value limit x f.reason f.place bound f.fault; says = f.says; placed = f.placed }

in_rest : (limit : ℕ) (x r : List ℕ) (t : Tree) (e : Error) → Reads x t r → depth t ≤ limit → Refused (AfterBlanks Trailing) (record { input = x; unread = r }) e → Refused (RefusedReading limit) (unread_text x) e
in_rest limit x r t e p low f = record {
  reason = f.reason;
  place = after_text (p.front ++ p.phrase) f.place;
  fault = rest_refused limit f.reason f.place p low (faulty_rest t r f.reason f.place f.fault);
  says = f.says;
  placed = placed_after (unread_text x) (record { input = x; unread = r }) e (p.front ++ p.phrase) f.place (record { split = p.split ∙ sym (append_assoc p.front p.phrase r); same = refl }) f.placed;
}

after_phrase : (limit : ℕ) (x : List ℕ) (e : Error) (t : Tree) (new : State) → limit ≤ max_depth → TookValue (at_start limit x) t new → RefusedBy Trailing new e → Refused (RefusedReading limit) (unread_text x) e
after_phrase limit x e t new bound took k =
    in_rest limit x new.unread t e took.reads (let low = took.shallow in omega (arith, bound, low))
    (subst (λ i. Refused (AfterBlanks Trailing) (record { input = i; unread = new.unread }) e) (input_of took.rest) (k (failed_of took.rest)))

in_the_value : (limit : ℕ) (x : List ℕ) (e : Error) → limit ≤ max_depth → RefusedInReading (at_start limit x) e → IsOutOfMemory e ⊎ Refused (RefusedReading limit) (unread_text x) e
in_the_value limit x e bound (inl memory) = inl memory
in_the_value limit x e bound (inr k) = inr (in_front limit x e bound (k refl))

-- it is the input's fault
as_fault : (limit : ℕ) (x : List ℕ) (e : Error) → Refused (RefusedReading limit) (unread_text x) e → Refused (FaultyDocument limit) (unread_text x) e
as_fault limit x e f = record { reason = f.reason; place = f.place; fault = blames_text limit x f.reason f.place f.fault; says = f.says; placed = f.placed }

memory_or_fault : (limit : ℕ) (x : List ℕ) (e : Error) → IsOutOfMemory e ⊎ Refused (RefusedReading limit) (unread_text x) e → IsOutOfMemory e ⊎ Refused (FaultyDocument limit) (unread_text x) e
memory_or_fault limit x e (inl m) = inl m
memory_or_fault limit x e (inr f) = inr (as_fault limit x e f)

-- a refusal has a fault of the input
cause_of : (limit : ℕ) (x : List ℕ) (e : Error) → limit ≤ max_depth → RefusesReading every_datum any_refuses limit x e → IsOutOfMemory e ⊎ Refused (FaultyDocument limit) (unread_text x) e
cause_of limit x e bound (in_value new k) = memory_or_fault limit x e (in_the_value limit x e bound (as_reading (at_start limit x) e k))
cause_of limit x e bound (after_value t c new took is k) = inr (as_fault limit x e (after_phrase limit x e t new bound took k))

text_refused_within : (limit : ℕ) (x : List ℕ) (e : Error) → limit ≤ max_depth → RefusesReading every_datum any_refuses limit x e → IsUnprompted e → IsRefusedWithin limit x e
text_refused_within limit x e bound refused unprompted = record { cause = cause_of limit x e bound refused; unprompted = unprompted }

-- what `from_str_within` says of a value of any kind
pub reads_text : (limit : ℕ) (x : List ℕ) (result : Result Value Error) → limit ≤ max_depth → IfOk result (λ v. (t : Tree) × Doc limit x t × (every_datum t ≡ Some (value_of v))) → ReadsDocument value_of every_datum limit x result
    → IfErr result (RefusesReading every_datum any_refuses limit x) → IfErr result IsUnprompted → ReadsText limit x result
reads_text limit x (Ok v) bound (t, document, is) complete refused unprompted = record {
  sound = (t, document, sym (same_Some (datum_of t) (value_of v) is));
  complete = λ t d. complete t (datum_of t) d refl;
  refused = tt;
}
reads_text limit x (Err e) bound sound complete refused unprompted = record {
  sound = tt;
  complete = λ t d. complete t (datum_of t) d refl;
  refused = text_refused_within limit x e bound refused unprompted;
}

-- ---- one refusal

pub one_fault : (limit : ℕ) (x : List ℕ) (reason other : Option ErrorCode) (place there : Option (List ℕ)) → FaultyDocument limit x reason place → FaultyDocument limit x other there → (reason ≡ other) × (place ≡ there)
one_fault limit x reason other place there f g = one_refusal (document limit x) x reason other place there (text_refuses limit x reason place f) (text_refuses limit x other there g)

pub no_fault : (limit : ℕ) (x : List ℕ) (t : Tree) (reason : Option ErrorCode) (place : Option (List ℕ)) → Doc limit x t → FaultyDocument limit x reason place → ⊥
no_fault limit x t reason place d f = no_blame limit x t reason place d f
