-- What a user's own type takes of a tree.
use Rattle.std.proofs.Common.{◌≡◌, ◌∙◌, ℕ, ◌+◌, ◌≤◌, false, List, [], ◌++◌, Option, Some, None, Result, Ok, Err, refl, sym, ap, subst}
use Rattle.std.specs.Prelude.{IfOk}
use Rattle.std.proofs.lemmas.List.{append-nil}
use Rattle.json5_grammar.specs.declared.position.Position.{Position}
use Rattle.json5_grammar.specs.Faults.Positions.{position_after}
use Rattle.json5_grammar.specs.Language.Trees.{Tree, depth}
use Rattle.json5_grammar.specs.Language.Values.{Reads}
use Rattle.json5_grammar.specs.Language.Documents.{max_depth}
use Rattle.json5_grammar.proofs.ArraysRead.{phrase_found}
use Rattle.json5_grammar.proofs.OneTree.{one_phrase}
use Rattle.json5_types.specs.declared.error.Error.{Error}
use Rattle.json5_tokens.specs.Cursor.{IsPositionOf}
use Rattle.json5_types.specs.Errors.{IsCustomAt}
use Rattle.json5_de.specs.State.{State}
use Rattle.json5_de.specs.Faults.{RefusedBy}
use Rattle.json5_de.specs.DeserializeLaw.{Gives, IsOkOrMemory, OnlyForMemory, Completes, TookValue}
use Rattle.json5_de.specs.Keys.{KeyConversion, KeyOnlyForMemory}
use Rattle.json5_de.specs.Refinement.{IsContent, ReadsContent, if_more, refined, NotAccepted, not_accepted}
use Rattle.json5_de.specs.Spans.{SpansValue}
use Rattle.json5_de.proofs.ReadSteps.{refused_token, input_of}

-- what is accepted was converted
pub parts : {A B : Type 0} (g : A → Option B) (o : Option A) (v : B) → if_more g o ≡ Some v → (x : A) × (o ≡ Some x) × (g x ≡ Some v)
parts g None v e = absurd (cc)
parts g (Some a) v e = (a, refl, e)

-- what isn't accepted has no content
pub no_content : {A B : Type 0} (f : Tree → Option A) (g : A → Option B) (t : Tree) (a : A) (v : B) → ((x : A) → f t ≡ Some x → a ≡ x) → g a ≡ None → refined f g t ≡ Some v → ⊥
no_content f g t a v same none e = let (x, is, accepted) = parts g (f t) v e in let here = same x is in absurd (cc (here, none, accepted))

-- `complete` of the law, at a tree that can be read and converts
pub completed : {V C : Type 0} (convert : Tree → Option C) (old : State) (result : Result V Error) → Completes convert old result → (t : Tree) (r : List ℕ) (c : C) → old.failed ≡ false → Reads old.unread t r → old.level + depth t ≤ max_depth → convert t ≡ Some c → IsOkOrMemory result
completed convert old (Ok v) complete t r c live reads shallow converts = tt
completed convert old (Err e) complete t r c live reads shallow converts = complete.memory t r c live reads shallow converts

-- and from all such trees
pub completes_by : {V C : Type 0} (convert : Tree → Option C) (old : State) (result : Result V Error) → ((t : Tree) (r : List ℕ) (c : C) → old.failed ≡ false → Reads old.unread t r → old.level + depth t ≤ max_depth → convert t ≡ Some c → IsOkOrMemory result) → Completes convert old result
completes_by convert old (Ok v) k = tt
completes_by convert old (Err e) k = record { memory = k }

-- only one tree can be read in front, so what is returned is its content
pub reads_content : {V C : Type 0} (content : V → C) (convert : Tree → Option C) (old new : State) (result : Result V Error) → IfOk result (λ v. Gives content convert old new v) → Completes convert old result → ReadsContent content convert old result
reads_content content convert old new (Ok v) (u, took, is) complete = λ t r c live reads shallow converts.
    let (same, rest) = one_phrase old.unread r new.unread t u reads took.reads in
    cc (same, is, converts)
reads_content content convert old new (Err e) sound complete = complete

pub completes : {V C : Type 0} (content : V → C) (convert : Tree → Option C) (old : State) (result : Result V Error) → ReadsContent content convert old result → Completes convert old result
completes content convert old (Ok v) reads = tt
completes content convert old (Err e) reads = reads

-- where the read refused, no more is accepted
pub accepted_completes : {A B : Type 0} {f : Tree → Option A} (g : A → Option B) {old : State} {e : Error} → OnlyForMemory f old e → OnlyForMemory (refined f g) old e
accepted_completes {f = f} g k = record { memory = λ t r b live reads shallow converts. let (a, is, accepted) = parts g (f t) b converts in k.memory t r a live reads shallow is }

-- what was read isn't accepted, so no tree that can be read converts
pub refused_completes : {A B : Type 0} (f : Tree → Option A) (g : A → Option B) {old : State} {e : Error} {a : A} → IsContent f old a → g a ≡ None → OnlyForMemory (refined f g) old e
refused_completes f g {a = a} same none = record { memory = λ t r b live reads shallow converts. absurd (no_content f g t a b (λ x is. same t r x live reads shallow is) none converts) }

-- the same of a key: where the read refused, no more is accepted
pub accepted_key_completes : {A B : Type 0} {f : KeyConversion A} (g : A → Option B) {old : State} {e : Error} → KeyOnlyForMemory f old e → KeyOnlyForMemory (λ u escape_free. if_more g (f u escape_free)) old e
accepted_key_completes {f = f} g k = record { memory = λ u escape_free r b live reads converts. let (a, is, accepted) = parts g (f u escape_free) b converts in k.memory u escape_free r a live reads is }

module _ {A B : Type 0} (f : Tree → Option A) (g : A → Option B) (old new : State) (a : A) (start end : ℕ) (p : Position) (e : Error) where
  -- what was read and isn't accepted is refused at its first character
  pub refused_at : (t : Tree) × TookValue old t new × (f t ≡ Some a) → SpansValue old start end new → g a ≡ None → IsPositionOf new.input start p → IsCustomAt (Some p) e → RefusedBy (NotAccepted f g) old e
  refused_at (t, took, is) span none place own = refused_token old span.at e span.passed (record {
    reason = None;
    place = Some [];
    fault = subst (λ x. NotAccepted f g x None (Some [])) (sym there) (not_accepted new.unread a took.reads.value took.reads.stops is none);
    says = own.kind;
    placed = λ before split. own.place ∙ ap (λ z. Some z) (place before span.at.unread (input_of took.rest ∙ sym (input_of span.passed.rest) ∙ split) (span.starts before split)) ∙ ap (λ z. Some (position_after z)) (sym (append-nil before));
  })
    where
      there : span.at.unread ≡ took.reads.phrase ++ new.unread
      there = phrase_found old.unread span.passed.gap span.at.unread new.unread t span.passed.split span.passed.is_gap span.passed.solid took.reads
