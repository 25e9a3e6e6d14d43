-- How far a list was read, and why it is refused there.
use Rattle.std.proofs.Common.{◌≡◌, ◌<◌, ℕ, suc, true, false, List, length, refl, sym, ap, ◌∙◌, subst, Option, Some, Ok, Err}
use Rattle.std.specs.Prelude.{is_some}
use Rattle.json5_grammar.specs.Language.Trees.{Tree, Trees, no_more, more}
use Rattle.json5_grammar.specs.Model.Collections.{snoc, contents, IsClose}
use Rattle.json5_grammar.proofs.ElementsConverted.{both_parts}
use Rattle.json5_grammar.proofs.ArraysPartlyRead.{bracket_closes}
use Rattle.json5_types.specs.declared.error.Error.{Error}
use Rattle.json5_de.specs.State.{State}
use Rattle.json5_read.specs.Brackets.{square}
use Rattle.json5_de.specs.Arrays.{AccessState, OpensArray, ClosesArray, AtClose, ElementsRead, ReadsMore}
use Rattle.json5_de.specs.ListFaults.{Element, Elements, element, every, count, Accepted, ReadWithin, Shape, HasElement, ListFault, at_element, too_few, RefusesRequired, at_fault, missing, RefusesList}
use Rattle.json5_grammar.proofs.CommonLemmas.{true_false}

-- ---- elements that convert

accepted_more : (es : Elements) (ts : Trees) (t : Tree) (n : ℕ) → count ts ≡ n → Accepted es ts → (es n).accepts t ≡ true → Accepted es (snoc ts t)
accepted_more es no_more t n counted fits is = (subst (λ k. (es k).accepts t ≡ true) (sym counted) is, tt)
accepted_more es (more u us) t n counted (fits, all) is =
    (fits, accepted_more (λ k. es (suc k)) us t (count us) refl all (subst (λ k. (es k).accepts t ≡ true) (sym counted) is))

counted_more : (ts : Trees) (t : Tree) → count (snoc ts t) ≡ suc (count ts)
counted_more no_more t = refl
counted_more (more u us) t = ap suc (counted_more us t)

some_is : {C : Type 0} (o : Option C) (v : C) → o ≡ Some v → is_some o ≡ true
some_is o v e = ap is_some e

pub every_accepted : {C : Type 0} (f : Tree → Option C) (refuses : State → Error → State → Type 0) (ts : Trees) (vs : List C) → contents f ts ≡ Some vs → Accepted (every (element f refuses)) ts
every_accepted f refuses no_more vs e = tt
every_accepted f refuses (more t ts) vs e = let (c, rest, is, others, k) = both_parts (f t) (contents f ts) vs e in (some_is (f t) c is, every_accepted f refuses ts rest others)

pub count_values : {C : Type 0} (f : Tree → Option C) (ts : Trees) (vs : List C) → contents f ts ≡ Some vs → count ts ≡ length vs
count_values f no_more vs e = cc
count_values f (more t ts) vs e = let (c, rest, is, others, k) = both_parts (f t) (contents f ts) vs e in ap suc (count_values f ts rest others) ∙ sym (ap length k)

-- ---- how far it was read

pub within : {A : Type 0} {Held : A → Type 0} (es : Elements) (state_of : A → AccessState) (old : State) (a : A) (now : AccessState) (ts : Trees) → OpensArray Held state_of old (Ok a) → now.start ≡ (state_of a).start → ElementsRead old ts now → Accepted es ts → ReadWithin es old now (count ts)
within es state_of old a now ts opens same read accepted = record {
  first = (state_of a).reader;
  opened = opens.bracket.opened.0;
  start = λ before split. same ∙ opens.bracket.start before split;
  trees = ts;
  counted = refl;
  read = read;
  accepted = accepted;
}

-- nothing of it yet
pub begun : {A : Type 0} {Held : A → Type 0} (es : Elements) (state_of : A → AccessState) (old : State) (a : A) → OpensArray Held state_of old (Ok a) → ReadWithin es old (state_of a) 0
begun es state_of old a opens = within es state_of old a (state_of a) no_more opens refl opens.read tt

-- one element more
pub one_further : {V C : Type 0} (es : Elements) (content : V → C) (convert : Tree → Option C) (refuses : State → Error → State → Type 0) (old : State) (s new : AccessState) (v : V) (n : ℕ) → es n ≡ element convert refuses
    → ReadWithin es old s n → new.start ≡ s.start → ReadsMore content convert s new (Some v) → ReadWithin es old new (suc n)
one_further es content convert refuses old s new v n kind w same (t, is, on) = record {
  first = w.first;
  opened = w.opened;
  start = λ before split. same ∙ w.start before split;
  trees = snoc w.trees t;
  counted = counted_more w.trees t ∙ ap suc w.counted;
  read = on old w.trees w.read;
  accepted = accepted_more es w.trees t n w.counted w.accepted (subst (λ (k : Element). k.accepts t ≡ true) (sym kind) (some_is (convert t) (content v) is));
}

-- an access within a list hasn't failed
pub reading : (es : Elements) (old : State) (now : AccessState) (n : ℕ) → ReadWithin es old now n → now.reader.failed ≡ false
reading es old now n w = ap (λ (s : State). s.failed) w.read.rest ∙ w.read.live

-- ---- why it is refused

pub refuses_list : (es : Elements) (shape : Shape) (old : State) (e : Error) (new : State) → old.failed ≡ false → new.failed ≡ true → ListFault es shape old e → RefusesList es shape old e new
refuses_list es shape old e new live failed fault = record { cause = λ l. fault; failed = failed; before = λ h. absurd (true_false h live) }

pub required_fault : (es : Elements) (shape : Shape) (old : State) (e : Error) (now : AccessState) (n size : ℕ) → shape.size ≡ Some size → n < size → ReadWithin es old now n → RefusesRequired (es n).refuses now e → ListFault es shape old e
required_fault es shape old e now n size is few w (at_fault f) = at_element now n w (subst (λ s. HasElement s n) (sym is) few) f
required_fault es shape old e now n size is few w (missing at close short) = too_few now n size w is few at close short

-- where its bracket is next it is closed
pub closes_there : (old now : AccessState) (new : State) (e : Error) → AtClose square old.comma_due old.reader now.reader → now.comma_due ≡ old.comma_due → ClosesArray now new (Err e) → {A : Type 0} → A
closes_there old now new e at comma_due closes =
    let (r, close, next) = at.close in
    let live = ap (λ (s : State). s.failed) at.rest ∙ at.live in
    let ok = closes.bracket.complete r live (subst (λ x. IsClose now.comma_due x r) (sym next) (bracket_closes now.comma_due r)) in
    absurd (cc)
