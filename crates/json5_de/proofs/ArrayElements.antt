-- An array as a whole, while its elements are read: what was read of it, and what is left.
use Rattle.std.proofs.Common.{◌≡◌, ℕ, ◌+◌, ◌-◌, ◌<◌, ◌≤◌, true, false, List, ◌∷◌, refl, sym, ap, ◌∙◌, subst, arith, Option, Some, None, Result, Ok, Err, inl, inr}
use Rattle.std.specs.Prelude.{IfOk}
use Rattle.json5_grammar.specs.Language.Trees.{Tree, Trees, array, no_more, more, depth}
use Rattle.json5_grammar.specs.Language.Values.{Reads}
use Rattle.json5_grammar.specs.Language.Documents.{max_depth}
use Rattle.json5_grammar.specs.Model.Collections.{Opens, IsElement, IsClose, Passed, Tail, snoc}
use Rattle.json5_grammar.proofs.ArraysRead.{array_front}
use Rattle.json5_grammar.proofs.ArraysPartlyRead.{one_opening, one_close, bracket_closes, element_left, element_or_close, one_element, passed_more, shallow_snoc, array_closed, found_closes, close_found}
use Rattle.json5_types.specs.declared.error.Error.{Error}
use Rattle.json5_de.specs.State.{State, OnlyRead, GivesUp}
use Rattle.json5_de.proofs.ReadSteps.{input_of}
use Rattle.json5_de.specs.DeserializeLaw.{TookValue}
use Rattle.json5_read.specs.Brackets.{square}
use Rattle.json5_de.proofs.OpenClose.{opens_same, opens_too, closes}
use Rattle.json5_de.proofs.BracketSteps.{square_signs}
use Rattle.json5_de.specs.Arrays.{AccessState, OpensAs, OpensArray, ClosesAs, ClosesArray, Opened, Closed, TookElement, AtClose, GivesElement, CompletesElement, ReadsElement, CompletesClose, ElementsRead, ElementsLeft, ReadsMore, LeavesFewer}

-- a reader that only read hasn't failed, and has as many brackets open
pub still_live : (old new : State) → old.failed ≡ false → OnlyRead old new → new.failed ≡ false
still_live old new live rest = ap (λ (m : State). m.failed) rest ∙ live

pub same_level : (old new : State) → OnlyRead old new → new.level ≡ old.level
same_level old new rest = ap (λ (m : State). m.level) rest

opened_live : (old first : State) → Opened square old first → first.failed ≡ false
opened_live old first o = ap (λ (m : State). m.failed) o.rest ∙ o.live

opened_level : (old first : State) → Opened square old first → first.level ≡ old.level + 1
opened_level old first o = ap (λ (m : State). m.level) o.rest

-- ---- what was read

-- nothing, where the array was opened
pub opened_read : (old : State) (first : AccessState) → first.comma_due ≡ false → Opened square old first.reader → ElementsRead old no_more first
opened_read old first is o = record {
  live = o.live;
  shallow = let room = o.room in omega (arith, room);
  inside = first.reader.unread;
  bracket = o.bracket;
  after = first.reader.unread;
  passed = (sym is, refl);
  here = inl refl;
  rest = o.rest;
}

inside_level : (from : State) (now : AccessState) (ts : Trees) → ElementsRead from ts now → now.reader.level ≡ from.level + 1
inside_level from now ts e = ap (λ (m : State). m.level) e.rest

pub only_after : (from old new : State) → old ≡ record from { unread = old.unread; level = from.level + 1 } → OnlyRead old new → new ≡ record from { unread = new.unread; level = from.level + 1 }
only_after from old new a b = b ∙ ap (λ (m : State). record m { unread = new.unread }) a

-- the reader is in front of the element, since no closing bracket is next
element_after : (from : State) (old : AccessState) (ts : Trees) (t : Tree) (y : List ℕ) → (e : ElementsRead from ts old) → IsElement old.comma_due old.reader.unread t y → IsElement old.comma_due e.after t y
element_after from old ts t y e is = elim e.here [
  | inl same ↦ subst (λ x. IsElement old.comma_due x t y) same is
  | inr at ↦ let (q, close) = found_closes old.comma_due old.comma_due e.after old.reader.unread at in absurd (element_or_close old.comma_due old.reader.unread y q t is close)
]

-- one more
one_read_more : (from : State) (old new : AccessState) (ts : Trees) (t : Tree) → TookElement old.comma_due old.reader t new.reader → new.comma_due ≡ true → ElementsRead from ts old → ElementsRead from (snoc ts t) new
one_read_more from old new ts t took is e = record {
  live = e.live;
  shallow = let level = inside_level from old ts e in let deep = took.shallow in let high = e.shallow in
      let both = shallow_snoc ts t (from.level + 1) max_depth (omega (arith, high)) (omega (arith, deep, level)) in omega (arith, both);
  inside = e.inside;
  bracket = e.bracket;
  after = new.reader.unread;
  passed = subst (λ b. Passed (snoc ts t) false e.inside b new.reader.unread) (sym is)
      (passed_more ts false old.comma_due e.inside e.after new.reader.unread t e.passed (element_after from old ts t new.reader.unread e took.element));
  here = inl refl;
  rest = only_after from old.reader new.reader e.rest took.rest;
}

close_after_read : (from : State) (old : AccessState) (ts : Trees) (r : List ℕ) → (e : ElementsRead from ts old) → IsClose old.comma_due old.reader.unread r → IsClose old.comma_due e.after r
close_after_read from old ts r e is = elim e.here [
  | inl same ↦ subst (λ x. IsClose old.comma_due x r) same is
  | inr at ↦ close_found old.comma_due old.comma_due e.after old.reader.unread r at is
]

-- no element was read, and the closing bracket is next
bracket_read : (from : State) (old new : AccessState) (ts : Trees) → AtClose square old.comma_due old.reader new.reader → new.comma_due ≡ old.comma_due → ElementsRead from ts old → ElementsRead from ts new
bracket_read from old new ts at is e =
    let (r, close, next) = at.close in
    record {
      live = e.live;
      shallow = e.shallow;
      inside = e.inside;
      bracket = e.bracket;
      after = e.after;
      passed = subst (λ b. Passed ts false e.inside b e.after) (sym is) e.passed;
      here = inr (r, subst (λ b. IsClose b e.after r) (sym is) (close_after_read from old ts r e close), next);
      rest = only_after from old.reader new.reader e.rest at.rest;
    }

pub more_and_less : (n : ℕ) → n + 1 - 1 ≡ n
more_and_less n = omega arith

-- the whole array
pub all_read : (from : State) (last : AccessState) (new : State) (ts : Trees) → Closed square last.comma_due last.reader new → ElementsRead from ts last → TookValue from (array ts) new
all_read from last new ts c e = record {
  live = e.live;
  reads = array_closed from.unread e.inside e.after new.unread ts last.comma_due e.bracket e.passed (close_after_read from last ts new.unread e c.close);
  shallow = e.shallow;
  rest = c.rest
      ∙ ap (λ (m : State). record m { unread = new.unread; level = m.level - 1 }) e.rest
      ∙ ap (λ n. record from { unread = new.unread; level = n }) (more_and_less from.level);
}

-- what a call for an element reads
pub reads_more : {V C : Type 0} (content : V → C) (convert : Tree → Option C) (old new : AccessState) (o : Option V) → GivesElement content convert old new o → ReadsMore content convert old new o
reads_more content convert old new (Some v) (t, took, d, is) = (t, is, λ from ts e. one_read_more from old new ts t took d e)
reads_more content convert old new None (at, d) = λ from ts e. bracket_read from old new ts at d e

-- ---- what is left

-- an array that can be read is opened
pub array_opens : (old : State) (ts : Trees) (r : List ℕ) → Reads old.unread (array ts) r → old.level + depth (array ts) ≤ max_depth → (y : List ℕ) × Opens old.unread y × (old.level < max_depth)
array_opens old ts r reads shallow = let (y, opens, tail) = array_front old.unread r ts reads in (y, opens, omega (arith, shallow))

-- all elements, where the array was opened
pub opened_left : (old : State) (first : AccessState) (ts : Trees) (r : List ℕ) → first.comma_due ≡ false → Opened square old first.reader → Reads old.unread (array ts) r → old.level + depth (array ts) ≤ max_depth → ElementsLeft ts r first
opened_left old first ts r none o reads shallow =
    let (y, bracket, tail) = array_front old.unread r ts reads in
    let level = opened_level old first.reader o in
    record {
      live = opened_live old first.reader o;
      shallow = omega (arith, level, shallow);
      tail = subst (λ b. Tail ts b first.reader.unread r) (sym none) (subst (λ k. Tail ts false k r) (one_opening old.unread y first.reader.unread bracket o.bracket) tail);
    }

same_head : (t u : Tree) (ts us : Trees) → more t ts ≡ more u us → (t ≡ u) × (ts ≡ us)
same_head t u ts us e = (cc, cc)

-- the elements after the first, which was read
first_taken : (old new : AccessState) (t u : Tree) (ts : Trees) (r : List ℕ) → TookElement old.comma_due old.reader u new.reader → new.comma_due ≡ true → ElementsLeft (more t ts) r old → (t ≡ u) × ElementsLeft ts r new
first_taken old new t u ts r took is e =
    let (us, split, tail) = element_left (more t ts) old.comma_due old.reader.unread new.reader.unread r u took.element e.tail in
    let (same, rest) = same_head t u ts us split in
    let level = same_level old.reader new.reader took.rest in
    let shallow = e.shallow in (
      same,
      record {
        live = still_live old.reader new.reader e.live took.rest;
        shallow = omega (arith, level, shallow);
        tail = subst (λ d. Tail ts d new.reader.unread r) (sym is) (subst (λ vs. Tail vs true new.reader.unread r) (sym rest) tail);
      },
    )

-- no element was read, since none was left
none_taken : (old new : AccessState) (r : List ℕ) → AtClose square old.comma_due old.reader new.reader → ElementsLeft no_more r old → ElementsLeft no_more r new
none_taken old new r at e =
    let (q, close, next) = at.close in
    let level = same_level old.reader new.reader at.rest in
    let shallow = e.shallow in
    record {
      live = still_live old.reader new.reader e.live at.rest;
      shallow = omega (arith, level, shallow);
      tail = subst (λ x. IsClose new.comma_due x r) (sym next) (subst (λ k. IsClose new.comma_due (0x5D ∷ k) r) (one_close old.comma_due old.reader.unread r q e.tail close) (bracket_closes new.comma_due r));
    }

-- what a call for an element leaves
pub leaves_fewer : {V C : Type 0} (content : V → C) (convert : Tree → Option C) (old new : AccessState) (result : Result (Option V) Error)
    → IfOk result (GivesElement content convert old new) → CompletesElement convert old result → CompletesClose square old result
    → (ts : Trees) (r : List ℕ) → ElementsLeft ts r old → LeavesFewer content convert ts r new result
leaves_fewer content convert old new (Ok (Some v)) gives complete closing no_more r e = let (u, took, comma_due, same) = gives in absurd (element_or_close old.comma_due old.reader.unread new.reader.unread r u took.element e.tail)
leaves_fewer content convert old new (Ok None) (at, comma_due) complete closing no_more r e = none_taken old new r at e
leaves_fewer content convert old new (Err f) gives complete closing no_more r e = let ok = closing r e.live e.tail in absurd (cc)
leaves_fewer content convert old new (Ok (Some v)) gives complete closing (more t ts) r e =
    let (u, took, comma_due, same) = gives in
    let (head, left) = first_taken old new t u ts r took comma_due e in
    (subst (λ k. convert k ≡ Some (content v)) (sym head) same, left)
leaves_fewer content convert old new (Ok None) (at, comma_due) complete closing (more t ts) r e =
    let (y, element, tail) = e.tail in
    let (q, close, next) = at.close in
    absurd (element_or_close old.comma_due old.reader.unread y q t element close)
leaves_fewer content convert old new (Err f) gives complete closing (more t ts) r e = λ c same.
    let (y, element, tail) = e.tail in
    let deep = e.shallow in
    complete t y c e.live element (omega (arith, deep)) same

-- only one element can be read there, so what is returned is its content
pub reads_element : {V C : Type 0} (content : V → C) (convert : Tree → Option C) (old new : AccessState) (o : Option V) → GivesElement content convert old new o → ReadsElement content convert old (Ok o)
reads_element content convert old new (Some v) (u, took, comma_due, is) t r c live element shallow converts = let (same, rest) = one_element old.comma_due old.reader.unread r new.reader.unread t u element took.element in cc (same, is, converts)
reads_element content convert old new None (at, comma_due) t r c live element shallow converts = let (q, close, next) = at.close in absurd (element_or_close old.comma_due old.reader.unread r q t element close)

-- ---- a maker

-- what opened a bracket opened an array, seen in another way
pub opens_array : {A B : Type 0} {Held : B → Type 0} (see : A → AccessState) (state_of : B → AccessState) (old : State) (a : A) (b : B) → Held b → see a ≡ state_of b → OpensAs square see old (Ok a) → OpensArray Held state_of old (Ok b)
opens_array see state_of old a b held same o =
    let o : OpensAs square state_of old (Ok b) = opens_same square see state_of old a b same o in
    let (opened, comma_due) = o.opened in
    record { held = held; bracket = o; same_text = input_of opened.rest; read = opened_read old (state_of b) comma_due opened; left = λ ts r live reads shallow. opened_left old (state_of b) ts r comma_due opened reads shallow }

pub refuses_array : {A B : Type 0} {Held : B → Type 0} (see : A → AccessState) (state_of : B → AccessState) (old : State) (e : Error) → OpensAs square see old (Err e) → OpensArray Held state_of old (Err e)
refuses_array see state_of old e o = record {
  held = tt;
  bracket = opens_too square see state_of old e o;
  same_text = tt;
  read = tt;
  left = λ ts r live reads shallow. let (y, opens, room) = array_opens old ts r reads shallow in let ok = o.complete y live opens room in absurd (cc);
}

-- ---- the end

pub closes_array : (old : AccessState) (new : State) → Closed square old.comma_due old.reader new → ClosesArray old new (Ok tt)
closes_array old new c = record {
  bracket = closes square square_signs old.comma_due old.reader new c;
  same_text = input_of c.rest;
  failed = tt;
  read = λ from ts e. all_read from old new ts c e;
  left = λ r e. refl;
}

pub refuses_end : (old : AccessState) (new : State) (e : Error) → GivesUp old.reader new → ClosesAs square old.comma_due old.reader new (Err e) → ClosesArray old new (Err e)
refuses_end old new e failed c = record { bracket = c; same_text = failed.same_text; failed = failed.failed; read = tt; left = λ r k. c.complete r k.live k.tail }
