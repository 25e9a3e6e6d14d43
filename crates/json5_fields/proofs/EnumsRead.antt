-- A variant's content that is read as another one's.
use Rattle.std.proofs.Common.{◌≡◌, ◌≢◌, ◌==◌, ◌-◌, ℕ, Bool, true, false, refl, ap, ◌∙◌, inl, inr, Option, Some, Result, Ok, Err}
use Rattle.std.specs.Prelude.{if◌then◌else◌, List, IsErrAnd, IfErr}
use Rattle.json5_grammar.specs.Language.Trees.{Tree}
use Rattle.json5_types.specs.declared.error.Error.{Error}
use Rattle.json5_de.specs.State.{State}
use Rattle.json5_de.specs.ConvertLists.{if_some}
use Rattle.json5_de.specs.Enums.{EnumAccessState, NamesVariant, ReadsVariant, RefusesContent}
use Rattle.json5_de.specs.Variants.{FinishesVariant}
use Rattle.json5_de.proofs.ElementLoops.{handed_on}
use Rattle.json5_de.proofs.OwnEnums.{finishes_same, other_place}
use Rattle.json5_fields.specs.VariantContents.{Either, first, later, first_or_later, ContentFaults, fault_of_either, TakesContent, RefusesEnum, not_named, in_variant}
use Rattle.json5_fields.proofs.Described.{made_of}

-- a content that one call reads, as a value with the same content
module _ {U V C : Type 0} {of : U → C} {f : Option Tree → Option C} {free : Option Tree → Bool} {refuses : State → Error → State → Type 0} {content : V → C} {k : ℕ} {old : EnumAccessState} {new : State} where
  pub call_read : {u : U} {v : V} → of u ≡ content v → ReadsVariant of f free refuses old new (Ok u) → TakesContent content (λ k. f) (λ k. RefusesContent refuses) k old new (Ok v)
  call_read same is = record {
    finishes = record { read = λ names from n. let (t, d, took, one, converts) = is.read names from n in (t, d, took, one, converts ∙ ap (λ x. Some x) same); left = λ t r c l converts. tt; unprompted = tt; same_text = is.same_text };
    refused = tt;
  }

  pub call_refused : {e : Error} → ReadsVariant of f free refuses old new (Err e) → TakesContent content (λ k. f) (λ k. RefusesContent refuses) k old new (Err e)
  call_refused is = record {
    finishes = record { read = tt; left = λ t r c l converts. is.left t r c l converts; unprompted = is.unprompted; same_text = is.same_text };
    refused = is.refused;
  }

-- a content that is read as a value of a larger type
module _ {V W A C : Type 0} {of : V → A} {content : W → C} {f : Option Tree → Option A} {h : Option Tree → Option C} (into : A → C) (same : (t : Option Tree) → h t ≡ if_some into (f t)) {old : EnumAccessState} {new : State} where
  read_into : {v : V} {w : W} → into (of v) ≡ content w → FinishesVariant of f old new (Ok v) → FinishesVariant content h old new (Ok w)
  read_into gives is = finishes_same same (record {
    read = λ names from n. let (t, d, took, one, converts) = is.read names from n in (t, d, took, one, ap (if_some into) converts ∙ ap (λ x. Some x) gives);
    left = λ t r c l converts. tt;
    unprompted = tt;
    same_text = is.same_text;
  })

  refused_into : {e : Error} → FinishesVariant of f old new (Err e) → FinishesVariant content h old new (Err e)
  refused_into is = finishes_same same (record {
    read = tt;
    left = λ t r c l converts. let (d, one, rest) = made_of into c (f t) converts in is.left t r d l one;
    unprompted = is.unprompted;
    same_text = is.same_text;
  })

-- the first variant, or a later one
module _ {A B : Type 0} (f : ℕ → Option Tree → Option A) (g : ℕ → Option Tree → Option B) {k : ℕ} where
  at_first : k ≡ 0 → (t : Option Tree) → first_or_later f g k t ≡ if_some first (f 0 t)
  at_first is t = rw is refl

  at_later : k ≢ 0 → (t : Option Tree) → first_or_later f g k t ≡ if_some later (g (k - 1) t)
  at_later not t = by (k == 0) (other_place 0 not)
    where
      by : (b : Bool) → b ≡ false → (if b then if_some first (f 0 t) else if_some later (g (k - 1) t)) ≡ if_some later (g (k - 1) t)
      by true e = absurd (cc)
      by false e = refl

module _ {Z A B : Type 0} {content : Z → Either A B} (f : ℕ → Option Tree → Option A) (g : ℕ → Option Tree → Option B) (fa fb : ContentFaults) {k : ℕ} {old : EnumAccessState} {new : State} where
  module _ {V : Type 0} {of : V → A} where
    pub first_read : {v : V} {z : Z} → k ≡ 0 → first (of v) ≡ content z → TakesContent of f fa 0 old new (Ok v) → TakesContent content (first_or_later f g) (fault_of_either fa fb) k old new (Ok z)
    first_read is gives takes = record { finishes = read_into first (at_first f g is) gives takes.finishes; refused = tt }

    pub first_refused : {e : Error} → k ≡ 0 → TakesContent of f fa 0 old new (Err e) → TakesContent content (first_or_later f g) (fault_of_either fa fb) k old new (Err e)
    first_refused is takes = record { finishes = refused_into first (at_first f g is) takes.finishes; refused = inl (is, takes.refused) }

  module _ {W : Type 0} {of : W → B} where
    pub later_read : {w : W} {z : Z} → k ≢ 0 → later (of w) ≡ content z → TakesContent of g fb (k - 1) old new (Ok w) → TakesContent content (first_or_later f g) (fault_of_either fa fb) k old new (Ok z)
    later_read not gives takes = record { finishes = read_into later (at_later f g not) gives takes.finishes; refused = tt }

    pub later_refused : {e : Error} → k ≢ 0 → TakesContent of g fb (k - 1) old new (Err e) → TakesContent content (first_or_later f g) (fault_of_either fa fb) k old new (Err e)
    later_refused not takes = record { finishes = refused_into later (at_later f g not) takes.finishes; refused = inr (not, takes.refused) }

-- ---- how an enum is refused

module _ {A V : Type 0} (names : List (List ℕ)) (faults : ContentFaults) (state_of : A → EnumAccessState) {old : State} (new : State) where
  -- no variant was named
  pub name_refused : (e : Error) (result : Result V Error) → IsErrAnd result (λ y. y ≡ e) → NamesVariant names state_of old (Err e) → IfErr result (λ e. RefusesEnum names faults old e new)
  name_refused e result is_err named = handed_on (λ r. IfErr r (λ e. RefusesEnum names faults old e new)) e result is_err (λ live. not_named (named.refused live))

  -- one was named, and its content was refused
  pub content_refused : {a : A} (result : Result V Error) → NamesVariant names state_of old (Ok a) → IfErr result (faults (state_of a).variant (state_of a)) → IfErr result (λ e. RefusesEnum names faults old e new)
  content_refused (Ok v) named is = tt
  content_refused {a = a} (Err e) named is = λ live. in_variant (state_of a) named.read is
