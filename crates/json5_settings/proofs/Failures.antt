-- Faults that are told one after another.
use Rattle.std.proofs.Common.{◌≡◌, ◌∙◌, ◌++◌, ◌∷◌, [], Bool, true, ℕ, List, ap, subst, inl, inr, arith}
use Rattle.std.specs.Prelude.{All, Result, Err}
use Rattle.std.proofs.lemmas.List.Elements.{All-append, All-cons}
use Rattle.json5_types.specs.declared.error.Error.{Error}
use Rattle.json5_settings.specs.AllFaults.{IsFault, TakenOut, TellsIfNew, TakesOut, whole, less}

-- the first is that of reading the text, and each is one of it
abbrev pub Begun : {T : Type 0} → (List ℕ → Result T Error → Type 0) → List ℕ → List Error → Type 0
Begun R text told = (e : Error) × (es : List Error) × (told ≡ e ∷ es) × R text (Err e) × All (IsFault R text) es

pub begun_first : {T : Type 0} (R : List ℕ → Result T Error → Type 0) (text : List ℕ) (e : Error) (none now : List Error) → none ≡ [] → R text (Err e) → TellsIfNew e none now → Begun R text now
begun_first R text e none now empty r (inl is) = (e, [], is ∙ ap (λ z. z ++ e ∷ []) empty, r, λ i d inside. absurd (omega (arith, inside)))
begun_first R text e none now empty r (inr (same, some)) = absurd (some empty)

pub begun_more : {T : Type 0} (R : List ℕ → Result T Error → Type 0) (text : List ℕ) (e : Error) (told now : List Error) → IsFault R text e → TellsIfNew e told now → Begun R text told → Begun R text now
begun_more R text e told now fault (inl is) (first, es, are, r, each) =
    (first, es ++ e ∷ [], is ∙ ap (λ z. z ++ e ∷ []) are, r, All-append (IsFault R text) es (e ∷ []) each (All-cons (IsFault R text) e [] fault (λ i d inside. absurd (omega (arith, inside)))))
begun_more R text e told now fault (inr (same, some)) (first, es, are, r, each) = (first, es, same ∙ are, r, each)

-- while there is more to read
abbrev pub Goes : {T : Type 0} → (List ℕ → Result T Error → Type 0) → (text : List ℕ) → (goes_on : Bool) → (left : List ℕ) → List Error → Type 0
Goes R text goes_on left told = Begun R text told × (goes_on ≡ true → TakenOut R text left)

pub goes_first : {T : Type 0} (R : List ℕ → Result T Error → Type 0) (text kept left : List ℕ) (e : Error) (none now : List Error) (goes_on : Bool) → kept ≡ text → none ≡ [] → R text (Err e) → TellsIfNew e none now → (goes_on ≡ true → TakesOut e kept left) → Goes R text goes_on left now
goes_first R text kept left e none now goes_on same empty r tells out = (
  begun_first R text e none now empty r tells,
  λ on. less text left e whole r (subst (λ z. TakesOut e z left) same (out on)),
)

pub goes_more : {T : Type 0} (R : List ℕ → Result T Error → Type 0) (text left new : List ℕ) (e : Error) (told now : List Error) (was_on goes_on : Bool) → was_on ≡ true → R left (Err e) → TellsIfNew e told now → (goes_on ≡ true → TakesOut e left new) → Goes R text was_on left told → Goes R text goes_on new now
goes_more R text left new e told now was_on goes_on on r tells out (begun, taken) =
    let here = taken on in (
      begun_more R text e told now (left, here, r) tells begun,
      λ more. less left new e here r (out more),
    )
