-- Unknown fields that are passed over one after another.
use Rattle.std.proofs.Common.{◌≡◌, ◌∙◌, ◌++◌, ◌∷◌, [], ℕ, List, subst, sym, inl, inr, arith}
use Rattle.std.specs.Prelude.{All, Result, Err}
use Rattle.std.proofs.lemmas.List.Elements.{All-append, All-cons}
use Rattle.json5_types.specs.declared.error.Error.{Error}
use Rattle.json5_settings.specs.AllFaults.{IsFault, TakenOut, TellsIfNew, TakesOut, whole, less}
use Rattle.json5_settings.specs.Known.{RefusesField}

-- some were taken out, and these were told
pub record Passed {T : Type 0} (R : List ℕ → Result T Error → Type 0) (text left : List ℕ) (told : List Error) : Type 0 where
  pub without : TakenOut (RefusesField R) text left
  pub unknown : All (IsFault (RefusesField R) text) told
  pub whole : told ≡ [] → left ≡ text

pub none_passed : {T : Type 0} (R : List ℕ → Result T Error → Type 0) (text left : List ℕ) (told : List Error) → left ≡ text → told ≡ [] → Passed R text left told
none_passed R text left told same none = record {
  without = subst (TakenOut (RefusesField R) text) (sym same) whole;
  unknown = subst (All (IsFault (RefusesField R) text)) (sym none) (λ i d inside. absurd (omega (arith, inside)));
  whole = λ _. same;
}

one_told : {T : Type 0} (R : List ℕ → Result T Error → Type 0) (text : List ℕ) (e : Error) (told now : List Error) → IsFault (RefusesField R) text e → TellsIfNew e told now → All (IsFault (RefusesField R) text) told → All (IsFault (RefusesField R) text) now
one_told R text e told now fault (inl is) each = subst (All (IsFault (RefusesField R) text)) (sym is) (All-append (IsFault (RefusesField R) text) told (e ∷ []) each (All-cons (IsFault (RefusesField R) text) e [] fault (λ i d inside. absurd (omega (arith, inside)))))
one_told R text e told now fault (inr (same, some)) each = subst (All (IsFault (RefusesField R) text)) (sym same) each

never_none : {A : Type 0} (xs : List A) (x : A) → xs ++ x ∷ [] ≡ [] → ⊥
never_none [] x e = absurd (cc)
never_none (y ∷ xs) x e = absurd (cc)

some_told : (e : Error) (told now : List Error) → TellsIfNew e told now → now ≡ [] → ⊥
some_told e told now (inl is) none = never_none told e (sym is ∙ none)
some_told e told now (inr (same, some)) none = some (sym same ∙ none)

pub one_passed : {T : Type 0} (R : List ℕ → Result T Error → Type 0) (text left new : List ℕ) (e : Error) (told now : List Error) → RefusesField R left (Err e) → TellsIfNew e told now → TakesOut e left new → Passed R text left told → Passed R text new now
one_passed R text left new e told now refuses tells out so_far = record {
  without = less left new e so_far.without refuses out;
  unknown = one_told R text e told now (left, so_far.without, refuses) tells so_far.unknown;
  whole = λ none. absurd (some_told e told now tells none);
}
