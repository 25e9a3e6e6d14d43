-- Entries that are put in for the steps of a path.
use Rattle.std.proofs.Common.{◌≡◌, ◌≢◌, inl, inr, ℕ, ◌<◌, ◌+◌, zero, suc, List, [], ◌∷◌, ◌++◌, length, take, drop, refl, sym, ap, ◌∙◌, subst, arith}
use Rattle.std.specs.declared.alloc.Global.{Global}
use Rattle.std.specs.Prelude.{⊤, true, false, Option, Some, None, is_some, IfErr, IfOk, Result, Ok, Err, String, string_bytes}
use Rattle.std.specs.Str.{chars}
use Rattle.json5_edit.specs.Changes.{IsPushed}
use Rattle.json5_edit.specs.Parts.{positions_of}
use Rattle.json5_edit.specs.Places.{LeadsNowhere, LeadsTo}
use Rattle.json5_edit.specs.Refusals.{Reaches, RefusesPath, RefusesPush, RefusesSet}
use Rattle.json5_edit.specs.declared.faults.EditError.{EditError}
use Rattle.json5_edit.specs.declared.faults.EditError.TheVariants as error
use Rattle.json5_edit.specs.declared.paths.Step.{Step}
use Rattle.json5_edit.specs.declared.paths.Step.TheVariants as step
use Rattle.json5_edit.specs.declared.places.ValueSpan.{ValueSpan}
use Rattle.json5_edit_values.specs.News.{HasCount, LeadsSo}
use Rattle.json5_edit_values.specs.Puts.{GetsAlong, GetsText, IsAdded, RefusesAlong, RefusesEntry, RefusesPut, first_in}
use Rattle.json5_edit_values.proofs.MergesMade.{leads_so}
use Rattle.json5_edit_values.proofs.PatchesMade.{one_document}
use Rattle.json5_edit_values.proofs.PutsMade.{along_added}
use Rattle.json5_edit_values.proofs.PutsRefused.{Ends, ends_at, refused_from, refused_whole, too_deep}

-- so many steps lead somewhere, and one more leads nowhere
abbrev pub EndsAfter : List ℕ → List Step → ℕ → Type 0
EndsAfter text path n = (n < length path) × Reaches (λ t. ⊤) text (take n path) × LeadsNowhere text (take (n + 1) path)

more_taken : (n : ℕ) (xs ys : List Step) (s : Step) → drop n xs ≡ s ∷ ys → take (suc n) xs ≡ take n xs ++ (s ∷ [])
more_taken zero [] ys s e = absurd (cc)
more_taken zero (x ∷ xs) ys s e = let same : x ≡ s = cc in rw same refl
more_taken (suc n) [] ys s e = absurd (cc)
more_taken (suc n) (x ∷ xs) ys s e = ap (λ z. x ∷ z) (more_taken n xs ys s e)

less_left : (n : ℕ) (xs ys : List Step) (s : Step) → drop n xs ≡ s ∷ ys → drop (suc n) xs ≡ ys
less_left zero [] ys s e = absurd (cc)
less_left zero (x ∷ xs) ys s e = cc
less_left (suc n) [] ys s e = absurd (cc)
less_left (suc n) (x ∷ xs) ys s e = less_left n xs ys s e

module _ (bytes value : List ℕ) (steps : List Step) (n : ℕ) (s : Step) (inner : List Step) (here : drop n steps ≡ s ∷ inner) where
  pub along : (between : List ℕ) → GetsText s bytes (take n steps) (first_in inner value) between
      → (r : Result (String Global) EditError) → IfOk r (λ made. GetsAlong between (take (suc n) steps) (drop (suc n) steps) value (string_bytes made))
      → IfOk r (λ made. GetsAlong bytes (take n steps) (drop n steps) value (string_bytes made))
  along between a (Ok made) k =
      let outer = more_taken n steps inner s here in
      let rest = less_left n steps inner s here in
      subst (λ z. GetsAlong bytes (take n steps) z value (string_bytes made)) (sym here)
      (between, a, subst (λ o. GetsAlong between o inner value (string_bytes made)) outer (subst (λ z. GetsAlong between (take (suc n) steps) z value (string_bytes made)) rest k))
  along between a (Err e) k = tt

  pub along_refused : (between : List ℕ) → GetsText s bytes (take n steps) (first_in inner value) between
      → (r : Result (String Global) EditError) → IfErr r (RefusesAlong between (take (suc n) steps) (drop (suc n) steps) value)
      → IfErr r (RefusesAlong bytes (take n steps) (drop n steps) value)
  along_refused between a (Ok made) k = tt
  along_refused between a (Err e) k =
      let outer = more_taken n steps inner s here in
      let rest = less_left n steps inner s here in
      subst (λ z. RefusesAlong bytes (take n steps) z value e) (sym here)
      (inr (between, a, subst (λ o. RefusesAlong between o inner value e) outer (subst (λ z. RefusesAlong between (take (suc n) steps) z value e) rest k)))

  pub first_refused : (e : EditError) → RefusesEntry s bytes (take n steps) (first_in inner value) e → RefusesAlong bytes (take n steps) (drop n steps) value e
  first_refused e k = subst (λ z. RefusesAlong bytes (take n steps) z value e) (sym here) (inl k)

-- ---- where the steps lead

pub leads_there : (bytes : List ℕ) (steps : List Step) (r : Option ValueSpan) (span : ValueSpan) → r ≡ Some span → LeadsTo bytes steps r → LeadsSo true bytes steps
leads_there bytes steps r span is l = leads_so bytes steps r true l (sym (ap is_some is))

pub leads_none : (bytes : List ℕ) (steps : List Step) (r : Option ValueSpan) → r ≡ None → LeadsTo bytes steps r → LeadsSo false bytes steps
leads_none bytes steps r is l = leads_so bytes steps r false l (sym (ap is_some is))

joined : (n : ℕ) (xs : List Step) → xs ≡ take n xs ++ drop n xs
joined zero xs = refl
joined (suc n) [] = refl
joined (suc n) (x ∷ xs) = ap (λ z. x ∷ z) (joined n xs)

some_left : (n : ℕ) (xs : List Step) → n < length xs → (s : Step) × (ss : List Step) × (drop n xs ≡ s ∷ ss)
some_left n [] p = absurd (omega (arith, p))
some_left zero (x ∷ xs) p = (x, xs, refl)
some_left (suc n) (x ∷ xs) p = some_left n xs (omega (arith, p))

no_nil : (s : Step) (ss : List Step) → s ∷ ss ≢ []
no_nil s ss e = absurd (cc)

module _ (bytes value : List ℕ) (steps : List Step) (n : ℕ) (e : EndsAfter bytes steps n) where
  pub all_added : LeadsNowhere bytes steps → (r : Result (String Global) EditError)
      → IfOk r (λ made. GetsAlong bytes (take n steps) (drop n steps) value (string_bytes made)) → IfOk r (λ made. IsAdded bytes steps value (string_bytes made))
  all_added nowhere (Ok made) k =
      let (s, ss, left) = some_left n steps e.0 in
      along_added bytes value (string_bytes made) steps (take n steps) (drop n steps) nowhere (joined n steps) (λ none. no_nil s ss (sym left ∙ none)) k
  all_added nowhere (Err x) k = tt

  ends : (s : Step) (ss : List Step) → drop n steps ≡ s ∷ ss → Ends bytes (take n steps) s
  ends s ss left =
      let next : n + 1 ≡ suc n = omega arith in
      let one = ap (λ z. take z steps) next ∙ more_taken n steps ss s left in
      ends_at bytes (take n steps) s e.1 (subst (LeadsNowhere bytes) one e.2)

  pub put_refused : (r : Result (String Global) EditError) → IfErr r (RefusesAlong bytes (take n steps) (drop n steps) value) → IfErr r (RefusesPut bytes steps value)
  put_refused (Ok made) k = tt
  put_refused (Err x) k =
      let (s, ss, left) = some_left n steps e.0 in
      let from = refused_from s ss bytes value (take n steps) x (ends s ss left) (subst (λ z. RefusesAlong bytes (take n steps) z value x) left k) in
      refused_whole bytes value steps (take n steps) (s ∷ ss) x (joined n steps ∙ ap (λ z. take n steps ++ z) left) from

pub path_refused : (bytes value : List ℕ) (steps : List Step) (e : EditError) → RefusesPath bytes [] e → RefusesPut bytes steps value e
path_refused bytes value steps (error.Text e) k = k
path_refused bytes value steps error.Nowhere (t, d, none) = absurd (cc)
path_refused bytes value steps error.NoMemory k = tt
path_refused bytes value steps (error.Value e) k = absurd k
path_refused bytes value steps error.Taken k = absurd k
path_refused bytes value steps error.NotObject k = absurd k
path_refused bytes value steps error.NotArray k = absurd k
path_refused bytes value steps error.NoKey k = absurd k
path_refused bytes value steps error.Failed k = absurd k

pub leads_not : (bytes : List ℕ) (steps : List Step) → LeadsSo true bytes steps → LeadsNowhere bytes steps → ⊥
leads_not bytes steps r (t, d, none) =
    let same = one_document (chars bytes) r.tree t r.document d in
    let no : Some r.positions ≡ None = sym r.led ∙ ap (positions_of steps) same ∙ none in
    absurd (cc)

pub set_refused : (bytes value : List ℕ) (steps : List Step) (e : EditError) → LeadsSo true bytes steps → RefusesSet bytes steps value e → RefusesPut bytes steps value e
set_refused bytes value steps (error.Text e) r k = k
set_refused bytes value steps error.Nowhere r k = absurd (leads_not bytes steps r k)
set_refused bytes value steps error.NoMemory r k = tt
set_refused bytes value steps (error.Value e) r k = λ v spelled. let deep = too_deep 0 bytes value steps k v spelled in omega (arith, deep)
set_refused bytes value steps error.Taken r k = absurd k
set_refused bytes value steps error.NotObject r k = absurd k
set_refused bytes value steps error.NotArray r k = absurd k
set_refused bytes value steps error.NoKey r k = absurd k
set_refused bytes value steps error.Failed r k = absurd k

-- ---- elements

pub outer_refused : (bytes value : List ℕ) (outer : List Step) (i : ℕ) (e : EditError) → RefusesPath bytes outer e → RefusesEntry (step.Index i) bytes outer value e
outer_refused bytes value outer i (error.Text e) k = inl k
outer_refused bytes value outer i error.Nowhere k = inl k
outer_refused bytes value outer i error.NoMemory k = inl k
outer_refused bytes value outer i (error.Value e) k = absurd k
outer_refused bytes value outer i error.Taken k = absurd k
outer_refused bytes value outer i error.NotObject k = absurd k
outer_refused bytes value outer i error.NotArray k = absurd k
outer_refused bytes value outer i error.NoKey k = absurd k
outer_refused bytes value outer i error.Failed k = absurd k

pub pushed_at : (bytes value : List ℕ) (outer : List Step) (i : ℕ) → HasCount bytes outer i → (r : Result (String Global) EditError)
    → IfOk r (λ made. IsPushed bytes outer value (string_bytes made)) → IfOk r (λ made. GetsText (step.Index i) bytes outer value (string_bytes made))
pushed_at bytes value outer i n (Ok made) k = (n, k)
pushed_at bytes value outer i n (Err e) k = tt

pub push_refused : (bytes value : List ℕ) (outer : List Step) (i : ℕ) (r : Result (String Global) EditError) → IfErr r (RefusesPush bytes outer value) → IfErr r (RefusesEntry (step.Index i) bytes outer value)
push_refused bytes value outer i (Ok made) k = tt
push_refused bytes value outer i (Err e) k = inl k

pub other_count : (bytes value : List ℕ) (outer : List Step) (i n : ℕ) → HasCount bytes outer n → n ≢ i → RefusesEntry (step.Index i) bytes outer value error.Nowhere
other_count bytes value outer i n h other =
    inr (record { tree = h.tree; document = h.document; positions = h.positions; led = h.led; value = h.value; there = h.there; such = λ same. other (sym h.such ∙ same) }, refl)
