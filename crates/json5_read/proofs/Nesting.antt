-- The brackets that are open around a value, and what they make of what is read within them.
use Rattle.std.proofs.Common.{◌≡◌, ℕ, ◌-◌, ◌<◌, List, [], ◌∷◌, ◌++◌, length, refl, ap, sym, ◌∙◌, subst, arith, length-append, ◌⊎◌, inl, inr, Option, Some, None}
use Rattle.json5_grammar.specs.declared.error_code.ErrorCode.{ErrorCode}
use Rattle.json5_grammar.specs.Model.Reading.{Read, Place, here, inner, got, bad, and_then, placed}
use Rattle.json5_types.specs.declared.error.Error.{Error}
use Rattle.json5_types.specs.Errors.{kind_of, or_position}
use Rattle.json5_tokens.specs.Cursor.{Cursor, Took, Says, IsOutOfMemory}
use Rattle.json5_read.specs.Nesting.{Nested, Within, WithinInner}
use Rattle.json5_read.specs.Offsets.{StartsAfter, PositionedAt, CountsTo}
use Rattle.json5_read.specs.ModelSteps.{IsInside, SameText, HasPositionAt, RefusesRead, Gave}
use Rattle.json5_read.proofs.ModelSteps.{ready_after, blames_as}

-- ---- positions

says_same : (reason : Option ErrorCode) (own e : Error) → kind_of e ≡ kind_of own → Says reason own → Says reason e
says_same (Some c) own e k s = k ∙ s
says_same None own e k (text, s) = (text, k ∙ s)

-- a fault without a position gets the bracket's
blames_placed : {A : Type 0} (input q : List ℕ) (start : ℕ) (m : Read A) (own e : Error) → CountsTo input start q → PositionedAt (StartsAfter input start) own e → RefusesRead input m own → RefusesRead input (placed q m) e
blames_placed {A = A} input q start m own e (before, split, counted) k b = by_place b.place b.is_bad b.says
  where
    by_place : (p : Place) → m ≡ bad b.reason p → IsOutOfMemory own ⊎ (Says b.reason own × HasPositionAt input p own) → RefusesRead input (placed q m) e
    by_place (here z) is says = record {
      reason = b.reason;
      place = here z;
      is_bad = ap (placed q) is;
      says = kept says;
      unprompted = λ f. b.unprompted (sym k.kind ∙ f);
    }
      where
        kept : IsOutOfMemory own ⊎ (Says b.reason own × HasPositionAt input (here z) own) → IsOutOfMemory e ⊎ (Says b.reason e × HasPositionAt input (here z) e)
        kept (inl memory) = inl (k.kind ∙ memory)
        kept (inr (s, (front, there, place))) = inr (says_same b.reason own e k.kind s, (front, there, k.place ∙ ap (λ o. or_position o k.there) place))
    by_place inner is says = record {
      reason = b.reason;
      place = here q;
      is_bad = ap (placed q) is;
      says = given says;
      unprompted = λ f. b.unprompted (sym k.kind ∙ f);
    }
      where
        given : IsOutOfMemory own ⊎ (Says b.reason own × HasPositionAt input inner own) → IsOutOfMemory e ⊎ (Says b.reason e × HasPositionAt input (here q) e)
        given (inl memory) = inl (k.kind ∙ memory)
        given (inr (s, none)) = inr (says_same b.reason own e k.kind s, (before, split, k.place ∙ ap (λ o. or_position o k.there) none ∙ ap (λ z. Some z) (k.is_there before (record { rest = q; split = split; counted = counted }))))

-- ---- what is open

module _ {F D : Type 0} (start : F → ℕ) (after : F → ℕ → D → List ℕ → Read D) where
  -- one more
  nested_push : (input : List ℕ) (d n : ℕ) (fs : List F) (f : F) (q : List ℕ) (m w : Read D) → n ≡ d - length fs - 1 → CountsTo input (start f) q → Nested start after input d fs (placed q (and_then m (after f n))) w → Nested start after input d (fs ++ f ∷ []) m w
  nested_push input d n [] f q m w e at h = let same : n ≡ d - 1 = omega (arith, e) in (q, m, at, refl, h ∙ ap (λ k. placed q (and_then m (after f k))) same)
  nested_push input d n (g ∷ fs) f q m w e at (p, v, counted, h, is) = (p, v, counted, nested_push input (d - 1) n fs f q m v (omega (arith, e)) at h, is)

  -- the innermost apart
  nested_pop : (input : List ℕ) (d n : ℕ) (fs : List F) (f : F) (m w : Read D) → n ≡ d - length fs - 1 → Nested start after input d (fs ++ f ∷ []) m w → (q : List ℕ) × CountsTo input (start f) q × Nested start after input d fs (placed q (and_then m (after f n))) w
  nested_pop input d n [] f m w e (q, v, at, h, is) =
      let same : d - 1 ≡ n = omega (arith, e) in
      (q, at, is ∙ ap (λ z. placed q (and_then z (after f (d - 1)))) h ∙ ap (λ k. placed q (and_then m (after f k))) same)
  nested_pop input d n (g ∷ fs) f m w e (p, v, counted, h, is) =
      let (q, at, k) = nested_pop input (d - 1) n fs f m v (omega (arith, e)) h in
      (q, at, (p, v, counted, k, is))

  -- a fault that has a position is that of the whole
  nested_fault : (input : List ℕ) (d : ℕ) (fs : List F) (w : Read D) (c : Option ErrorCode) (q : List ℕ) → Nested start after input d fs (bad c (here q)) w → w ≡ bad c (here q)
  nested_fault input d [] w c q h = h
  nested_fault input d (f ∷ fs) w c q (p, v, counted, h, is) = is ∙ ap (λ z. placed p (and_then z (after f (d - 1)))) (nested_fault input (d - 1) fs v c q h)

  nested_as : (input other : List ℕ) (d : ℕ) (fs : List F) (m n w : Read D) → input ≡ other → m ≡ n → Nested start after input d fs m w → Nested start after other d fs n w
  nested_as input other d fs m n w same is h = subst (λ z. Nested start after z d fs n w) same (subst (λ z. Nested start after input d fs z w) is h)

  -- what is refused in the innermost is refused in the whole
  blames_whole : (input : List ℕ) (d : ℕ) (fs : List F) (q : List ℕ) (m w : Read D) (e : Error) → Nested start after input d fs (placed q m) w → RefusesRead input (placed q m) e → RefusesRead input w e
  blames_whole input d fs q m w e h b = by_place b.place b.is_bad b.says
    where
      has_place : (n : Read D) (c : Option ErrorCode) → placed q n ≡ bad c inner → ⊥
      has_place (got u r) c is = cc
      has_place (bad f (here z)) c is = cc
      has_place (bad f inner) c is = cc

      by_place : (p : Place) → placed q m ≡ bad b.reason p → IsOutOfMemory e ⊎ (Says b.reason e × HasPositionAt input p e) → RefusesRead input w e
      by_place (here z) is says = record { reason = b.reason; place = here z; is_bad = nested_fault input d fs w b.reason z (nested_as input input d fs (placed q m) (bad b.reason (here z)) w refl is h); says = says; unprompted = b.unprompted }
      by_place inner is says = absurd (has_place m b.reason is)

  -- ---- within one more

  module _ (room : ℕ) (old : Cursor) (w m : Read D) (fs : List F) (at : ℕ) (q : List ℕ) (h : WithinInner start after room w fs at m q old) where
    -- a value of it is reached
    pub value_reached : (f : F) (new : Cursor) (v : Read D) (s : List ℕ) → at ≡ start f → Took old s new → m ≡ and_then v (after f (room - length fs - 1)) → Within start after room w (fs ++ f ∷ []) v new
    value_reached f new v s is took reads = record {
      ready = ready_after old new s h.ready took;
      fits = let k = h.fits in omega (arith, k, length-append fs (f ∷ []));
      nested = subst (λ z. Nested start after z room (fs ++ f ∷ []) v w) (sym took.same)
          (nested_push old.input room (room - length fs - 1) fs f q v w refl (subst (λ n. CountsTo old.input n q) is h.counted)
          (nested_as old.input old.input room fs (placed q m) (placed q (and_then v (after f (room - length fs - 1)))) w refl (ap (placed q) reads) h.nested));
    }

    -- something of it was passed over
    pub moved : (new : Cursor) (n : Read D) (s : List ℕ) → Took old s new → m ≡ n → WithinInner start after room w fs at n q new
    moved new n s took reads = record {
      ready = ready_after old new s h.ready took;
      fits = h.fits;
      counted = subst (λ z. CountsTo z at q) (sym took.same) h.counted;
      nested = nested_as old.input new.input room fs (placed q m) (placed q n) w (sym took.same) (ap (placed q) reads) h.nested;
    }

    -- it is closed
    pub closed : (new : Cursor) (x : D) (s : List ℕ) → Took old s new → m ≡ got x new.unread → Within start after room w fs (got x new.unread) new
    closed new x s took reads = record {
      ready = ready_after old new s h.ready took;
      fits = let k = h.fits in omega (arith, k);
      nested = nested_as old.input new.input room fs (placed q m) (got x new.unread) w (sym took.same) (ap (placed q) reads) h.nested;
    }

    -- it is refused
    pub inside_blamed : (input : List ℕ) (own e : Error) → RefusesRead old.input m own → PositionedAt (StartsAfter input at) own e → input ≡ old.input → RefusesRead old.input w e
    inside_blamed input own e b k same =
        blames_whole old.input room fs q m w e h.nested (blames_placed old.input q at m own e h.counted (subst (λ z. PositionedAt (StartsAfter z at) own e) same k) b)

  -- ---- a value

  -- it ended, or was read at once
  pub value_ended : (room : ℕ) (old new : Cursor) (w m : Read D) (fs : List F) (x : D) → Within start after room w fs m old → Gave m x old new → Within start after room w fs (got x new.unread) new
  value_ended room old new w m fs x h g = record {
    ready = ready_after old new g.taken h.ready g.took;
    fits = h.fits;
    nested = nested_as old.input new.input room fs m (got x new.unread) w (sym g.took.same) g.reads h.nested;
  }

  -- it was opened
  pub value_opened : (room : ℕ) (old mid : Cursor) (w m n : Read D) (fs : List F) (at : ℕ) → Within start after room w fs m old → IsInside mid → CountsTo old.input at old.unread → SameText old mid → 0 < room - length fs → m ≡ placed old.unread n
      → WithinInner start after room w fs at n old.unread mid
  value_opened room old mid w m n fs at h ready counted same left reads = record {
    ready = ready;
    fits = omega (arith, left);
    counted = subst (λ z. CountsTo z at old.unread) (sym same) counted;
    nested = nested_as old.input mid.input room fs m (placed old.unread n) w (sym same) reads h.nested;
  }

  -- it is refused with a fault that has a position
  pub here_blamed : (room : ℕ) (old : Cursor) (w m : Read D) (fs : List F) (e : Error) → Within start after room w fs m old → (reason : Option ErrorCode) (q : List ℕ) → m ≡ bad reason (here q) → RefusesRead old.input m e → RefusesRead old.input w e
  here_blamed room old w m fs e h reason q is b =
      blames_as old.input old.input m w e refl (λ c p k. nested_fault old.input room fs w reason q (nested_as old.input old.input room fs m (bad reason (here q)) w refl is h.nested) ∙ sym is ∙ k) b

  -- ---- the whole

  -- nothing is open at the start
  pub starts : (room : ℕ) (s : Cursor) (m : Read D) → IsInside s → Within start after room m [] m s
  starts room s m ready = record { ready = ready; fits = omega arith; nested = refl }

  -- a value ended in the innermost
  pub ends_inside : (room : ℕ) (now : Cursor) (w : Read D) (gs fs : List F) (f : F) (x : D) → gs ≡ fs ++ f ∷ [] → Within start after room w gs (got x now.unread) now
      → (q : List ℕ) × WithinInner start after room w fs (start f) (after f (room - length fs - 1) x now.unread) q now
  ends_inside room now w gs fs f x is h =
      let (q, counted, nested) = nested_pop now.input room (room - length fs - 1) fs f (got x now.unread) w refl (subst (λ z. Nested start after now.input room z (got x now.unread) w) is h.nested) in
      let k = h.fits in
      (q, record { ready = h.ready; fits = omega (arith, k, ap length is, length-append fs (f ∷ [])); counted = counted; nested = nested })
