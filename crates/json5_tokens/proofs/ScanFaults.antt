-- From the refusals of the functions below the scanner to the faults of the input.
use Rattle.std.proofs.Common.{◌≡◌, ℕ, List, ◌++◌, refl, ap, sym, ◌∙◌, append_assoc, Option, Some, None, ◌⊎◌, inl, inr, subst}
use Rattle.std.specs.Prelude.{⊤}
use Rattle.json5_grammar.specs.declared.error_code.ErrorCode.{ErrorCode}
use Rattle.json5_grammar.specs.Model.Reading.{Read, got, bad, Place, here, inner, IsAt}
use Rattle.json5_types.specs.declared.error.Error.{Error}
use Rattle.json5_tokens.specs.declared.refusal.Refusal.{Refusal}
use Rattle.json5_tokens.specs.declared.refusal.Refusal.TheVariants as refusal
use Rattle.json5_types.specs.Errors.{LacksMemory, error_position}
use Rattle.json5_tokens.specs.Outcome.{Outcome, gave, failed, outcome, bytes_in, left_at}
use Rattle.json5_tokens.specs.Cursor.{Cursor, Says, IsPositioned, Refused}
use Rattle.json5_tokens.specs.RefusalOutcomes.{Refuses}
use Rattle.json5_tokens.specs.Scan.{HasCode, HasFault, Leaves, InUnread, IsThere, MadeOf}

-- reading x is refused with a fault of x
pub record FaultAt (IsFault : List ℕ → Option ErrorCode → Option (List ℕ) → Type 0) (x : List ℕ) (reason : Option ErrorCode) (p : Place) : Type 0 where
  pub place : Option (List ℕ)
  pub fault : IsFault x reason place
  pub is_at : IsAt x place p

abbrev pub FaultyIn : {A : Type 0} → (List ℕ → Option ErrorCode → Option (List ℕ) → Type 0) → List ℕ → Read A → Type 0
FaultyIn IsFault x (got a r) = ⊤
FaultyIn IsFault x (bad e p) = FaultAt IsFault x e p

split_at : (x : List ℕ) (place : Option (List ℕ)) (p : Place) (left : ℕ) → IsAt x place p → left_at p ≡ Some left → (before : List ℕ) × (rest : List ℕ) × (x ≡ before ++ rest) × (left ≡ bytes_in rest) × (place ≡ Some before)
split_at x (Some before) (here q) left e f = (before, q, e, (cc), refl)
split_at x (Some before) inner left e f = absurd e
split_at x None (here q) left e f = absurd e
split_at x None inner left e f = absurd (cc)

no_place : (x : List ℕ) (place : Option (List ℕ)) (p : Place) → IsAt x place p → left_at p ≡ None → place ≡ None
no_place x (Some before) (here q) e f = absurd (cc)
no_place x (Some before) inner e f = absurd e
no_place x None (here q) e f = absurd e
no_place x None inner e f = refl

leaves : (s : Cursor) (place : Option (List ℕ)) (p : Place) (left : ℕ) → IsAt s.unread place p → left_at p ≡ Some left → Leaves s left
leaves s place p left e f = let k = split_at s.unread place p left e f in record { passed = k.0; rest = k.1; split = k.2; counted = k.3 }

abbrev pub Same : (A : Type 0) → Outcome A → Outcome A → Type 0
Same A x y = x ≡ y

pub same_failed : (A : Type 0) (e f : Option ErrorCode) (a b : Option ℕ) → Same A (failed e a) (failed f b) → (e ≡ f) × (a ≡ b)
same_failed A e f a b h = (cc, cc)

pub gave_failed : (A : Type 0) (a : A) (r : List ℕ) (f : Option ErrorCode) (b : Option ℕ) → Same A (gave a r) (failed f b) → ⊥
gave_failed A a r f b h = cc

-- the position of a refusal is within the unread part
in_unread : (A : Type 0) (IsFault : List ℕ → Option ErrorCode → Option (List ℕ) → Type 0) (s : Cursor) (reason f : Option ErrorCode) (p : Place) (left : ℕ) → FaultAt IsFault s.unread reason p → Same A (failed reason (left_at p)) (failed f (Some left)) → Leaves s left
in_unread A IsFault s reason f p left k e = leaves s k.place p left k.is_at (same_failed A reason f (left_at p) (Some left) e).1

pub refusal_in : {A : Type 0} (IsFault : List ℕ → Option ErrorCode → Option (List ℕ) → Type 0) (s : Cursor) (r : Refusal) (res : Read A) → FaultyIn IsFault s.unread res → Refuses r (outcome res) → InUnread s r
refusal_in {A = A} IsFault s (refusal.TokenError c None) res k e = tt
refusal_in {A = A} IsFault s (refusal.TokenError c (Some left)) (got a r) k e = absurd (gave_failed A a r (Some c) (Some left) e)
refusal_in {A = A} IsFault s (refusal.TokenError c (Some left)) (bad f p) k e = in_unread A IsFault s f (Some c) p left k e
refusal_in {A = A} IsFault s (refusal.InvalidNumber left) (got a r) k e = absurd (gave_failed A a r None (Some left) e)
refusal_in {A = A} IsFault s (refusal.InvalidNumber left) (bad f p) k e = in_unread A IsFault s f None p left k e
refusal_in {A = A} IsFault s (refusal.TooLarge left) (got a r) k e = absurd (gave_failed A a r None (Some left) e)
refusal_in {A = A} IsFault s (refusal.TooLarge left) (bad f p) k e = in_unread A IsFault s f None p left k e
refusal_in {A = A} IsFault s (refusal.UnpairedSurrogate h left) (got a r) k e = absurd (gave_failed A a r None (Some left) e)
refusal_in {A = A} IsFault s (refusal.UnpairedSurrogate h left) (bad f p) k e = in_unread A IsFault s f None p left k e
refusal_in {A = A} IsFault s refusal.OutOfMemory res k e = tt

placed_at : (s : Cursor) (place : Option (List ℕ)) (p : Place) (left : ℕ) (err : Error) → IsAt s.unread place p → left_at p ≡ Some left → IsThere s left err → IsPositioned s place err
placed_at s (Some b) (here q) left err at e (pos, is, there) = λ before split.
    is ∙ ap Some (there (before ++ b) q (split ∙ ap (λ z. before ++ z) at ∙ sym (append_assoc before b q)) (cc))
placed_at s (Some b) inner left err at e there = absurd at
placed_at s None (here q) left err at e there = absurd at
placed_at s None inner left err at e there = absurd (cc)

-- a fault with a position is the fault of the input
there_refused : (A : Type 0) (IsFault : List ℕ → Option ErrorCode → Option (List ℕ) → Type 0) (s : Cursor) (err : Error) (reason f : Option ErrorCode) (p : Place) (left : ℕ)
    → FaultAt IsFault s.unread reason p → Same A (failed reason (left_at p)) (failed f (Some left)) → Says f err → IsThere s left err → Refused IsFault s err
there_refused A IsFault s err reason f p left k e says there =
    let same = same_failed A reason f (left_at p) (Some left) e in
    record { reason = f; place = k.place; fault = subst (λ z. IsFault s.unread z k.place) same.0 k.fault; says = says; placed = placed_at s k.place p left err k.is_at same.1 there }

end_refused : (A : Type 0) (IsFault : List ℕ → Option ErrorCode → Option (List ℕ) → Type 0) (s : Cursor) (err : Error) (reason f : Option ErrorCode) (p : Place)
    → FaultAt IsFault s.unread reason p → Same A (failed reason (left_at p)) (failed f None) → Says f err → error_position err ≡ None → Refused IsFault s err
end_refused A IsFault s err reason f p k e says none =
    let same = same_failed A reason f (left_at p) None e in
    let unplaced = no_place s.unread k.place p k.is_at same.1 in
    record { reason = f; place = None; fault = subst (λ z. IsFault s.unread f z) unplaced (subst (λ z. IsFault s.unread z k.place) same.0 k.fault); says = says; placed = none }

custom_refused : (A : Type 0) (IsFault : List ℕ → Option ErrorCode → Option (List ℕ) → Type 0) (s : Cursor) (err : Error) (res : Read A) (left : ℕ)
    → FaultyIn IsFault s.unread res → outcome res ≡ failed None (Some left) → LacksMemory err ⊎ (Says None err × IsThere s left err) → LacksMemory err ⊎ Refused IsFault s err
custom_refused A IsFault s err res left k e (inl m) = inl m
custom_refused A IsFault s err (got a r) left k e (inr t) = absurd (gave_failed A a r None (Some left) e)
custom_refused A IsFault s err (bad f p) left k e (inr t) = inr (there_refused A IsFault s err f None p left k e t.0 t.1)

code_refused : (A : Type 0) (IsFault : List ℕ → Option ErrorCode → Option (List ℕ) → Type 0) (s : Cursor) (err : Error) (res : Read A) (c : ErrorCode) (left : Option ℕ)
    → FaultyIn IsFault s.unread res → outcome res ≡ failed (Some c) left → MadeOf s (refusal.TokenError c left) err → Refused IsFault s err
code_refused A IsFault s err (got a r) c left k e m = absurd (gave_failed A a r (Some c) left e)
code_refused A IsFault s err (bad f p) c None k e m = end_refused A IsFault s err f (Some c) p k e m.0 m.1
code_refused A IsFault s err (bad f p) c (Some left) k e m = there_refused A IsFault s err f (Some c) p left k e m.0 m.1

pub coded : {A : Type 0} (IsFault : List ℕ → Option ErrorCode → Option (List ℕ) → Type 0) (s : Cursor) (err : Error) (r : Refusal) (res : Read A)
    → FaultyIn IsFault s.unread res → Refuses r (outcome res) → HasCode r → MadeOf s r err → Refused IsFault s err
coded {A = A} IsFault s err (refusal.TokenError c left) res k e h m = code_refused A IsFault s err res c left k e m
coded IsFault s err (refusal.InvalidNumber left) res k e h m = absurd h
coded IsFault s err (refusal.TooLarge left) res k e h m = absurd h
coded IsFault s err (refusal.UnpairedSurrogate u left) res k e h m = absurd h
coded IsFault s err refusal.OutOfMemory res k e h m = absurd h

pub refused : {A : Type 0} (IsFault : List ℕ → Option ErrorCode → Option (List ℕ) → Type 0) (s : Cursor) (err : Error) (r : Refusal) (res : Read A)
    → FaultyIn IsFault s.unread res → Refuses r (outcome res) → MadeOf s r err → LacksMemory err ⊎ Refused IsFault s err
refused {A = A} IsFault s err (refusal.TokenError c left) res k e m = inr (code_refused A IsFault s err res c left k e m)
refused {A = A} IsFault s err (refusal.InvalidNumber left) res k e m = custom_refused A IsFault s err res left k e m
refused {A = A} IsFault s err (refusal.TooLarge left) res k e m = custom_refused A IsFault s err res left k e m
refused {A = A} IsFault s err (refusal.UnpairedSurrogate u left) res k e m = custom_refused A IsFault s err res left k e m
refused IsFault s err refusal.OutOfMemory res k e m = inl m

-- a code is a fault
pub code_known : (r : Refusal) → HasCode r → HasFault r
code_known (refusal.TokenError c left) h = tt
code_known (refusal.InvalidNumber left) h = tt
code_known (refusal.TooLarge left) h = tt
code_known (refusal.UnpairedSurrogate u left) h = tt
code_known refusal.OutOfMemory h = h

-- a fault doesn't say that memory ran out
pub no_memory : (r : Refusal) → HasFault r → r ≡ refusal.OutOfMemory → ⊥
no_memory r h e = subst HasFault e h
