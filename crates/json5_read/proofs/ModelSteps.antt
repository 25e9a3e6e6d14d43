-- Steps over the input do what reading on lists does: what is refused, and one step after another.
use Rattle.std.proofs.Common.{◌≡◌, ◌≢◌, ℕ, ◌+◌, List, [], ◌∷◌, ◌++◌, length, refl, ap, sym, ◌∙◌, subst, append_assoc, arith, length-append, ◌⊎◌, inl, inr, Option, Some, None}
use Rattle.std.specs.Prelude.{Result, Ok, Err, slice_get}
use Rattle.std.specs.Str.{encode_utf8_all}
use Rattle.std.proofs.lemmas.Str.{encodes-append}
use Rattle.json5_grammar.specs.declared.error_code.ErrorCode.{ErrorCode}
use Rattle.json5_grammar.specs.declared.error_code.ErrorCode.TheVariants as codes
use Rattle.json5_grammar.specs.Model.Reading.{Read, Place, here, inner, got, bad, and_then, IsAt}
use Rattle.json5_grammar.specs.Model.ReadSteps.{forget}
use Rattle.json5_grammar.proofs.Refusals.{Refuses}
use Rattle.json5_types.specs.declared.error.Error.{Error}
use Rattle.json5_tokens.specs.Cursor.{Cursor, Took, IsPositioned, Refused, IsOutOfMemory, Says, offset_of}
use Rattle.json5_types.specs.Errors.{code, kind_of}
use Rattle.json5_read.specs.ModelSteps.{IsInside, SameText, HasPositionAt, RefusesRead, Gave, Steps, RefusesToken}
use Rattle.json5_read.proofs.NoFailedCode.{Lacks, other_says, memory_other}

-- ---- the next character

pub none_next : (x : List ℕ) → slice_get x 0 ≡ None → x ≡ []
none_next [] e = refl
none_next (c ∷ x) e = absurd (cc)

pub some_next : (x : List ℕ) (c : ℕ) → slice_get x 0 ≡ Some c → (r : List ℕ) × (x ≡ c ∷ r)
some_next [] c e = absurd (cc)
some_next (d ∷ x) c e = let same : d ≡ c = cc in (x, ap (λ k. k ∷ x) same)

bytes_apart : (x y : List ℕ) → length (encode_utf8_all (x ++ y)) ≡ length (encode_utf8_all x) + length (encode_utf8_all y)
bytes_apart x y = ap length (encodes-append x y) ∙ length-append (encode_utf8_all x) (encode_utf8_all y)

-- the offset counts what comes before
pub counted_before : (s : Cursor) (before : List ℕ) (offset : ℕ) → offset ≡ offset_of s → s.input ≡ before ++ s.unread → offset ≡ length (encode_utf8_all before)
counted_before s before offset e split =
    let apart = ap (λ x. length (encode_utf8_all x)) split ∙ bytes_apart before s.unread in
    omega (arith, e, apart)

-- ---- faults

pub same_of : {s t : Cursor} → s ≡ t → s.input ≡ t.input
same_of e = ap (λ (s : Cursor). s.input) e

stands_at : (s : Cursor) (place : Option (List ℕ)) (p : Place) (e : Error) → IsInside s → IsAt s.unread place p → IsPositioned s place e → HasPositionAt s.input p e
stands_at s (Some b) (here q) e r at k = (r.before ++ b, r.inside ∙ ap (λ z. r.before ++ z) at ∙ sym (append_assoc r.before b q), k r.before r.inside)
stands_at s (Some b) inner e r at k = absurd at
stands_at s None (here q) e r at k = absurd at
stands_at s None inner e r at k = k

-- a fault that reading on lists refuses with too
pub blames_refused : {A : Type 0} {F : List ℕ → Option ErrorCode → Option (List ℕ) → Type 0} (s : Cursor) (m : Read A) (e : Error) → IsInside s → Lacks F → ((reason : Option ErrorCode) (place : Option (List ℕ)) → F s.unread reason place → Refuses m s.unread reason place)
    → Refused F s e → RefusesRead s.input m e
blames_refused s m e r l k f =
    let (p, is, at) = k f.reason f.place f.fault in
    record { reason = f.reason; place = p; is_bad = is; says = inr (f.says, stands_at s f.place p e r at f.placed); unprompted = other_says f.reason e (l s.unread f.reason f.place f.fault) f.says }

-- the same, or memory ran out, where reading gives nothing
pub blames_token : {A : Type 0} {F : List ℕ → Option ErrorCode → Option (List ℕ) → Type 0} (s : Cursor) (m : Read A) (e : Error) → IsInside s → Lacks F → ((reason : Option ErrorCode) (place : Option (List ℕ)) → F s.unread reason place → Refuses m s.unread reason place)
    → ((a : A) (r : List ℕ) → m ≡ got a r → ⊥) → RefusesToken F s e → RefusesRead s.input m e
blames_token s m e r l k none (inr f) = blames_refused s m e r l k f
blames_token {A = A} s m e r l k none (inl memory) = by_answer m refl
  where
    by_answer : (n : Read A) → m ≡ n → RefusesRead s.input m e
    by_answer (got a y) is = absurd (none a y is)
    by_answer (bad c p) is = record { reason = c; place = p; is_bad = is; says = inl memory.kind; unprompted = memory_other e memory.kind }

pub forget_got : {A : Type 0} (m : Read A) (u : Unit {0}) (r : List ℕ) → forget m ≡ got u r → (a : A) × (m ≡ got a r)
forget_got (got a y) u r e = let k : y ≡ r = cc in (a, ap (got a) k)
forget_got (bad c p) u r e = absurd (cc)

pub forget_refuses : {A : Type 0} (m : Read A) (x : List ℕ) (reason : Option ErrorCode) (place : Option (List ℕ)) → Refuses m x reason place → Refuses (forget m) x reason place
forget_refuses m x reason place (p, is, at) = (p, ap forget is, at)

-- a fault that was made with this code
pub blames_made : {A : Type 0} (input : List ℕ) (m : Read A) (e : Error) (c : ErrorCode) (p : Place) → m ≡ bad (Some c) p → Some c ≢ Some codes.Failed → kind_of e ≡ code c → HasPositionAt input p e → RefusesRead input m e
blames_made input m e c p is other kind there = record { reason = Some c; place = p; is_bad = is; says = inr (kind, there); unprompted = other_says (Some c) e other kind }

-- ---- one step after another

-- after characters were taken the rest is still the end of the input
pub ready_after : (old new : Cursor) (s : List ℕ) → IsInside old → Took old s new → IsInside new
ready_after old new s r t = record {
  before = r.before ++ s;
  inside = t.same ∙ r.inside ∙ ap (λ z. r.before ++ z) t.split ∙ sym (append_assoc r.before s new.unread);
}

pub took_both : (old mid new : Cursor) (s w : List ℕ) → Took old s mid → Took mid w new → Took old (s ++ w) new
took_both old mid new s w a b = record {
  split = a.split ∙ ap (λ z. s ++ z) b.split ∙ sym (append_assoc s w new.unread);
  same = b.same ∙ a.same;
}

-- what reading gives, by another name
pub blames_as : {A B : Type 0} (input other : List ℕ) (m : Read A) (n : Read B) (e : Error) → input ≡ other → ((c : Option ErrorCode) (p : Place) → m ≡ bad c p → n ≡ bad c p) → RefusesRead input m e → RefusesRead other n e
blames_as input other m n e same k b = record { reason = b.reason; place = b.place; is_bad = k b.reason b.place b.is_bad; says = subst (λ z. IsOutOfMemory e ⊎ (Says b.reason e × HasPositionAt z b.place e)) same b.says; unprompted = b.unprompted }

-- the first step is refused
pub first_refused : {A B : Type 0} (old : Cursor) (m : Read A) (f : A → List ℕ → Read B) (e : Error) → RefusesRead old.input m e → RefusesRead old.input (and_then m f) e
first_refused old m f e b = blames_as old.input old.input m (and_then m f) e refl (λ c p is. ap (λ z. and_then z f) is) b

-- a step after another
pub then_step : {A B : Type 0} (old mid new : Cursor) (m : Read A) (a : A) (f : A → List ℕ → Read B) (result : Result B Error) → Gave m a old mid → Steps (f a mid.unread) mid new result → Steps (and_then m f) old new result
then_step old mid new m a f (Ok b) g k = record {
  given = record { reads = ap (λ z. and_then z f) g.reads ∙ k.given.reads; taken = g.taken ++ k.given.taken; took = took_both old mid new g.taken k.given.taken g.took k.given.took };
  refused = tt;
  same_text = tt;
}
then_step old mid new m a f (Err e) g k = record {
  given = tt;
  refused = blames_as mid.input old.input (f a mid.unread) (and_then m f) e g.took.same (λ c p is. ap (λ z. and_then z f) g.reads ∙ is) k.refused;
  same_text = k.same_text ∙ g.took.same;
}

-- the first step of several is refused
pub first_step_refused : {A B : Type 0} (old new : Cursor) (m : Read A) (f : A → List ℕ → Read B) (e : Error) → RefusesRead old.input m e → SameText old new → Steps (and_then m f) old new (Err e)
first_step_refused old new m f e b g = record { given = tt; refused = first_refused old m f e b; same_text = g }

-- the same reading by another name
pub same_step : {A : Type 0} (old new : Cursor) (m n : Read A) (result : Result A Error) → m ≡ n → Steps n old new result → Steps m old new result
same_step old new m n (Ok a) e k = record { given = record { reads = e ∙ k.given.reads; taken = k.given.taken; took = k.given.took }; refused = tt; same_text = tt }
same_step old new m n (Err f) e k = record { given = tt; refused = blames_as old.input old.input n m f refl (λ c p is. e ∙ is) k.refused; same_text = k.same_text }

-- a step that takes these characters
pub took_step : {A : Type 0} (old new : Cursor) (m : Read A) (a : A) (s : List ℕ) → m ≡ got a new.unread → Took old s new → Steps m old new (Ok a)
took_step old new m a s e t = record { given = record { reads = e; taken = s; took = t }; refused = tt; same_text = tt }

-- a step that is refused
pub refused_step : {A : Type 0} (old new : Cursor) (m : Read A) (e : Error) → RefusesRead old.input m e → SameText old new → Steps m old new (Err e)
refused_step old new m e b g = record { given = tt; refused = b; same_text = g }

-- ---- nothing is taken

pub took_nothing : (mid at : Cursor) → at ≡ mid → Took mid [] at
took_nothing mid at same = record { split = ap (λ (s : Cursor). s.unread) (sym same); same = same_of same }

-- ---- after a step

-- after a step the rest is still the end of the input
pub ready_next : {A : Type 0} {m : Read A} {a : A} (old mid : Cursor) → IsInside old → Gave m a old mid → IsInside mid
ready_next old mid r g = ready_after old mid g.taken r g.took
