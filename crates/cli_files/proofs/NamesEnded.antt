-- Names that end in a point and an ending.
use Rattle.std.proofs.Common.{◌≡◌, ◌≢◌, ℕ, ◌+◌, Bool, nat_eq, List, [], ◌∷◌, ◌++◌, length, inl, inr, Option, Some, None, MatchOption, refl, sym, ap, ◌∙◌, subst, append_assoc, arith, ◌<◌, ◌≤◌, ⊎_elim}
use Rattle.std.specs.Bool.{Decides}
use Rattle.std.specs.Borrow.{Bor}
use Rattle.std.proofs.lemmas.List.{append_cancel_right, get_or_push, length_push, get_or_default}
use Rattle.std.proofs.lemmas.Slice.Eq.{ends_is}
use Rattle.std.proofs.lemmas.Bool.{cases_eq}
use Rattle.std.proofs.lemmas.Bool.Decides.{Decides-eqb, Decides-like}
use Rattle.std.specs.declared.alloc.Global.{Global}
use Rattle.std.specs.Prelude.{get_or, String, string_bytes}
use Rattle.std.specs.List.{Any, ends_with}
use Rattle.cli_files.specs.Folders.{HasEnding, IsEnding, EndsWith, point, slash}

-- the same last element, and the same before it
last_same : (xs ys : List ℕ) (x y : ℕ) → xs ++ x ∷ [] ≡ ys ++ y ∷ [] → (xs ≡ ys) × (x ≡ y)
last_same xs ys x y e =
    let long : length ys ≡ length xs = (let l = sym (length_push xs x) ∙ ap length e ∙ length_push ys y in omega (arith, l)) in
    let same : x ≡ y = sym (get_or_push xs x 0 (length xs) refl) ∙ ap (λ l. get_or l (length xs) 0) e ∙ get_or_push ys y 0 (length xs) long in
    (append_cancel_right xs ys (y ∷ []) (subst (λ z. xs ++ z ∷ [] ≡ ys ++ y ∷ []) same e), same)

-- what stands in front of the ending
pub front_is : (name front ending : List ℕ) → name ≡ front ++ ending → (h : HasEnding ending name) → front ≡ (h.0 ++ h.1 ∷ []) ++ point ∷ []
front_is name front ending is (f, byte, other, e) =
    append_cancel_right front _ ending (sym is ∙ e ∙ sym (ap (λ l. l ++ ending) (append_assoc f (byte ∷ []) (point ∷ [])) ∙ append_assoc f (byte ∷ point ∷ []) ending))

no_ending : (name ending : List ℕ) → ((front : List ℕ) → name ≢ front ++ ending) → ¬ (HasEnding ending name)
no_ending name ending none (f, byte, other, e) = none (f ++ byte ∷ point ∷ []) (e ∙ sym (append_assoc f (byte ∷ point ∷ []) ending))

pub not_stripped : (name ending s p : List ℕ) → s ≡ name → p ≡ ending → ((front : List ℕ) → s ≢ front ++ p) → ¬ (HasEnding ending name)
not_stripped name ending s p e f none h = no_ending s p none (subst (λ l. HasEnding l s) (sym f) (subst (λ l. HasEnding ending l) (sym e) h))

pub stripped : (name ending s p front : List ℕ) → s ≡ name → p ≡ ending → s ≡ front ++ p → name ≡ front ++ ending
stripped name ending s p front e f is = sym e ∙ is ∙ ap (λ l. front ++ l) f

pub not_empty : (name front ending : List ℕ) → name ≡ front ++ ending → length front ≡ 0 → ¬ (HasEnding ending name)
not_empty name front ending is empty h =
    let l = ap length (front_is name front ending is h) ∙ length_push (h.0 ++ h.1 ∷ []) point in omega (arith, l, empty)

pub not_alone : (name front ending rest : List ℕ) (p : ℕ) → name ≡ front ++ ending → front ≡ rest ++ p ∷ [] → length rest ≡ 0 → ¬ (HasEnding ending name)
not_alone name front ending rest p is split empty h =
    let e = last_same rest _ p point (sym split ∙ front_is name front ending is h) in
    let l = ap length e.0 ∙ length_push h.0 h.1 in omega (arith, l, empty)

pub ended : (name front ending rest most : List ℕ) (p byte : ℕ) (r : Bool) → name ≡ front ++ ending → front ≡ rest ++ p ∷ [] → rest ≡ most ++ byte ∷ []
    → Decides r ((p ≡ point) × (byte ≢ slash)) → Decides r (HasEnding ending name)
ended name front ending rest most p byte r is split last d =
    Decides-like r
    (λ k. (most, byte, k.1, is ∙ ap (λ l. l ++ ending) (split ∙ ap (λ l. l ++ p ∷ []) last ∙ ap (λ x. (most ++ byte ∷ []) ++ x ∷ []) k.0 ∙ append_assoc most (byte ∷ []) (point ∷ [])) ∙ append_assoc most (byte ∷ point ∷ []) ending))
    (λ h. let e = last_same rest _ p point (sym split ∙ front_is name front ending is h) in
    let f = last_same most h.0 byte h.1 (sym last ∙ e.0) in
    (e.1, subst (λ b. b ≢ slash) (sym f.1) h.2))
    d

pub ends_decided : (s t p : List ℕ) (r : Bool) → t ≡ s → r ≡ ends_with nat_eq t p → Decides r (EndsWith p s)
ends_decided s t p r same m = let k = ends_is Decides-eqb s p r (subst (λ l. r ≡ ends_with nat_eq l p) same m) in (λ t. (_, k.0 t), λ h. k.1 h.0 h.1)

-- ---- one ending after another

pub any_here : (name : List ℕ) (endings : List (String Global)) (i : ℕ) (ending : String Global) (text : List ℕ) → i < length endings → ending ≡ get_or endings i ending → text ≡ string_bytes ending
    → HasEnding text name → Any (λ e. HasEnding (string_bytes e) name) endings
any_here name endings i ending text h is value k = (i, ending, h, sym is, subst (λ t. HasEnding t name) value k)

pub none_more : (name : List ℕ) (endings : List (String Global)) (i : ℕ) (ending : String Global) (text : List ℕ) → i < length endings → ending ≡ get_or endings i ending → text ≡ string_bytes ending
    → ¬ (HasEnding text name) → ((k : ℕ) (d : String Global) → k < i → ¬ (HasEnding (string_bytes (get_or endings k d)) name))
    → (k : ℕ) (d : String Global) → k < i + 1 → ¬ (HasEnding (string_bytes (get_or endings k d)) name)
none_more name endings i ending text h is value this before k d low has =
    ⊎_elim
    (λ (e : k ≡ i). this (subst (λ t. HasEnding t name) (sym (value ∙ ap string_bytes (is ∙ get_or_default endings i ending d h ∙ ap (λ n. get_or endings n d) (sym e)))) has))
    (λ other. before k d (omega (arith, low, other)) has)
    (cases_eq k i)

pub none_at_all : (name : List ℕ) (endings : List (String Global)) (i : ℕ) → length endings ≤ i → ((k : ℕ) (d : String Global) → k < i → ¬ (HasEnding (string_bytes (get_or endings k d)) name))
    → ¬ (Any (λ e. HasEnding (string_bytes e) name) endings)
none_at_all name endings i h none (k, x, low, is, has) = none k x (omega (arith, low, h)) (subst (λ e. HasEnding (string_bytes e) name) (sym is) has)

-- ---- an ending that is asked for

unpointed_elsewhere : (value e : List ℕ) → value ≡ [] → ((rest : List ℕ) → value ≢ point ∷ rest) → IsEnding value e → ⊥
unpointed_elsewhere value e empty unpointed (filled, inl a) = unpointed e a
unpointed_elsewhere value e empty unpointed (filled, inr a) = filled (sym a.0 ∙ empty)

-- what doesn't begin with a point is its own ending
pub whole_ending : (value : List ℕ) → ((rest : List ℕ) → value ≢ point ∷ rest) → (r : Option (Bor (List ℕ))) → MatchOption r (value ≡ []) (λ same. (same.now ≡ value) × (value ≢ []))
    → MatchOption r ((e : List ℕ) → ¬ (IsEnding value e)) (λ e. IsEnding value e.now)
whole_ending value unpointed None empty = λ e k. unpointed_elsewhere value e empty unpointed k
whole_ending value unpointed (Some x) (same, filled) = ((λ n. filled (sym same ∙ n)), inr (sym same, unpointed))
