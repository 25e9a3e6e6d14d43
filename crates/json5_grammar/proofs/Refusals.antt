-- A refusal has one code and one position.
use Rattle.std.proofs.Common.{◌≡◌, ℕ, List, ◌++◌, refl, ap, sym, ◌∙◌, subst, Option, Some, None}
use Rattle.std.proofs.lemmas.List.{append_cancel_right}
use Rattle.json5_grammar.specs.Faults.Codes.{ErrorCode, after_text}
use Rattle.json5_grammar.specs.Model.Reading.{Place, here, inner, Read, got, bad, IsAt}
use Rattle.json5_grammar.proofs.CommonLemmas.{at_after}

-- the reader's answer res on x is this code at this position
abbrev pub Refuses : {A : Type 0} → Read A → List ℕ → Option ErrorCode → Option (List ℕ) → Type 0
Refuses res x code place = (p : Place) × (res ≡ bad code p) × IsAt x place p

pub same_bad : {A : Type 0} (a : Read A) (e d : Option ErrorCode) (p q : Place) → a ≡ bad e p → a ≡ bad d q → (e ≡ d) × (p ≡ q)
same_bad a e d p q h k = (cc, cc)

pub same_place : (x : List ℕ) (a b : Option (List ℕ)) (p : Place) → IsAt x a p → IsAt x b p → a ≡ b
same_place x (Some a) (Some b) (here q) e f = ap Some (append_cancel_right a b q (sym e ∙ f))
same_place x (Some a) (Some b) inner e f = absurd e
same_place x (Some a) None (here q) e f = absurd f
same_place x (Some a) None inner e f = absurd e
same_place x None (Some b) (here q) e f = absurd e
same_place x None (Some b) inner e f = absurd f
same_place x None None p e f = refl

pub one_refusal : {A : Type 0} (res : Read A) (x : List ℕ) (c d : Option ErrorCode) (a b : Option (List ℕ)) → Refuses res x c a
    → Refuses res x d b → (c ≡ d) × (a ≡ b)
one_refusal res x c d a b (p, e, i) (q, f, j) =
    let same : bad c p ≡ bad d q = sym e ∙ f in
    let places : q ≡ p = cc in
    (cc, same_place x a b p i (subst (IsAt x b) places j))

pub not_both : {A : Type 0} (res : Read A) (x r : List ℕ) (v : A) (c : Option ErrorCode) (a : Option (List ℕ)) → res ≡ got v r → Refuses res x c a → ⊥
not_both res x r v c a e (p, f, i) = let same : got v r ≡ bad c p = sym e ∙ f in absurd (cc)

-- a refusal after more text
pub refuses_after : {A B : Type 0} (t x : List ℕ) (res : Read A) (whole : Read B) (c : Option ErrorCode) (a : Option (List ℕ))
    → ((p : Place) → res ≡ bad c p → whole ≡ bad c p) → Refuses res x c a → Refuses whole (t ++ x) c (after_text t a)
refuses_after t x res whole c a k (p, e, i) = (p, k p e, at_after t x a p i)

pub got_same : {A : Type 0} (a b : A) (r y : List ℕ) → got a r ≡ got b y → (a ≡ b) × (r ≡ y)
got_same a b r y e = (cc, cc)

-- two answers of one reader of one text s ++ r ≡ t ++ y
pub one_answer : {A : Type 0} (f : List ℕ → Read A) (s r t y : List ℕ) (a b : A) → f (s ++ r) ≡ got a r → f (t ++ y) ≡ got b y → s ++ r ≡ t ++ y
    → (s ≡ t) × (a ≡ b) × (r ≡ y)
one_answer f s r t y a b g h e =
    let k = got_same a b r y (sym g ∙ ap f e ∙ h) in
    (append_cancel_right s t y (ap (λ z. s ++ z) (sym k.1) ∙ e), k.0, k.1)
