-- The verdict is one.
use Rattle.std.proofs.Common.{◌≡◌, ◌∙◌, ℕ, zero, suc, Bool, ap, sym, refl}
use Rattle.json5_types.specs.ValueMeanings.{Datum}
use Rattle.json5_schema.specs.Conformance.{Question, conforming, Answers, answers, unfolded, Conforms, Obeys}

-- the rules once, as a change of answers
once : Datum → Answers → Answers
once root w = answers w root

unfolded_zero : (v : Answers) (root : Datum) → unfolded 0 v root ≡ v
unfolding unfolded
unfolded_zero v root = refl

unfolded_suc : (n : ℕ) (v : Answers) (root : Datum) → unfolded (suc n) v root ≡ once root (unfolded n v root)
unfolding unfolded once
unfolded_suc n v root = refl

-- one step before is one step after
before_after : (n : ℕ) (v : Answers) (root : Datum) → unfolded n (once root v) root ≡ once root (unfolded n v root)
before_after zero v root = unfolded_zero (once root v) root ∙ ap (once root) (sym (unfolded_zero v root))
before_after (suc n) v root = unfolded_suc n (once root v) root ∙ ap (once root) (before_after n v root ∙ sym (unfolded_suc n v root))

swapped : (m n : ℕ) (v : Answers) (root : Datum) → unfolded n (unfolded m v root) root ≡ unfolded m (unfolded n v root) root
swapped zero n v root = ap (λ (w : Answers). unfolded n w root) (unfolded_zero v root) ∙ sym (unfolded_zero (unfolded n v root) root)
swapped (suc m) n v root =
    ap (λ (w : Answers). unfolded n w root) (unfolded_suc m v root) ∙ before_after n (unfolded m v root) root
    ∙ ap (once root) (swapped m n v root) ∙ sym (unfolded_suc m (unfolded n v root) root)

pub one_verdict : (root x : Datum) (a b : Bool) → Conforms root x a → Conforms root x b → a ≡ b
one_verdict root x a b h k =
    let v : Answers = λ q s y. a in
    sym (h.1 (unfolded k.0 v root)) ∙ ap (λ (w : Answers). w conforming root x) (swapped k.0 h.0 v root) ∙ k.1 (unfolded h.0 v root)

obeyed : (n : ℕ) (v : Answers) (root : Datum) → v ≡ once root v → unfolded n v root ≡ v
obeyed zero v root e = unfolded_zero v root
obeyed (suc n) v root e = unfolded_suc n v root ∙ ap (once root) (obeyed n v root e) ∙ sym e

-- two are equal that answer the same
same_answers : (v w : Answers) → ((q : Question) (s x : Datum) → v q s x ≡ w q s x) → v ≡ w
same_answers v w h = λ i q s x. h q s x i

as_once : (v : Answers) (root : Datum) → Obeys v root → v ≡ once root v
unfolding once
as_once v root h = same_answers v (answers v root) h

pub same_as_rules : (v : Answers) (root x : Datum) (b : Bool) → Obeys v root → Conforms root x b → v conforming root x ≡ b
same_as_rules v root x b h k = ap (λ (w : Answers). w conforming root x) (sym (obeyed k.0 v root (as_once v root h))) ∙ k.1 v
