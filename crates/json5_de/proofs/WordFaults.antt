-- A word in front: what refuses it, and that it is refused for nothing else.
use Rattle.std.proofs.Common.{◌≡◌, ◌≢◌, ℕ, List, [], ◌∷◌, ◌++◌, refl, ap, sym, ◌∙◌, append_assoc, Option, Some, None}
use Rattle.std.proofs.lemmas.List.{append-nil, append_cancel_left}
use Rattle.json5_grammar.specs.declared.error_code.ErrorCode.{ErrorCode}
use Rattle.json5_tokens.specs.TokenFaults.{FaultyWord, word_differs, word_ends}
use Rattle.json5_grammar.proofs.CommonLemmas.{first_same}

pub append_not_nil : (p : List ℕ) (c : ℕ) (r : List ℕ) → p ++ c ∷ r ≡ [] → ⊥
append_not_nil [] c r e = absurd (cc)
append_not_nil (d ∷ p) c r e = absurd (cc)

-- at the end
pub word_end : {ends differs : ErrorCode} (w x : List ℕ) (reason : Option ErrorCode) (place : Option (List ℕ)) → x ≡ [] → FaultyWord w ends differs x reason place → (reason ≡ Some ends) × (place ≡ None)
word_end w x reason place e (word_differs p q r c d is ne) = absurd (append_not_nil p c r e)
word_end w x reason place e (word_ends p q d is) = (refl, refl)

-- at another character than the first one
pub word_other : {ends differs : ErrorCode} (k : ℕ) (ks : List ℕ) (c : ℕ) (r x : List ℕ) (reason : Option ErrorCode) (place : Option (List ℕ)) → c ≢ k → x ≡ c ∷ r → FaultyWord (k ∷ ks) ends differs x reason place
    → (reason ≡ Some differs) × (place ≡ Some [])
word_other k ks c r x reason place other e (word_differs [] q y b d is ne) = (refl, refl)
word_other k ks c r x reason place other e (word_differs (a ∷ p) q y b d is ne) =
    let same : c ≡ a = cc in
    let first : k ≡ a = cc in
    absurd (other (same ∙ sym first))
word_other k ks c r x reason place other e (word_ends [] q d is) = absurd (cc)
word_other k ks c r x reason place other e (word_ends (a ∷ p) q d is) =
    let same : c ≡ a = cc in
    let first : k ≡ a = cc in
    absurd (other (same ∙ sym first))

-- the word in front is no fault
pub word_no_fault : {ends differs : ErrorCode} (w r x : List ℕ) (reason : Option ErrorCode) (place : Option (List ℕ)) → x ≡ w ++ r → FaultyWord w ends differs x reason place → ⊥
word_no_fault w r x reason place e (word_differs p q y c d is ne) =
    let split : p ++ c ∷ y ≡ p ++ d ∷ (q ++ r) = e ∙ ap (λ z. z ++ r) is ∙ append_assoc p (d ∷ q) r in
    ne (first_same c d y (q ++ r) (append_cancel_left p (c ∷ y) (d ∷ (q ++ r)) split))
word_no_fault w r x reason place e (word_ends p q d is) =
    let split : p ++ d ∷ (q ++ r) ≡ p ++ [] = sym (e ∙ ap (λ z. z ++ r) is ∙ append_assoc p (d ∷ q) r) ∙ sym (append-nil p) in
    let none : d ∷ (q ++ r) ≡ [] = append_cancel_left p (d ∷ (q ++ r)) [] split in
    absurd (cc)
