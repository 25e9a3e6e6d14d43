-- A number's fault that a character shows remains, whatever follows it.
use Rattle.std.proofs.Common.{◌≡◌, ℕ, Bool, List, [], ◌∷◌, ◌++◌, refl, ap, sym, ◌∙◌, append_assoc, Option}
use Rattle.std.proofs.lemmas.List.{append-nil}
use Rattle.json5_grammar.specs.Faults.Codes.{ErrorCode, Shown, by_char}
use Rattle.json5_grammar.specs.Faults.Tokens.{RunEnd, run_at_end, run_at_char, NumberFault, number_word_differs, number_word_ends, sign_without_number, sign_ends, no_hexadecimal_digit, hexadecimal_ends, hexadecimal_overflows, negative_too_large, not_a_literal, literal_overflows, leading_zero}
use Rattle.json5_grammar.proofs.CommonLemmas.{append_after_two}

after_rest : {p : ℕ → Bool} {r c : List ℕ} {shown : Shown} → RunEnd p r c shown → (q : List ℕ) × (r ≡ c ++ q)
after_rest run_at_end = ([], refl)
after_rest (run_at_char r h) = (r, refl)

-- the part is the text's front
pub part_rest : {x part : List ℕ} {e : Option ErrorCode} {pl : Option (List ℕ)} {shown : Shown} → NumberFault x e pl part shown → (q : List ℕ) × (x ≡ part ++ q)
part_rest (number_word_differs r w p s d c h g i n k) = (r, sym (append_after_two s p (c ∷ []) r))
part_rest (number_word_ends w p s d h g i n) = ([], sym (append-nil (s ++ p)))
part_rest (sign_without_number r h k) = (r, refl)
part_rest (sign_ends h) = ([], refl)
part_rest (no_hexadecimal_digit r s x c g k h) = (r, sym (append_assoc s (48 ∷ x ∷ c ∷ []) r))
part_rest (hexadecimal_ends s x g k) = ([], sym (append-nil (s ++ 48 ∷ x ∷ [])))
part_rest (hexadecimal_overflows r s h x c g k a b l f) = (r, sym (append_after_two s (48 ∷ x ∷ h) (c ∷ []) r))
part_rest (negative_too_large r h c x k a l f b) = let q = after_rest b in (q.0, ap (λ z. 45 ∷ 48 ∷ x ∷ (h ++ z)) q.1 ∙ sym (append_assoc (45 ∷ 48 ∷ x ∷ h) c q.0))
part_rest (not_a_literal r n c h f b) = let q = after_rest b in (q.0, ap (λ z. n ++ z) q.1 ∙ sym (append_assoc n c q.0))
part_rest (literal_overflows r s l i c h g k n b) = let q = after_rest b in (q.0, ap (λ z. (s ++ l) ++ z) q.1 ∙ sym (append_assoc (s ++ l) c q.0))
part_rest (leading_zero r s c g h) = (r, sym (append_assoc s (48 ∷ c ∷ []) r))

after_more : {p : ℕ → Bool} {r c : List ℕ} (z : List ℕ) → RunEnd p r c by_char → RunEnd p (c ++ z) c by_char
after_more z (run_at_char r h) = run_at_char z h

pub whatever_follows : {x part : List ℕ} {e : Option ErrorCode} {pl : Option (List ℕ)} (z : List ℕ) → NumberFault x e pl part by_char → NumberFault (part ++ z) e pl part by_char
whatever_follows z (number_word_differs r w p s d c h g i n k) = rw (append_after_two s p (c ∷ []) z) (number_word_differs z w p s d c h g i n k)
whatever_follows z (sign_without_number r h k) = sign_without_number z h k
whatever_follows z (no_hexadecimal_digit r s x c g k h) = rw (append_assoc s (48 ∷ x ∷ c ∷ []) z) (no_hexadecimal_digit z s x c g k h)
whatever_follows z (hexadecimal_overflows r s h x c g k a b l f) = rw (append_after_two s (48 ∷ x ∷ h) (c ∷ []) z) (hexadecimal_overflows z s h x c g k a b l f)
whatever_follows z (negative_too_large r h c x k a l f b) = rw (append_assoc h c z) (negative_too_large (c ++ z) h c x k a l f (after_more z b))
whatever_follows z (not_a_literal r n c h f b) = rw (append_assoc n c z) (not_a_literal (c ++ z) n c h f (after_more z b))
whatever_follows z (literal_overflows r s l i c h g k n b) = rw (append_assoc (s ++ l) c z) (literal_overflows (c ++ z) s l i c h g k n (after_more z b))
whatever_follows z (leading_zero r s c g h) = rw (append_assoc s (48 ∷ c ∷ []) z) (leading_zero z s c g h)
