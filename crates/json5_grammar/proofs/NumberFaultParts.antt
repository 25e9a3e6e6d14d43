-- The part of each number's fault has the form of a part.
use Rattle.std.proofs.Common.{◌≡◌, ℕ, Bool, true, false, List, [], ◌∷◌, ◌++◌, refl, sym, ◌⊎◌, append_assoc, arith, Option, subst, inl, inr}
use lib.Chars.{codes}
use Rattle.std.proofs.lemmas.Bool.Decides.{nat_tests}
use Rattle.std.proofs.lemmas.List.{append-nil}
use Rattle.json5_grammar.specs.Faults.Parts.{NumberPart, one_char, number_word, hexadecimal, lone_zero_part, decimal_run, Nearly, just, one_more, IsPrefix}
use Rattle.json5_grammar.specs.Faults.Codes.{ErrorCode, Shown}
use Rattle.json5_grammar.specs.Faults.Tokens.{NumberWord, Cut, RunEnd, run_at_end, run_at_char, is_sign, NumberFault, number_word_differs, number_word_ends, sign_without_number, sign_ends, no_hexadecimal_digit, hexadecimal_ends, hexadecimal_overflows, negative_too_large, not_a_literal, literal_overflows, leading_zero}
use Rattle.json5_grammar.specs.Language.Numbers.{Sign, plus, minus}
use Rattle.json5_grammar.specs.Language.Characters.{no_char}

cut_prefix : (w p : List ℕ) (d : ℕ) → Cut w p d → IsPrefix p w
cut_prefix w p d (q, e) = (d ∷ q, e)

nearly_after : {p : ℕ → Bool} {r c : List ℕ} {how : Shown} (n : List ℕ) → RunEnd p r c how → Nearly n (n ++ c)
nearly_after n run_at_end = subst (Nearly n) (sym (append-nil n)) just
nearly_after n (run_at_char {c = c} r h) = one_more c

signed_more : (s p : List ℕ) (c : ℕ) → Nearly (s ++ p) (s ++ (p ++ c ∷ []))
signed_more s p c = subst (Nearly (s ++ p)) (append_assoc s p (c ∷ [])) (one_more c)

lone_sign : (sign : ℕ) → is_sign sign ≡ true → (m : Bool) × Sign (sign ∷ []) m
lone_sign sign h = by_sign (grind (arith, nat_tests))
  where
    by_sign : (sign ≡ 43) ⊎ (sign ≡ 45) → (m : Bool) × Sign (sign ∷ []) m
    by_sign (inl e) = (false, rw e plus)
    by_sign (inr e) = (true, rw e minus)

pub part_of : {x part : List ℕ} {e : Option ErrorCode} {pl : Option (List ℕ)} {shown : Shown} → NumberFault x e pl part shown → NumberPart part
part_of (number_word_differs r w p s d c h m cut ne nope) = number_word s p w (s ++ (p ++ c ∷ [])) m h (cut_prefix w p d cut) (signed_more s p c)
part_of (number_word_ends w p s d h m cut ne) = number_word s p w (s ++ p) m h (cut_prefix w p d cut) just
part_of (sign_without_number r {sign = sign} {c = c} h n) = number_word (sign ∷ []) [] (codes "NaN") _ (lone_sign sign h).1 NumberWord.nan (codes "NaN", refl) (one_more c)
part_of (sign_ends h) = one_char
part_of (no_hexadecimal_digit r s x c m h n) = hexadecimal s [] (s ++ 48 ∷ x ∷ c ∷ []) x m h no_char (signed_more s (48 ∷ x ∷ []) c)
part_of (hexadecimal_ends s x m h) = hexadecimal s [] (s ++ 48 ∷ x ∷ []) x m h no_char just
part_of (hexadecimal_overflows r s h x c m i e n lo hi) = hexadecimal s h (s ++ 48 ∷ x ∷ (h ++ c ∷ [])) x m i e (signed_more s (48 ∷ x ∷ h) c)
part_of (negative_too_large r h c x i e lo hi b) = hexadecimal (45 ∷ []) h (45 ∷ 48 ∷ x ∷ (h ++ c)) x minus i e (nearly_after (45 ∷ 48 ∷ x ∷ h) b)
part_of (not_a_literal r n c w nope b) = decimal_run n (n ++ c) w (nearly_after n b)
part_of (literal_overflows r s l i c w m d nope b) = decimal_run (s ++ l) ((s ++ l) ++ c) w (nearly_after (s ++ l) b)
part_of (leading_zero r s c m h) = lone_zero_part s (s ++ 48 ∷ c ∷ []) m (signed_more s (48 ∷ []) c)
