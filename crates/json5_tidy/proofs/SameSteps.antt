-- Steps over two texts of which the second may have the tokens of the first.
use Rattle.std.proofs.Common.{◌≡◌, ◌<◌, ◌+◌, ◌==◌, ℕ, Bool, true, false, List, [], ◌∷◌, ◌++◌, length, refl, sym, ap, ◌∙◌, subst, length-append, arith}
use Rattle.std.specs.Str.{chars}
use Rattle.json5_grammar.proofs.CommonLemmas.{eq_from}
use Rattle.json5_grammar.specs.Language.Characters.{comma_sign, Each, no_char, char}
use Rattle.json5_styles.specs.Json.{is_json_blank}
use Rattle.json5_tokens.specs.Scan.{StartsWith}
use Rattle.json5_tokens.proofs.TextCuts.{no_chars}
use Rattle.json5_lexemes.specs.SameLexemes.{is_sign}
use Rattle.json5_lexemes.specs.SharedTokens.{IsPart, PassesBlanks, SharesToken, is_mark}
use Rattle.json5_lexemes.specs.SharedTokens as shared
use Rattle.json5_lexemes.proofs.PlainFronts.{same_by}
use Rattle.json5_tidy.specs.SameTokens.{SameTokens, HaveSameTokens}
use Rattle.json5_tidy.specs.SameTokens as same
use Rattle.json5_tidy.proofs.TokenFronts.{json_blank}

-- ---- blanks

left_blanks : (s x y : List ℕ) → Each is_json_blank s → SameTokens x y → SameTokens (s ++ x) y
left_blanks [] x y no_char k = k
left_blanks (c ∷ s) x y (char h e) k = same.left_blank (json_blank c h) (left_blanks s x y e k)

right_blanks : (s x y : List ℕ) → Each is_json_blank s → SameTokens x y → SameTokens x (s ++ y)
right_blanks [] x y no_char k = k
right_blanks (c ∷ s) x y (char h e) k = same.right_blank h (right_blanks s x y e k)

-- blanks in front of both texts
pub blanks_back : (left right after after_right : List ℕ) → PassesBlanks left after → PassesBlanks right after_right → HaveSameTokens after after_right → HaveSameTokens left right
blanks_back left right after after_right p q k =
    subst (λ z. SameTokens z (chars right)) (sym p.split)
    (left_blanks p.passed (chars after) (chars right) p.each (subst (SameTokens (chars after)) (sym q.split) (right_blanks q.passed (chars after) (chars after_right) q.each k)))

pub both_empty : (left right : List ℕ) {b : Bool} → true ≡ (length left == 0) → b ≡ (length right == 0) → b ≡ true → HaveSameTokens left right
both_empty left right {b = b} h k t =
    subst (λ z. SameTokens z (chars right)) (sym (no_chars left (same_by (length left) 0 (sym h))))
    (subst (SameTokens []) (sym (no_chars right (same_by (length right) 0 (sym k ∙ t)))) same.ends)

-- ---- tokens

mark_same : (c : ℕ) (x y : List ℕ) (b : Bool) → (c == comma_sign) ≡ b → is_mark c ≡ true → SameTokens x y → SameTokens (c ∷ x) (c ∷ y)
mark_same c x y true e h k = let is : c ≡ comma_sign = eq_from c comma_sign e in subst (λ z. SameTokens (z ∷ x) (z ∷ y)) (sym is) (same.comma k)
mark_same c x y false e h k = let n : is_sign c ≡ true = rw e at h in same.sign n k

part_same : (c : ℕ) (s x y : List ℕ) → IsPart c s x → IsPart c s y → SameTokens x y → SameTokens (c ∷ s ++ x) (c ∷ s ++ y)
part_same c s x y (shared.mark h) j k = mark_same c x y (c == comma_sign) refl h k
part_same c s x y (shared.word e m) (shared.word f n) k = same.word e m n k
part_same c s x y (shared.string h i) j k = same.string h i k
part_same c s x y (shared.word e m) (shared.mark h) k = mark_same c x y (c == comma_sign) refl h k
part_same c s x y (shared.word e m) (shared.string h i) k = same.string h i k

-- the token is put back
pub first_back : (c : ℕ) (left right rest rest_right after after_right : List ℕ) → StartsWith left c rest × StartsWith right c rest_right → SharesToken c rest rest_right after after_right
    → HaveSameTokens after after_right → HaveSameTokens left right
first_back c left right rest rest_right after after_right (a, b) g k =
    subst (λ z. SameTokens z (chars right)) (sym (a.chars ∙ ap (λ z. c ∷ z) g.in_left))
    (subst (SameTokens (c ∷ g.rest ++ chars after)) (sym (b.chars ∙ ap (λ z. c ∷ z) g.in_right)) (part_same c g.rest (chars after) (chars after_right) g.is_left g.is_right k))

pub fewer : (c : ℕ) (text left right rest rest_right after after_right : List ℕ) → PassesBlanks text left → StartsWith left c rest → SharesToken c rest rest_right after after_right → length (chars after) < length (chars text)
fewer c text left right rest rest_right after after_right p a g =
    let k : length (chars text) ≡ length p.passed + length (chars left) = ap length p.split ∙ length-append p.passed (chars left) in
    let n : length (chars left) ≡ length (c ∷ chars rest) = ap length a.chars in
    let m : length (chars rest) ≡ length g.rest + length (chars after) = ap length g.in_left ∙ length-append g.rest (chars after) in
    omega (arith, k, n, m)
