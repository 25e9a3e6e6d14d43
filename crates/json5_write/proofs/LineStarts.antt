-- The comma, line feed and indentation before an element or a member.
use Rattle.std.proofs.Common.{◌≡◌, ◌≤◌, ◌<◌, slice_index, ℕ, zero, suc, ◌+◌, ◌*◌, List, ◌∷◌, Bool, true, false, length, take, drop, replicate, ap, ◌∙◌, subst, arith, sym}
use Rattle.std.specs.Str.{IsAscii, IsCharBoundary, chars}
use Rattle.std.proofs.lemmas.List.{take-replicate, length-replicate}
use Rattle.std.proofs.lemmas.Str.{chars-IsAscii, IsCharBoundary-from_ascii}
use Rattle.json5_grammar.specs.Language.Characters.{comma_sign}
use Rattle.json5_write.specs.Out.{piece, line}
use Rattle.json5_write.specs.Commas.{comma_before}

spaces : (n i : ℕ) → slice_index (replicate n 32) i < 128
spaces zero i = omega arith
spaces (suc n) zero = omega arith
spaces (suc n) (suc i) = spaces n i

ascii_line : (d : ℕ) → IsAscii (line d)
ascii_line d zero = omega arith
ascii_line d (suc i) = spaces (2 * d) i

length_line : (d : ℕ) → length (line d) ≡ 1 + 2 * d
length_line d = let n : length (replicate (2 * d) 32) ≡ 2 * d = length-replicate {A = ℕ} (2 * d) 32 in omega (arith, n)

ascii_after : (d : ℕ) → IsAscii (comma_sign ∷ line d)
ascii_after d zero = omega arith
ascii_after d (suc i) = ascii_line d i

-- a shorter line is a prefix of a longer one
pub shorter_line : (s : List ℕ) (most d n : ℕ) → s ≡ comma_sign ∷ line most → n ≡ d → d ≤ most → take (2 + 2 * n) s ≡ comma_sign ∷ line d
shorter_line s most d n e same l =
    let k : 2 + 2 * n ≡ suc (suc (2 * d)) = omega (arith, same) in
    ap (take (2 + 2 * n)) e ∙ (ap (λ m. take m (comma_sign ∷ line most)) k ∙ ap (λ t. comma_sign ∷ 10 ∷ t) (take-replicate (2 * d) (2 * most) 32 (omega arith)))

pub line_boundary : (s : List ℕ) (most d n : ℕ) → s ≡ comma_sign ∷ line most → n ≡ d → d ≤ most → IsCharBoundary s (2 + 2 * n)
line_boundary s most d n e same l =
    subst (λ t. IsCharBoundary t (2 + 2 * n)) (sym e) (IsCharBoundary-from_ascii (comma_sign ∷ line most) (2 + 2 * n) (ascii_after most) (let k = length_line most in omega (arith, k, same, l)))

pub line_after_comma : (due : Bool) (s : List ℕ) (d : ℕ) → due ≡ true → s ≡ comma_sign ∷ line d → chars s ≡ (comma_before due (piece (line d))).text
line_after_comma true s d h e = subst (λ t. chars t ≡ t) (sym e) (chars-IsAscii (comma_sign ∷ line d) (ascii_after d)) ∙ e
line_after_comma false s d h e = absurd (cc)

pub line_alone : (due : Bool) (s t : List ℕ) (d : ℕ) → due ≡ false → s ≡ comma_sign ∷ line d → t ≡ drop 1 s → chars t ≡ (comma_before due (piece (line d))).text
line_alone true s t d h e f = absurd (cc)
line_alone false s t d h e f = let same = f ∙ ap (drop 1) e in subst (λ l. chars l ≡ l) (sym same) (chars-IsAscii (line d) (ascii_line d)) ∙ same
