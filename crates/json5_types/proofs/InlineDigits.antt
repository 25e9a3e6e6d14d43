-- Digits that are copied in two parts are kept as one string.
use Rattle.std.proofs.Common.{◌≡◌, ℕ, ◌+◌, ◌-◌, ◌≤◌, Bool, List, [], ◌∷◌, ◌++◌, length, take, refl, ap, sym, ◌∙◌, arith}
use Rattle.std.proofs.lemmas.List.{length-append, length-take-le, take-take}
use Rattle.std.proofs.lemmas.Slice.{take-put_mid}
use Rattle.std.proofs.Math.Seq.{take-append_seam, take-append-add}
use borrow.Rule.Slice.PartMut.{put_mid}
use Rattle.json5_grammar.specs.Language.Characters.{Each, no_char, char}

pub copied : (a b x y z : List ℕ) → x ≡ a → y ≡ b → take (length a + length b) (put_mid (length a) (length a + length b - length a) (x ++ z) y) ≡ a ++ b
copied a b x y z e f =
    rw (e, f) (take-put_mid (length a) (length a + length b - length a) (a ++ z) b (length a + length b) refl (omega (arith, length-append a z)) ∙ ap (λ t. t ++ b) (take-append_seam a z))

-- more bytes are copied than count
pub copied_few : (bytes y : List ℕ) (n k : ℕ) → n ≤ length bytes → length y ≡ 16 → k ≤ 16 → take (n + k) (put_mid n (n + 16 - n) bytes y) ≡ take n bytes ++ take k y
copied_few bytes y n k h w f =
    sym (take-take (n + k) (n + 16) (put_mid n (n + 16 - n) bytes y) (omega (arith, f)))
    ∙ ap (take (n + k)) (take-put_mid n (n + 16 - n) bytes y (n + 16) (omega (arith, w)) h)
    ∙ ap (λ m. take (m + k) (take n bytes ++ y)) (sym (length-take-le n bytes h))
    ∙ take-append-add (take n bytes) y k

-- ---- what passes in whole passes in part

pub each_left : {p : ℕ → Bool} (a b : List ℕ) → Each p (a ++ b) → Each p a
each_left [] b e = no_char
each_left (c ∷ a) b (char h e) = char h (each_left a b e)

pub each_right : {p : ℕ → Bool} (a b : List ℕ) → Each p (a ++ b) → Each p b
each_right [] b e = e
each_right (c ∷ a) b (char h e) = each_right a b e
