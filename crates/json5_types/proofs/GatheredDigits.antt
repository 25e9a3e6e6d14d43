-- One digit more of a text is gathered.
use Rattle.std.proofs.Common.{drop, subst, ◌≡◌, ℕ, zero, suc, ◌<◌, ◌+◌, false, refl, List, [], ◌∷◌, ◌++◌, length, take, ap, sym, ◌∙◌, arith}
use Rattle.std.specs.Prelude.{◌==◌, get_or}
use Rattle.std.proofs.Math.Seq.{take-suc}
use Rattle.std.proofs.lemmas.List.{append_assoc}
use Rattle.json5_grammar.specs.Language.Numbers.{without_front_zeros}
use Rattle.std.specs.List.{prefix_len}
use Rattle.json5_grammar.specs.Language.Characters.{is_digit, Each}
use Rattle.std.specs.Str.{chars, IsUtf8}
use Rattle.json5_grammar.proofs.CharacterTests.{front_each}
use Rattle.json5_types.specs.DigitRuns.{Gathers, SplitsDigits}
use Rattle.json5_types.proofs.AsciiRuns.{counted, digit_is_ascii, front_cut, rest_cut, rest_utf8, front_chars, rest_chars}
use Rattle.json5_types.proofs.NumberZeros.{front_zero, front_first, front_next, front_none, front_some}

take-next : (text : List ℕ) (i : ℕ) → i < length text → take (i + 1) text ≡ take i text ++ (get_or text i 0 ∷ [])
take-next text i h = ap (λ n. take n text) (let e : i + 1 ≡ suc i = omega arith in e) ∙ take-suc text i 0 h

one_more : (seen text : List ℕ) (i : ℕ) → i < length text → (seen ++ take i text) ++ (get_or text i 0 ∷ []) ≡ seen ++ take (i + 1) text
one_more seen text i h = append_assoc seen (take i text) (get_or text i 0 ∷ []) ∙ ap (λ z. seen ++ z) (sym (take-next text i h))

-- a zero in front of all digits
pub gathers_zero : (old text w : List ℕ) (i : ℕ) → i < length text → w ≡ [] → get_or text i 0 ≡ 48 → Gathers old w (take i text) → Gathers old w (take (i + 1) text)
gathers_zero old text w i h n z g seen e = front_zero w (seen ++ take i text) (get_or text i 0) (g seen e) n z ∙ ap without_front_zeros (one_more seen text i h)

-- the first other digit
pub gathers_first : (old text w : List ℕ) (i : ℕ) → i < length text → w ≡ [] → (get_or text i 0 == 48) ≡ false → Gathers old w (take i text) → Gathers old (w ++ (get_or text i 0 ∷ [])) (take (i + 1) text)
gathers_first old text w i h n z g seen e = front_first w (seen ++ take i text) (get_or text i 0) (g seen e) n z ∙ ap without_front_zeros (one_more seen text i h)

-- a digit after others
pub gathers_next : (old text w : List ℕ) (i : ℕ) → i < length text → 0 < length w → Gathers old w (take i text) → Gathers old (w ++ (get_or text i 0 ∷ [])) (take (i + 1) text)
gathers_next old text w i h n g seen e = front_next w (seen ++ take i text) (get_or text i 0) (g seen e) n ∙ ap without_front_zeros (one_more seen text i h)

-- digits that begin with no zero, or come after others
solid : (s : List ℕ) → (get_or s 0 0 == 48) ≡ false → without_front_zeros s ≡ s
solid [] h = refl
solid (c ∷ s) h = rw h refl

pub first_taken : (n : ℕ) (s : List ℕ) → (get_or s 0 0 == 48) ≡ false → (get_or (take n s) 0 0 == 48) ≡ false
first_taken zero s h = refl
first_taken (suc n) [] h = refl
first_taken (suc n) (c ∷ s) h = h

pub gathers_solid : (old more : List ℕ) → (length old ≡ 0 → (get_or more 0 0 == 48) ≡ false) → Gathers old (old ++ more) more
gathers_solid [] more h seen e = sym (solid more (h refl)) ∙ ap (λ w. w ++ without_front_zeros more) e ∙ front_none seen more (ap length (sym e))
gathers_solid (c ∷ old) more h seen e = ap (λ w. w ++ more) e ∙ front_some seen more (subst (λ w. 0 < length w) e (omega arith))

-- the text is split after the digits in front
pub splits : (text : List ℕ) (n : ℕ) (front back : List ℕ) → IsUtf8 text → n ≡ prefix_len is_digit text → front ≡ take n text → back ≡ drop n text → SplitsDigits text front back
splits text n front back u k f b =
    let e = f ∙ front_cut is_digit text n (counted is_digit text n k) in
    let r = b ∙ rest_cut is_digit text n (counted is_digit text n k) in
    record {
      front = e ∙ front_chars is_digit text digit_is_ascii u;
      digits = subst (Each is_digit) (sym e) (front_each is_digit text);
      rest = ap chars r ∙ rest_chars is_digit text digit_is_ascii u;
      front_bytes = e;
      rest_bytes = r;
      text = subst IsUtf8 (sym r) (rest_utf8 is_digit text digit_is_ascii u);
    }
