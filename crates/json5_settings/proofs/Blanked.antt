-- Blanks that come in place of characters.
use Rattle.std.proofs.Common.{◌≡◌, ◌≤◌, ◌∙◌, ◌-◌, ◌++◌, ◌∷◌, [], ℕ, List, length, take, drop, ap, sym, subst, arith, append_assoc, append-nil, IsUtf8}
use Rattle.std.specs.Prelude.{map, slice_range}
use Rattle.std.specs.Char.{encode_utf8}
use Rattle.std.specs.Str.{chars, encode_utf8_all}
use Rattle.std.proofs.lemmas.List.{take_all, length-drop}
use Rattle.std.proofs.lemmas.Str.{IsUtf8-past_char, chars_past_char, chars-nil}
use Rattle.json5_settings.specs.AllFaults.{IsBlanked, blank}

-- the characters of this text, blank
abbrev pub blanks_of : List ℕ → List ℕ
blanks_of part = encode_utf8_all (map blank (chars part))

-- so much was made, and blanks for the rest of the part come behind it
abbrev pub Blanks : (front part rest made : List ℕ) → Type 0
Blanks front part rest made = IsUtf8 rest × (front ++ blanks_of part ≡ made ++ blanks_of rest)

pub blanks_start : (front part rest made : List ℕ) → IsUtf8 part → rest ≡ part → made ≡ front → Blanks front part rest made
blanks_start front part rest made utf8 same is = (subst IsUtf8 (sym same) utf8, ap (λ z. z ++ blanks_of part) (sym is) ∙ ap (λ z. made ++ blanks_of z) (sym same))

pub blanks_more : (front part rest next made new : List ℕ) (c d : ℕ) → rest ≡ encode_utf8 c ++ next → d ≡ blank c → new ≡ made ++ encode_utf8 d → Blanks front part rest made → Blanks front part next new
blanks_more front part rest next made new c d split is grown (utf8, so) = (
  IsUtf8-past_char rest next c utf8 split,
  so ∙ ap (λ z. made ++ encode_utf8_all (map blank z)) (chars_past_char rest next c utf8 split) ∙ sym (append_assoc made (encode_utf8 (blank c)) (blanks_of next))
      ∙ ap (λ z. z ++ blanks_of next) (sym (grown ∙ ap (λ z. made ++ encode_utf8 z) is)),
)

blanks_none : (rest : List ℕ) → length rest ≡ 0 → blanks_of rest ≡ []
blanks_none [] e = ap (λ z. encode_utf8_all (map blank z)) chars-nil
blanks_none (c ∷ s) e = absurd (omega (arith, e))

whole_end : (text : List ℕ) (till : ℕ) → slice_range text till (length text) ≡ drop till text
whole_end text till = take_all (length text - till) (drop till text) (short till text)
  where
    short : (n : ℕ) (s : List ℕ) → length (drop n s) ≤ length s - n
    short n s = omega (arith, length-drop n s)

pub blanks_all : (text front part rest left made new : List ℕ) (from till : ℕ) → front ≡ slice_range text 0 from → part ≡ slice_range text from till → rest ≡ slice_range text till (length text)
    → length left ≡ 0 → Blanks front part left made → new ≡ made ++ rest → IsBlanked text from till new
blanks_all text front part rest left made new from till f p r none (utf8, so) e =
    let begun : front ≡ take from text = f ∙ ap (λ k. take k text) (omega arith) in
    let done : front ++ blanks_of part ≡ made = so ∙ ap (λ z. made ++ z) (blanks_none left none) ∙ append-nil made in
    let rest_is : rest ≡ drop till text = r ∙ whole_end text till in
    e ∙ ap (λ z. z ++ rest) (sym done) ∙ append_assoc front (blanks_of part) rest
    ∙ ap (λ z. z ++ (blanks_of part ++ rest)) begun ∙ ap (λ z. take from text ++ (blanks_of z ++ rest)) p
    ∙ ap (λ z. take from text ++ (blanks_of (slice_range text from till) ++ z)) rest_is
