-- Hexadecimal digits are read as they are spelled.
use Rattle.std.proofs.Common.{◌≡◌, ℕ, zero, suc, ◌+◌, ◌*◌, ◌<◌, true, false, List, [], ◌∷◌, ◌++◌, length, refl, ap, sym, ◌∙◌, arith, subst, Option, Some}
use Rattle.std.specs.Char.{digit_value}
use Rattle.json5_grammar.specs.Language.Characters.{is_hex_digit, Each, no_char, char}
use Rattle.json5_grammar.specs.Language.Strings.{Hex4, hex4}
use Rattle.json5_grammar.specs.Faults.Codes.{ErrorCode, EofParsingEscapeSequence, InvalidEscapeSequence}
use Rattle.json5_grammar.specs.Model.Reading.{Place, here, inner, Read, got, bad}
use Rattle.json5_grammar.specs.Model.ReadTexts.{hex}
use Rattle.json5_grammar.proofs.CommonLemmas.{by_test}

-- the value of digits after those of n
abbrev pub spelled : ℕ → List ℕ → ℕ
spelled n [] = n
spelled n (c ∷ s) = spelled (n * 16 + digit_value c) s

-- ---- complete

pub hex_read : (k n : ℕ) (h b r : List ℕ) → Each is_hex_digit h → length h ≡ k → hex k n b (h ++ r) ≡ got (spelled n h) r
unfolding hex
hex_read zero n [] b r no_char l = refl
hex_read zero n (c ∷ h) b r (char x e) l = absurd (omega arith)
hex_read (suc k) n [] b r no_char l = absurd (omega arith)
hex_read (suc k) n (c ∷ h) b r (char x e) l = rw x (hex_read k (n * 16 + digit_value c) h b r e (omega arith))

pub hex_refused : (k n : ℕ) (d b : List ℕ) (c : ℕ) (r : List ℕ) → Each is_hex_digit d → length d < k → is_hex_digit c ≡ false → hex k n b (d ++ c ∷ r) ≡ bad (Some InvalidEscapeSequence) (here b)
unfolding hex
hex_refused zero n d b c r e l h = absurd (omega arith)
hex_refused (suc k) n [] b c r no_char l h = rw h refl
hex_refused (suc k) n (a ∷ d) b c r (char x e) l h = rw x (hex_refused k (n * 16 + digit_value a) d b c r e (omega arith) h)

pub hex_cut : (k n : ℕ) (d b : List ℕ) → Each is_hex_digit d → length d < k → hex k n b d ≡ bad (Some EofParsingEscapeSequence) inner
unfolding hex
hex_cut zero n d b e l = absurd (omega arith)
hex_cut (suc k) n [] b no_char l = refl
hex_cut (suc k) n (a ∷ d) b (char x e) l = rw x (hex_cut k (n * 16 + digit_value a) d b e (omega arith))

first_digit : (a : ℕ) → 0 * 16 + a ≡ a
first_digit a = omega arith

pub hex4_read : {h : List ℕ} {n : ℕ} (b r : List ℕ) → Hex4 h n → hex 4 0 b (h ++ r) ≡ got n r
hex4_read b r (hex4 {a = x} {b = y} {c = z} {d = w} e) =
    hex_read 4 0 (x ∷ y ∷ z ∷ w ∷ []) b r e refl
    ∙ ap (λ v. got (((v * 16 + digit_value y) * 16 + digit_value z) * 16 + digit_value w) r) (first_digit (digit_value x))

pub hex2_read : (x y : ℕ) (b r : List ℕ) → Each is_hex_digit (x ∷ y ∷ []) → hex 2 0 b (x ∷ y ∷ r) ≡ got (digit_value x * 16 + digit_value y) r
hex2_read x y b r e =
    hex_read 2 0 (x ∷ y ∷ []) b r e refl
    ∙ ap (λ v. got (v * 16 + digit_value y) r) (first_digit (digit_value x))

-- ---- sound

-- x doesn't begin with k digits; b is what the place is set to
pub data HexFault (k : ℕ) (b : List ℕ) : List ℕ → Option ErrorCode → Place → Type 0 where
  wrong : {d : List ℕ} (c : ℕ) (r : List ℕ) → Each is_hex_digit d → length d < k → is_hex_digit c ≡ false → HexFault k b (d ++ c ∷ r) (Some InvalidEscapeSequence) (here b)
  cut : {d : List ℕ} → Each is_hex_digit d → length d < k → HexFault k b d (Some EofParsingEscapeSequence) inner

abbrev pub HexSound : ℕ → ℕ → List ℕ → List ℕ → Read ℕ → Type 0
HexSound k n b x (got m r) = (h : List ℕ) × (x ≡ h ++ r) × Each is_hex_digit h × (length h ≡ k) × (m ≡ spelled n h)
HexSound k n b x (bad e p) = HexFault k b x e p

fault_more : {k : ℕ} {b x : List ℕ} {e : Option ErrorCode} {p : Place} (c : ℕ) → is_hex_digit c ≡ true → HexFault k b x e p → HexFault (suc k) b (c ∷ x) e p
fault_more c h (wrong a r i l n) = wrong a r (char h i) (omega arith) n
fault_more c h (cut i l) = cut (char h i) (omega arith)

hex_more : (k n c : ℕ) (b x : List ℕ) (res : Read ℕ) → is_hex_digit c ≡ true → HexSound k (n * 16 + digit_value c) b x res → HexSound (suc k) n b (c ∷ x) res
hex_more k n c b x (got m r) h (d, e, i, l, v) = (c ∷ d, ap (λ z. c ∷ z) e, char h i, ap suc l, v)
hex_more k n c b x (bad e p) h f = fault_more c h f

pub hex_sound : (k n : ℕ) (b x : List ℕ) → HexSound k n b x (hex k n b x)
unfolding hex
hex_sound zero n b x = ([], refl, no_char, refl, refl)
hex_sound (suc k) n b [] = cut no_char (omega arith)
hex_sound (suc k) n b (c ∷ r) =
    by_test (HexSound (suc k) n b (c ∷ r)) (is_hex_digit c) (hex k (n * 16 + digit_value c) b r) (bad (Some InvalidEscapeSequence) (here b))
    (λ h. hex_more k n c b r (hex k (n * 16 + digit_value c) b r) h (hex_sound k (n * 16 + digit_value c) b r))
    (λ h. wrong c r no_char (omega arith) h)

four : (h : List ℕ) → Each is_hex_digit h → length h ≡ 4 → Hex4 h (spelled 0 h)
four [] e l = absurd (omega arith)
four (x ∷ []) e l = absurd (omega arith)
four (x ∷ y ∷ []) e l = absurd (omega arith)
four (x ∷ y ∷ z ∷ []) e l = absurd (omega arith)
four (x ∷ y ∷ z ∷ w ∷ []) e l =
    subst (λ v. Hex4 (x ∷ y ∷ z ∷ w ∷ []) (((v * 16 + digit_value y) * 16 + digit_value z) * 16 + digit_value w)) (sym (first_digit (digit_value x))) (hex4 e)
four (x ∷ y ∷ z ∷ w ∷ a ∷ h) e l = absurd (omega arith)

abbrev pub Hex4Sound : List ℕ → List ℕ → Read ℕ → Type 0
Hex4Sound b x (got m r) = (h : List ℕ) × (x ≡ h ++ r) × Hex4 h m
Hex4Sound b x (bad e p) = HexFault 4 b x e p

by_four : (b x : List ℕ) (res : Read ℕ) → HexSound 4 0 b x res → Hex4Sound b x res
by_four b x (got m r) (h, e, i, l, v) = (h, e, subst (Hex4 h) (sym v) (four h i l))
by_four b x (bad e p) k = k

pub hex4_sound : (b x : List ℕ) → Hex4Sound b x (hex 4 0 b x)
hex4_sound b x = by_four b x (hex 4 0 b x) (hex_sound 4 0 b x)

abbrev pub Hex2Sound : List ℕ → List ℕ → Read ℕ → Type 0
Hex2Sound b x (got m r) = (c : ℕ) × (d : ℕ) × (x ≡ c ∷ d ∷ r) × Each is_hex_digit (c ∷ d ∷ []) × (m ≡ digit_value c * 16 + digit_value d)
Hex2Sound b x (bad e p) = HexFault 2 b x e p

two : (h x r : List ℕ) (m : ℕ) → x ≡ h ++ r → Each is_hex_digit h → length h ≡ 2 → m ≡ spelled 0 h → (c : ℕ) × (d : ℕ) × (x ≡ c ∷ d ∷ r) × Each is_hex_digit (c ∷ d ∷ []) × (m ≡ digit_value c * 16 + digit_value d)
two [] x r m e i l v = absurd (omega arith)
two (c ∷ []) x r m e i l v = absurd (omega arith)
two (c ∷ d ∷ []) x r m e i l v = (c, d, e, i, v ∙ ap (λ z. z * 16 + digit_value d) (first_digit (digit_value c)))
two (c ∷ d ∷ a ∷ h) x r m e i l v = absurd (omega arith)

by_two : (b x : List ℕ) (res : Read ℕ) → HexSound 2 0 b x res → Hex2Sound b x res
by_two b x (got m r) (h, e, i, l, v) = two h x r m e i l v
by_two b x (bad e p) k = k

pub hex2_sound : (b x : List ℕ) → Hex2Sound b x (hex 2 0 b x)
hex2_sound b x = by_two b x (hex 2 0 b x) (hex_sound 2 0 b x)
