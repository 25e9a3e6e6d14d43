-- A decimal's spelling, which is ASCII, in its pieces.
use Rattle.std.proofs.Common.{◌≡◌, ◌<◌, Result, ℕ, zero, suc, ◌-◌, List, [], ◌∷◌, ◌++◌, Bool, true, false, ◌&&◌, ◌||◌, nat_lt, nat_le, cond, length, take, drop, refl, ap, ◌∙◌, subst, arith}
use Rattle.std.specs.Prelude.{ℤ, pos, negsuc, ⊤}
use Rattle.std.specs.List.{list_all}
use Rattle.std.specs.Str.{IsAscii, chars}
use Rattle.std.specs.Fmt.{sign_text}
use Rattle.std.proofs.KnownBytes.{Appends-nil}
use Rattle.std.proofs.lemmas.Str.{chars-IsAscii}
use lib.Chars.{codes}
use Rattle.json5_grammar.specs.Language.Characters.{is_digit, Each, no_char, char}
use Rattle.json5_grammar.specs.Language.Numbers.{Decimal, infinite, nan, finite}
use Rattle.json5_grammar.specs.Written.NumberText.{zeros, pointed, digits_text, decimal_text, Normal}
use Rattle.json5_types.specs.DecimalPieces.{BeginsWithPiece}
use Rattle.json5_write.specs.Out.{piece, ◌then◌}
use Rattle.std.specs.Result.{IsErrAnd}
use Rattle.json5_write.specs.Writes.{SerializerState, Wrote, RefusesBy}
use Rattle.json5_write.specs.ShortWrites.{Puts, refusal_by}
use Rattle.json5_write.specs.declared.refusal.Refused.{Refused}
use Rattle.json5_write.proofs.OutputsJoined.{Reaches, Reaches-none, Reaches-next}
use Rattle.json5_write.proofs.ShortWritesJoined.{Reaches-stop}

pub first : (a b : Bool) → (a && b) ≡ true → a ≡ true
first true b e = refl
first false b e = absurd (cc)

pub second : (a b : Bool) → (a && b) ≡ true → b ≡ true
second true b e = e
second false b e = absurd (cc)

pub both : (a b : Bool) → a ≡ true → b ≡ true → (a && b) ≡ true
both a b e f = ap (λ x. x && b) e ∙ f

-- ---- letters, digits, points and minus

-- the characters of numbers: letters, digits, point and minus
abbrev pub is_spelling : ℕ → Bool
is_spelling c = (nat_le 45 c && nat_le c 57) || ((nat_le 65 c && nat_le c 90) || (nat_le 97 c && nat_le c 122))

abbrev pub is_spelled : List ℕ → Bool
is_spelled t = list_all is_spelling t

below : (c : ℕ) → is_spelling c ≡ true → c < 128
below c e = grind arith

pub IsAscii-text : (t : List ℕ) → is_spelled t ≡ true → IsAscii t
IsAscii-text [] e i = omega arith
IsAscii-text (c ∷ t) e zero = below c (first (is_spelling c) (is_spelled t) e)
IsAscii-text (c ∷ t) e (suc i) = IsAscii-text t (second (is_spelling c) (is_spelled t) e) i

pub ascii_chars : (t : List ℕ) → is_spelled t ≡ true → chars t ≡ t
ascii_chars t e = chars-IsAscii t (IsAscii-text t e)

ascii_join : (s t : List ℕ) → is_spelled s ≡ true → is_spelled t ≡ true → is_spelled (s ++ t) ≡ true
ascii_join [] t e f = f
ascii_join (c ∷ s) t e f = both (is_spelling c) (is_spelled (s ++ t)) (first (is_spelling c) (is_spelled s) e) (ascii_join s t (second (is_spelling c) (is_spelled s) e) f)

ascii_front : (s t : List ℕ) → is_spelled (s ++ t) ≡ true → is_spelled s ≡ true
ascii_front [] t e = refl
ascii_front (c ∷ s) t e = both (is_spelling c) (is_spelled s) (first (is_spelling c) (is_spelled (s ++ t)) e) (ascii_front s t (second (is_spelling c) (is_spelled (s ++ t)) e))

ascii_back : (s t : List ℕ) → is_spelled (s ++ t) ≡ true → is_spelled t ≡ true
ascii_back [] t e = e
ascii_back (c ∷ s) t e = ascii_back s t (second (is_spelling c) (is_spelled (s ++ t)) e)

ascii_zeros : (n : ℕ) → is_spelled (zeros n) ≡ true
ascii_zeros zero = refl
ascii_zeros (suc n) = ascii_zeros n

ascii_digits : {t : List ℕ} → Each is_digit t → is_spelled t ≡ true
ascii_digits no_char = refl
ascii_digits (char {c} {s} d e) =
    let low : nat_le 48 c ≡ true = first (nat_le 48 c) (nat_le c 57) d in
    let high : nat_le c 57 ≡ true = second (nat_le 48 c) (nat_le c 57) d in
    let l : is_spelling c ≡ true = grind arith in
    both (is_spelling c) (is_spelled s) l (ascii_digits e)

ascii_take : (t : List ℕ) (n : ℕ) → is_spelled t ≡ true → is_spelled (take n t) ≡ true
ascii_take t zero e = refl
ascii_take [] (suc n) e = refl
ascii_take (c ∷ t) (suc n) e = both (is_spelling c) (is_spelled (take n t)) (first (is_spelling c) (is_spelled t) e) (ascii_take t n (second (is_spelling c) (is_spelled t) e))

ascii_drop : (t : List ℕ) (n : ℕ) → is_spelled t ≡ true → is_spelled (drop n t) ≡ true
ascii_drop t zero e = e
ascii_drop [] (suc n) e = refl
ascii_drop (c ∷ t) (suc n) e = ascii_drop t n (second (is_spelling c) (is_spelled t) e)

by_bool : (b : Bool) (s t : List ℕ) → is_spelled s ≡ true → is_spelled t ≡ true → is_spelled (cond b s t) ≡ true
by_bool true s t e f = e
by_bool false s t e f = f

ascii_pointed : (ds : List ℕ) (j : ℕ) → is_spelled ds ≡ true → is_spelled (pointed ds j) ≡ true
ascii_pointed ds j e =
    by_bool (nat_lt j (length ds)) (take (length ds - j) ds ++ 46 ∷ drop (length ds - j) ds) (48 ∷ 46 ∷ (zeros (j - length ds) ++ ds))
    (ascii_join (take (length ds - j) ds) (46 ∷ drop (length ds - j) ds) (ascii_take ds (length ds - j) e) (ascii_drop ds (length ds - j) e))
    (ascii_join (zeros (j - length ds)) ds (ascii_zeros (j - length ds)) e)

ascii_finite : (ds : List ℕ) (e : ℤ) → is_spelled ds ≡ true → is_spelled (digits_text ds e) ≡ true
ascii_finite [] e h = refl
ascii_finite (d ∷ ds) (pos k) h = ascii_join ((d ∷ ds) ++ zeros k) (codes ".0") (ascii_join (d ∷ ds) (zeros k) h (ascii_zeros k)) refl
ascii_finite (d ∷ ds) (negsuc k) h = ascii_pointed (d ∷ ds) (suc k) h

ascii_sign : (m : Bool) (t : List ℕ) → is_spelled t ≡ true → is_spelled (sign_text m ++ t) ≡ true
ascii_sign true t e = e
ascii_sign false t e = e

pub ascii_decimal : (d : Decimal) → Normal d → is_spelled (decimal_text d) ≡ true
ascii_decimal (infinite m) n = ascii_sign m (codes "Infinity") refl
ascii_decimal (nan m) n = ascii_sign m (codes "NaN") refl
ascii_decimal (finite m ds e) n = ascii_sign m (digits_text ds e) (ascii_finite ds e (ascii_digits n.digits))

-- ---- something is written

some_by : (b : Bool) (s t : List ℕ) → 0 < length s → 0 < length t → 0 < length (cond b s t)
some_by true s t h k = h
some_by false s t h k = k

some_after : (s t : List ℕ) → 0 < length t → 0 < length (s ++ t)
some_after [] t h = h
some_after (c ∷ s) t h = omega arith

some_finite : (ds : List ℕ) (e : ℤ) → 0 < length (digits_text ds e)
some_finite [] e = omega arith
some_finite (d ∷ ds) (pos k) = omega arith
some_finite (d ∷ ds) (negsuc k) = some_by (nat_lt (suc k) (length (d ∷ ds))) (take (length (d ∷ ds) - suc k) (d ∷ ds) ++ 46 ∷ drop (length (d ∷ ds) - suc k) (d ∷ ds)) (48 ∷ 46 ∷ (zeros (suc k - length (d ∷ ds)) ++ (d ∷ ds))) (some_after (take (length (d ∷ ds) - suc k) (d ∷ ds)) (46 ∷ drop (length (d ∷ ds) - suc k) (d ∷ ds)) (omega arith)) (omega arith)

pub some_decimal : (d : Decimal) → 0 < length (decimal_text d)
some_decimal (infinite m) = some_after (sign_text m) (codes "Infinity") (omega arith)
some_decimal (nan m) = some_after (sign_text m) (codes "NaN") (omega arith)
some_decimal (finite m ds e) = some_after (sign_text m) (digits_text ds e) (some_finite ds e)

-- ---- the pieces in a row

-- what is left of a decimal's spelling; if a part of it is gone, something was written
pub record IsLeft (d : Decimal) (o m : SerializerState) (rest : List ℕ) : Type 0 where
  pub reaches : Reaches (piece (decimal_text d)) o m (piece rest)
  pub ascii : is_spelled rest ≡ true
  pub started : length rest < length (decimal_text d) → m.failed ≡ false

pub left_all : (d : Decimal) (o : SerializerState) (all : List ℕ) → Normal d → all ≡ decimal_text d → IsLeft d o o all
left_all d o all n e = rw e (record { reaches = Reaches-none (piece (decimal_text d)) o; ascii = ascii_decimal d n; started = λ h. absurd (omega (arith, h)) })

-- a piece that consists of its characters
piece_escape_free : (rest p after : List ℕ) → is_spelled rest ≡ true → BeginsWithPiece rest p after → chars p ≡ p
piece_escape_free rest p after a f = ascii_chars p (ascii_front p after (subst (λ t. is_spelled t ≡ true) f.parts a))

parted : (d : Decimal) (o m : SerializerState) (rest p after : List ℕ) → IsLeft d o m rest → BeginsWithPiece rest p after → Reaches (piece (decimal_text d)) o m (piece p then piece after)
parted d o m rest p after h f = subst (λ t. Reaches (piece (decimal_text d)) o m (piece t)) f.parts h.reaches

pub left_next : (d : Decimal) (o m n : SerializerState) (rest p after : List ℕ) → IsLeft d o m rest → BeginsWithPiece rest p after → Wrote (piece (chars p)) m n → IsLeft d o n after
left_next d o m n rest p after h f w =
    let wrote : Wrote (piece p) m n = subst (λ t. Wrote (piece t) m n) (piece_escape_free rest p after h.ascii f) w in
    record {
      reaches = Reaches-next (piece (decimal_text d)) (piece p) (piece after) o m n (parted d o m rest p after h f) wrote;
      ascii = ascii_back p after (subst (λ t. is_spelled t ≡ true) f.parts h.ascii);
      started = λ _. wrote.failed;
    }

pub left_stop : (d : Decimal) (o m n : SerializerState) (rest p after : List ℕ) (r : Refused) (x : Result ⊤ Refused) → IsLeft d o m rest → BeginsWithPiece rest p after → IsErrAnd x (λ y. y ≡ r) → RefusesBy (piece (chars p)) m (refusal_by r) n → Puts (piece (decimal_text d)) o x n
left_stop d o m n rest p after r x h f q w =
    Reaches-stop (piece (decimal_text d)) (piece p) (piece after) o m n r x (parted d o m rest p after h f) q (subst (λ t. RefusesBy (piece t) m (refusal_by r) n) (piece_escape_free rest p after h.ascii f) w)

pub left_none : (d : Decimal) (o m : SerializerState) (rest : List ℕ) → IsLeft d o m rest → rest ≡ [] → Wrote (piece (decimal_text d)) o m
left_none d o m rest h e =
    let none : Reaches (piece (decimal_text d)) o m (piece []) = subst (λ t. Reaches (piece (decimal_text d)) o m (piece t)) e h.reaches in
    let ready : m.failed ≡ false = h.started (rw e (some_decimal d)) in
    none.wrote m (record { was = ready; stop = refl; chars = refl; bytes = Appends-nil m.known; depth = refl; limit = refl; failed = ready })
