-- What is read is a number, and a fault is one of the table.
use Rattle.std.proofs.Common.{◌≡◌, ℕ, ◌+◌, ◌*◌, ◌^◌, ◌<◌, ◌≤◌, Bool, true, false, ◌||◌, List, [], ◌∷◌, ◌++◌, refl, ap, sym, ◌∙◌, append_assoc, arith, ◌≢◌, inl, inr, subst, Option, Some, None}
use Rattle.std.specs.Prelude.{◌==◌, ℤ, pos, nat_le, nat_lt}
use Rattle.std.specs.Char.{digit_value}
use Rattle.std.proofs.lemmas.Bool.Decides.{nat_tests}
use Rattle.std.proofs.lemmas.Int.{ints}
use lib.Chars.{codes}
use Rattle.json5_grammar.specs.Language.Characters.{is_digit, is_hex_digit, NotBegun, Begun, Each, no_char, char}
use Rattle.json5_grammar.specs.Language.Numbers.{Sign, no_sign, plus, minus, signed, spelled, integer, lone_zero, no_exponent, Literal, literal, Number, whole, decimal, infinite, nan, finite, Num, is_infinite, is_nan, is_hexadecimal, is_integer, is_decimal, hex_start, InWhole, IsWholeLiteral, all_digits, without_zeros, exponent_of, in_run, begins_run, after_zero, lengthens_body, lengthens}
use Rattle.json5_grammar.specs.Faults.Codes.{ErrorCode, Shown, by_char, by_end, ExpectedNumber, EofParsingNumber, OverflowParsingNumber, LeadingZero}
use Rattle.json5_grammar.specs.Faults.Tokens.{is_sign, begins_number, NumberWord, DecimalRun, run, zero_run, RunEnd, run_at_end, run_at_char, NumberFault, number_word_differs, number_word_ends, sign_without_number, sign_ends, no_hexadecimal_digit, hexadecimal_ends, hexadecimal_overflows, negative_too_large, not_a_literal, literal_overflows, leading_zero}
use Rattle.json5_grammar.specs.Model.Reading.{Place, Read, got, bad, here, inner, word_at}
use Rattle.json5_grammar.specs.Model.ReadNumbers.{Parts, front_of, rest_of, literal_at, in_exponents, is_whole, judged, if_literal, decimal_run, at_zero, hex_judged, hexadecimal, hex_digits, unsigned, number}
use Rattle.json5_grammar.proofs.CommonLemmas.{by_test, eq_from, neq_from, rest_same, cons_not_nil, lt_from, le_from}
use Rattle.json5_grammar.proofs.CharacterTests.{in_whole_yes, in_whole_true, in_exponents_yes, begins_run_in_run, dot_or_e_in_run, front_each, rest_stops, front_rest}
use Rattle.json5_grammar.proofs.DecimalLiterals.{literal_found, literal_is, LiteralIs, literal_head, Longer, zero_more, begun}
use Rattle.json5_grammar.proofs.WordsRead.{WordIs, word_is}
use Rattle.json5_grammar.proofs.NumbersRead.{number_bare, lengthens_bare, lengthens_longer, lengthens_hex, stops_same, signed_zero, run_read, Bare, bare, longer_bare, head_bare, complete}

-- in the input x, pl is what comes before the place
abbrev pub PlaceIs : List ℕ → Place → Option (List ℕ) → Type 0
PlaceIs x (here q) pl = (b : List ℕ) × (pl ≡ Some b) × (x ≡ b ++ q)
PlaceIs x inner pl = pl ≡ None

-- the text begins with a number that has this fault
pub record Faulted (x : List ℕ) (e : Option ErrorCode) (p : Place) : Type 0 where
  pub place : Option (List ℕ)
  pub is_place : PlaceIs x p place
  pub part : List ℕ
  pub shown : Shown
  pub fault : NumberFault x e place part shown

abbrev pub SoundNumber : List ℕ → Read Number → Type 0
SoundNumber x (got n r) = (s : List ℕ) × (x ≡ s ++ r) × Num s n × NotBegun (lengthens s) r
SoundNumber x (bad e p) = Faulted x e p

stops_none : (p : ℕ → Bool) → ((d : ℕ) → p d ≡ false) → (r : List ℕ) → NotBegun p r
stops_none p f [] = tt
stops_none p f (d ∷ r) = f d

-- ---- words

word_sound : {s : List ℕ} {m : Bool} (k : ℕ) (ks : List ℕ) (n : Number) (r : List ℕ) (res : Read Number) → Sign s m → NumberWord (k ∷ ks) → Num (s ++ k ∷ ks) n → ((y : List ℕ) → NotBegun (lengthens (s ++ k ∷ ks)) y)
    → WordIs EofParsingNumber ExpectedNumber n ks r res → SoundNumber (s ++ k ∷ r) res
word_sound {s = s} k ks n r (got i y) g w a st (e, f) = (s ++ k ∷ ks, ap (λ z. s ++ k ∷ z) f ∙ sym (append_assoc s (k ∷ ks) y), rw e a, st y)
word_sound {s = s} k ks n r (bad e p) g w a st (inl (v, d, q, c, y, i, j, t, u, l)) =
    rw (u, l) (subst (λ z. Faulted (s ++ k ∷ z) (Some ExpectedNumber) (here (c ∷ y))) (sym j) (record {
      place = Some (s ++ k ∷ v);
      is_place = (s ++ k ∷ v, refl, sym (append_assoc s (k ∷ v) (c ∷ y)));
      part = s ++ ((k ∷ v) ++ c ∷ []);
      shown = by_char;
      fault = number_word_differs y (k ∷ ks) (k ∷ v) s d c w g (q, ap (λ z. k ∷ z) i) (cons_not_nil k v) t;
    }))
word_sound {s = s} k ks n r (bad e p) g w a st (inr (d, q, i, u, l)) =
    rw (u, l) (record { place = None; is_place = refl; part = s ++ k ∷ r; shown = by_end; fault = number_word_ends (k ∷ ks) (k ∷ r) s d w g (q, ap (λ z. k ∷ z) i) (cons_not_nil k r) })

-- ---- what shows a fault after a run

pub record Followed (p : ℕ → Bool) (r : List ℕ) : Type 0 where
  pub text : List ℕ
  pub shown : Shown
  pub after : RunEnd p r text shown

pub followed : (p : ℕ → Bool) (r : List ℕ) → NotBegun p r → Followed p r
followed p [] h = record { text = []; shown = by_end; after = run_at_end }
followed p (c ∷ r) h = record { text = c ∷ []; shown = by_char; after = run_at_char r h }

-- ---- hexadecimal numbers

abbrev HexIs : ℕ → List ℕ → Read ℕ → Type 0
HexIs n y (got v r) = (h : List ℕ) × (y ≡ h ++ r) × Each is_hex_digit h × (v ≡ spelled 16 n h) × NotBegun is_hex_digit r × (v < 2 ^ 128)
HexIs n y (bad e p) = (h : List ℕ) × (c : ℕ) × (r : List ℕ) × (y ≡ h ++ c ∷ r) × Each is_hex_digit h × (is_hex_digit c ≡ true) × (spelled 16 n h < 2 ^ 128) × (2 ^ 128 ≤ spelled 16 n (h ++ c ∷ [])) × (e ≡ Some OverflowParsingNumber) × (p ≡ here (c ∷ r))

hex_more : (n c : ℕ) (y : List ℕ) (res : Read ℕ) → is_hex_digit c ≡ true → HexIs (n * 16 + digit_value c) y res → HexIs n (c ∷ y) res
hex_more n c y (got v r) k (h, e, a, b, st, l) = (c ∷ h, ap (λ z. c ∷ z) e, char k a, b, st, l)
hex_more n c y (bad e p) k (h, d, r, f, a, b, l, g, i, j) = (c ∷ h, d, r, ap (λ z. c ∷ z) f, char k a, b, l, g, i, j)

hex_is : (n : ℕ) (y : List ℕ) → n < 2 ^ 128 → HexIs n y (hex_digits n y)
unfolding hex_digits
hex_is n [] l = ([], refl, no_char, refl, tt, l)
hex_is n (c ∷ y) l =
    by_test (HexIs n (c ∷ y)) (is_hex_digit c) _ (got n (c ∷ y))
    (λ h. by_test (HexIs n (c ∷ y)) (nat_lt (n * 16 + digit_value c) (2 ^ 128)) (hex_digits (n * 16 + digit_value c) y) (bad (Some OverflowParsingNumber) (here (c ∷ y)))
    (λ k. hex_more n c y (hex_digits (n * 16 + digit_value c) y) h (hex_is (n * 16 + digit_value c) y (lt_from (n * 16 + digit_value c) (2 ^ 128) k)))
    (λ k. ([], c, y, refl, no_char, h, l, le_from (n * 16 + digit_value c) (2 ^ 128) k, refl, refl)))
    (λ h. ([], refl, no_char, refl, h, l))

pub true_not_false : {b : Bool} {A : Type 0} → b ≡ true → b ≡ false → A
true_not_false h k = cc

in_whole_signed : (m : Bool) (n : ℕ) → n < 2 ^ 128 → ((m ≡ true) → n ≤ 2 ^ 127) → InWhole (signed m n)
in_whole_signed false n l h = (omega (arith, ints), omega (arith, ints))
in_whole_signed true n l h = let k = h refl in (omega (arith, ints), omega (arith, ints))

le_yes : (a b : ℕ) → nat_le a b ≡ true → a ≤ b
le_yes a b h = grind (arith, nat_tests)

le_no : (a b : ℕ) → nat_le a b ≡ false → b < a
le_no a b h = grind (arith, nat_tests)

-- the digits h are there
hex_number : {s h r : List ℕ} {m : Bool} (x : ℕ) → Sign s m → hex_start x ≡ true → h ≢ [] → Each is_hex_digit h → InWhole (signed m (spelled 16 0 h)) → NotBegun is_hex_digit r
    → SoundNumber (s ++ 48 ∷ x ∷ (h ++ r)) (got (whole (signed m (spelled 16 0 h))) r)
hex_number x g k n no_char b st = absurd (n refl)
hex_number {s = s} {r = r} x g k n (char {c = d} {s = h} a e) b st =
    (s ++ 48 ∷ x ∷ d ∷ h, sym (append_assoc s (48 ∷ x ∷ d ∷ h) r), is_hexadecimal x g k (char a e) b, stops_same is_hex_digit (lengthens (s ++ 48 ∷ x ∷ d ∷ h)) (λ c. sym (lengthens_bare g (bare refl) c ∙ lengthens_hex x (d ∷ h) c k)) r st)

hex_got : {s h : List ℕ} {m : Bool} (r : List ℕ) (x : ℕ) → Sign s m → hex_start x ≡ true → h ≢ [] → Each is_hex_digit h → spelled 16 0 h < 2 ^ 128 → NotBegun is_hex_digit r
    → SoundNumber (s ++ 48 ∷ x ∷ (h ++ r)) (hex_judged (s ++ 48 ∷ x ∷ (h ++ r)) m (got (spelled 16 0 h) r))
hex_got {h = h} r x no_sign k n e l st = hex_number x no_sign k n e (in_whole_signed false (spelled 16 0 h) l (λ f. cc)) st
hex_got {h = h} r x plus k n e l st = hex_number x plus k n e (in_whole_signed false (spelled 16 0 h) l (λ f. cc)) st
hex_got {h = h} r x minus k n e l st =
    by_test (SoundNumber (45 ∷ 48 ∷ x ∷ (h ++ r))) (nat_le (spelled 16 0 h) (2 ^ 127)) (got (whole (signed true (spelled 16 0 h))) r) (bad None (here (45 ∷ 48 ∷ x ∷ (h ++ r))))
    (λ a. hex_number x minus k n e (in_whole_signed true (spelled 16 0 h) l (λ f. le_yes (spelled 16 0 h) (2 ^ 127) a)) st)
    (λ a. let f = followed is_hex_digit r st in
    record { place = Some []; is_place = ([], refl, refl); part = 45 ∷ 48 ∷ x ∷ (h ++ f.text); shown = f.shown; fault = negative_too_large r h f.text x k e (le_no (spelled 16 0 h) (2 ^ 127) a) l f.after })

first_is : (d : ℕ) (y h r : List ℕ) → d ∷ y ≡ h ++ r → is_hex_digit d ≡ true → NotBegun is_hex_digit r → h ≢ []
first_is d y h r e k st n = stop r (e ∙ ap (λ z. z ++ r) n) st
  where
    stop : (r : List ℕ) → d ∷ y ≡ r → NotBegun is_hex_digit r → ⊥
    stop [] e st = cc
    stop (c ∷ r) e st = let i : c ≡ d = cc in true_not_false (rw i k) st

hex_sound : {s : List ℕ} {m : Bool} (x d : ℕ) (y : List ℕ) (res : Read ℕ) → Sign s m → hex_start x ≡ true → is_hex_digit d ≡ true → HexIs 0 (d ∷ y) res → SoundNumber (s ++ 48 ∷ x ∷ d ∷ y) (hex_judged (s ++ 48 ∷ x ∷ d ∷ y) m res)
hex_sound {s = s} {m = m} x d y (got v r) g k dh (h, e, a, b, st, l) =
    rw b (subst (λ z. SoundNumber (s ++ 48 ∷ x ∷ z) (hex_judged (s ++ 48 ∷ x ∷ z) m (got (spelled 16 0 h) r))) (sym e) (hex_got r x g k (first_is d y h r e dh st) a (subst (λ z. z < 2 ^ 128) b l) st))
hex_sound {s = s} {m = m} x d y (bad o p) g k dh (h, c, r, e, a, b, l, f, i, j) =
    rw (i, j) (subst (λ z. Faulted (s ++ 48 ∷ x ∷ z) (Some OverflowParsingNumber) (here (c ∷ r))) (sym e) (record {
      place = Some (s ++ 48 ∷ x ∷ h);
      is_place = (s ++ 48 ∷ x ∷ h, refl, sym (append_assoc s (48 ∷ x ∷ h) (c ∷ r)));
      part = s ++ 48 ∷ x ∷ (h ++ c ∷ []);
      shown = by_char;
      fault = hexadecimal_overflows r s h x c g k a b l f;
    }))

hexadecimal_sound : {s : List ℕ} {m : Bool} (x : ℕ) (y : List ℕ) → Sign s m → hex_start x ≡ true → SoundNumber (s ++ 48 ∷ x ∷ y) (hexadecimal (s ++ 48 ∷ x ∷ y) m y)
hexadecimal_sound {s = s} x [] g k = record { place = None; is_place = refl; part = s ++ 48 ∷ x ∷ []; shown = by_end; fault = hexadecimal_ends s x g k }
hexadecimal_sound {s = s} {m = m} x (d ∷ y) g k =
    by_test (SoundNumber (s ++ 48 ∷ x ∷ d ∷ y)) (is_hex_digit d) _ (bad (Some ExpectedNumber) (here (d ∷ y)))
    (λ h. hex_sound x d y (hex_digits 0 (d ∷ y)) g k h (hex_is 0 (d ∷ y) (omega arith)))
    (λ h. record { place = Some (s ++ 48 ∷ x ∷ []); is_place = (s ++ 48 ∷ x ∷ [], refl, sym (append_assoc s (48 ∷ x ∷ []) (d ∷ y))); part = s ++ 48 ∷ x ∷ d ∷ []; shown = by_char; fault = no_hexadecimal_digit y s x d g k h })

-- ---- decimal runs

bare_not : {c d : ℕ} {t n : List ℕ} → is_sign c ≡ false → c ∷ t ≡ d ∷ n → is_sign d ≡ true → ⊥
bare_not {c = c} {d = d} h e k = let i : d ≡ c = cc in true_not_false (rw (← i) k) h

bare_none : {l : List ℕ} (d : ℕ) (n : List ℕ) → Bare l → l ≡ d ∷ n → is_sign d ≡ true → ⊥
bare_none d n (bare h) e k = bare_not h e k

-- a text with a sign has one sign
pub sign_split : {s t : List ℕ} {m k : Bool} (l n : List ℕ) → Sign s m → Sign t k → Bare l → Bare n → s ++ l ≡ t ++ n → l ≡ n
sign_split l n no_sign no_sign a b e = e
sign_split l n no_sign plus a b e = absurd (bare_none 43 n a e refl)
sign_split l n no_sign minus a b e = absurd (bare_none 45 n a e refl)
sign_split l n plus no_sign a b e = absurd (bare_none 43 l b (sym e) refl)
sign_split l n plus plus a b e = rest_same 43 43 l n e
sign_split l n plus minus a b e = rest_same 43 45 l n e
sign_split l n minus no_sign a b e = absurd (bare_none 45 l b (sym e) refl)
sign_split l n minus plus a b e = rest_same 45 43 l n e
sign_split l n minus minus a b e = rest_same 45 45 l n e

tail_of : {p : ℕ → Bool} {c : ℕ} {s : List ℕ} → Each p (c ∷ s) → Each p s
tail_of (char h e) = e

pub not_zero : (c : ℕ) → (c == 48) ≡ false → c ≢ 48
not_zero c h = neq_from c 48 h

pub longer_run : {s l : List ℕ} {m : Bool} → Sign s m → Longer l → Each in_run l → DecimalRun (s ++ l)
longer_run g (zero_more {c = c} h) e = zero_run c g h (tail_of (tail_of e))
longer_run g (begun {c = c} h z) e = run g h (not_zero c z) (tail_of e)

pub whole_true : (m : Bool) (i : List ℕ) (f : Option (List ℕ)) (w : Option ℤ) → IsWholeLiteral m i f w → is_whole m i f w ≡ true
whole_true m i None None h = in_whole_true (signed m (spelled 10 0 i)) h
whole_true m i None (Some e) h = absurd h
whole_true m i (Some f) w h = absurd h

pub whole_num : {s l i : List ℕ} {m : Bool} (f : Option (List ℕ)) (w : Option ℤ) → is_whole m i f w ≡ true → Sign s m → Literal l i f w → Num (s ++ l) (whole (signed m (spelled 10 0 i)))
whole_num {i = i} {m = m} None None h g k = is_integer g k (in_whole_yes (signed m (spelled 10 0 i)) h)
whole_num None (Some e) h g k = cc
whole_num (Some f) w h g k = cc

pub judged_bad : (q : List ℕ) (m : Bool) (r i : List ℕ) (f : Option (List ℕ)) (w : Option ℤ) → is_whole m i f w ≡ false → in_exponents (exponent_of i f w) ≡ false → judged q m r i f w ≡ bad (Some OverflowParsingNumber) (here q)
unfolding judged
judged_bad q m r i f w h k = rw (h, k)

longer_stops : {s l : List ℕ} {m : Bool} (r : List ℕ) → Sign s m → Longer l → NotBegun in_run r → NotBegun (lengthens (s ++ l)) r
longer_stops {s = s} {l = l} r g x st = stops_same in_run (lengthens (s ++ l)) (λ d. sym (lengthens_bare g (longer_bare x) d ∙ lengthens_longer x d)) r st

pub got_not_bad : {A : Type 0} {n : A} {r : List ℕ} {e : Option ErrorCode} {p : Place} → got n r ≡ bad e p → ⊥
got_not_bad h = cc

no_number : {s l i : List ℕ} {m : Bool} {f : Option (List ℕ)} {w : Option ℤ} → Sign s m → Literal l i f w → Longer l → is_whole m i f w ≡ false → in_exponents (exponent_of i f w) ≡ false → (n : Number) → Num (s ++ l) n → ⊥
no_number {s = s} {l = l} {i = i} {m = m} {f = f} {w = w} g k x a b n h =
    let q = (s ++ l) ++ [] in
    got_not_bad (sym (complete h [] tt) ∙ number_bare [] g (longer_bare x) ∙ run_read q m [] k x tt ∙ judged_bad q m [] i f w a b)

judged_sound : {s l i : List ℕ} {m : Bool} {f : Option (List ℕ)} {w : Option ℤ} (r : List ℕ) → Sign s m → Literal l i f w → Longer l → Each in_run l → NotBegun in_run r → SoundNumber ((s ++ l) ++ r) (judged ((s ++ l) ++ r) m r i f w)
unfolding judged
judged_sound {s = s} {l = l} {i = i} {m = m} {f = f} {w = w} r g k x e st =
    by_test (SoundNumber ((s ++ l) ++ r)) (is_whole m i f w) (got (whole (signed m (spelled 10 0 i))) r) _
    (λ h. (s ++ l, refl, whole_num f w h g k, longer_stops r g x st))
    (λ h. by_test (SoundNumber ((s ++ l) ++ r)) (in_exponents (exponent_of i f w)) (got (decimal (finite m (without_zeros (all_digits i f)) (exponent_of i f w))) r) (bad (Some OverflowParsingNumber) (here ((s ++ l) ++ r)))
    (λ j. (s ++ l, refl, is_decimal g k (λ o. true_not_false (whole_true m i f w o) h) (in_exponents_yes (exponent_of i f w) j), longer_stops r g x st))
    (λ j. let b = followed in_run r st in
    record { place = Some []; is_place = ([], refl, refl); part = (s ++ l) ++ b.text; shown = b.shown; fault = literal_overflows r s l i b.text (longer_run g x e) g k (no_number g k x h j) b.after }))

some_not_none : {A : Type 0} {x : A} → Some x ≡ None → ⊥
some_not_none h = cc

-- no literal after any sign
no_literal : {s n : List ℕ} {k : Bool} → Sign s k → Bare n → literal_at n ≡ None → (t l i : List ℕ) (m : Bool) (d : Option (List ℕ)) (w : Option ℤ) → Sign t m → Literal l i d w → s ++ n ≡ t ++ l → ⊥
no_literal {n = n} g b o t l i m d w a x e =
    let k : n ≡ l = sign_split n l g a b (head_bare (literal_head x)) e in
    some_not_none (sym (literal_found x) ∙ ap literal_at (sym k) ∙ o)

run_sound : {s n : List ℕ} {m : Bool} (r : List ℕ) (o : Option Parts) → literal_at n ≡ o → LiteralIs n o → Sign s m → Longer n → Each in_run n → NotBegun in_run r → SoundNumber ((s ++ n) ++ r) (if_literal ((s ++ n) ++ r) m r o)
run_sound {s = s} {n = n} r None e h g x a st =
    let b = followed in_run r st in
    record { place = Some []; is_place = ([], refl, refl); part = (s ++ n) ++ b.text; shown = b.shown; fault = not_a_literal r (s ++ n) b.text (longer_run g x a) (no_literal g (longer_bare x) e) b.after }
run_sound r (Some p) e h g x a st = judged_sound r g h x a st

decimal_sound : {s : List ℕ} {m : Bool} (y : List ℕ) → Sign s m → Longer (front_of in_run y) → SoundNumber (s ++ y) (decimal_run (s ++ y) m y)
decimal_sound {s = s} {m = m} y g x =
    let n = front_of in_run y in
    let r = rest_of in_run y in
    subst (λ z. SoundNumber z (if_literal z m r (literal_at n))) (append_assoc s n r ∙ ap (λ z. s ++ z) (sym (front_rest in_run y)))
    (run_sound r (literal_at n) refl (literal_is n) g x (front_each in_run y) (rest_stops in_run y))

-- ---- a first zero

zero_number : {s : List ℕ} {m : Bool} → Sign s m → Num (s ++ 48 ∷ []) (whole (pos 0))
zero_number {s = s} {m = m} g = subst (λ z. Num (s ++ 48 ∷ []) (whole z)) (signed_zero m) (is_integer g (literal (integer lone_zero) no_exponent) (rw (signed_zero m) (in_whole_yes (pos 0) refl)))

zero_got : {s : List ℕ} {m : Bool} (r : List ℕ) → Sign s m → NotBegun after_zero r → SoundNumber (s ++ 48 ∷ r) (got (whole (pos 0)) r)
zero_got {s = s} r g st = (s ++ 48 ∷ [], sym (append_assoc s (48 ∷ []) r), zero_number g, stops_same after_zero (lengthens (s ++ 48 ∷ [])) (λ d. sym (lengthens_bare g (bare refl) d)) r st)

after_zero_false : (c : ℕ) → is_digit c ≡ false → hex_start c ≡ false → ((c == 46) || ((c == 101) || (c == 69))) ≡ false → after_zero c ≡ false
after_zero_false c a b d = grind (arith, nat_tests)

zero_front : (c : ℕ) (r : List ℕ) → ((c == 46) || ((c == 101) || (c == 69))) ≡ true → Longer (front_of in_run (48 ∷ c ∷ r))
unfolding front_of
zero_front c r h = rw (dot_or_e_in_run c h) (zero_more h)

at_zero_sound : {s : List ℕ} {m : Bool} (r : List ℕ) → Sign s m → SoundNumber (s ++ 48 ∷ r) (at_zero (s ++ 48 ∷ r) m r)
at_zero_sound [] g = zero_got [] g tt
at_zero_sound {s = s} {m = m} (c ∷ r) g =
    let q = s ++ 48 ∷ c ∷ r in
    by_test (SoundNumber q) (is_digit c) (bad (Some LeadingZero) (here q)) _
    (λ h. record { place = Some []; is_place = ([], refl, refl); part = s ++ 48 ∷ c ∷ []; shown = by_char; fault = leading_zero r s c g h })
    (λ h. by_test (SoundNumber q) (hex_start c) (hexadecimal q m r) _
    (λ k. hexadecimal_sound c r g k)
    (λ k. by_test (SoundNumber q) ((c == 46) || ((c == 101) || (c == 69))) (decimal_run q m (48 ∷ c ∷ r)) (got (whole (pos 0)) (c ∷ r))
    (λ j. decimal_sound (48 ∷ c ∷ r) g (zero_front c r j))
    (λ j. zero_got (c ∷ r) g (after_zero_false c h k j))))

-- ---- the body

run_front : (c : ℕ) (r : List ℕ) → begins_run c ≡ true → (c == 48) ≡ false → Longer (front_of in_run (c ∷ r))
unfolding front_of
run_front c r h z = rw (begins_run_in_run c h) (begun h z)

word_stops : {s : List ℕ} {m : Bool} (k : ℕ) (ks : List ℕ) → is_sign k ≡ false → ((d : ℕ) → lengthens_body (k ∷ ks) d ≡ false) → Sign s m → (y : List ℕ) → NotBegun (lengthens (s ++ k ∷ ks)) y
word_stops {s = s} k ks h f g y = stops_none (lengthens (s ++ k ∷ ks)) (λ d. lengthens_bare g (bare h) d ∙ f d) y

not_begun : (c : ℕ) → begins_number c ≡ true → (c == 73) ≡ false → (c == 78) ≡ false → begins_run c ≡ true
not_begun c h a b = grind (arith, nat_tests)

body_sound : {s : List ℕ} {m : Bool} (c : ℕ) (r : List ℕ) → Sign s m → begins_number c ≡ true → SoundNumber (s ++ c ∷ r) (unsigned (s ++ c ∷ r) m (c ∷ r))
unfolding unsigned
body_sound {s = s} {m = m} c r g h =
    let q = s ++ c ∷ r in
    by_test (SoundNumber q) (c == 73) (word_at EofParsingNumber ExpectedNumber (decimal (infinite m)) (codes "nfinity") r) _
    (λ a. subst (λ z. SoundNumber (s ++ z ∷ r) (word_at EofParsingNumber ExpectedNumber (decimal (infinite m)) (codes "nfinity") r)) (sym (eq_from c 73 a))
    (word_sound 73 (codes "nfinity") (decimal (infinite m)) r (word_at EofParsingNumber ExpectedNumber (decimal (infinite m)) (codes "nfinity") r) g NumberWord.infinity (is_infinite g) (word_stops 73 (codes "nfinity") refl (λ d. refl) g) (word_is EofParsingNumber ExpectedNumber (decimal (infinite m)) (codes "nfinity") r)))
    (λ a. by_test (SoundNumber q) (c == 78) (word_at EofParsingNumber ExpectedNumber (decimal (nan m)) (codes "aN") r) _
    (λ b. subst (λ z. SoundNumber (s ++ z ∷ r) (word_at EofParsingNumber ExpectedNumber (decimal (nan m)) (codes "aN") r)) (sym (eq_from c 78 b))
    (word_sound 78 (codes "aN") (decimal (nan m)) r (word_at EofParsingNumber ExpectedNumber (decimal (nan m)) (codes "aN") r) g NumberWord.nan (is_nan g) (word_stops 78 (codes "aN") refl (λ d. refl) g) (word_is EofParsingNumber ExpectedNumber (decimal (nan m)) (codes "aN") r)))
    (λ b. by_test (SoundNumber q) (c == 48) (at_zero q m r) _
    (λ z. subst (λ d. SoundNumber (s ++ d ∷ r) (at_zero (s ++ d ∷ r) m r)) (sym (eq_from c 48 z)) (at_zero_sound r g))
    (λ z. by_test (SoundNumber q) (begins_run c) (decimal_run q m (c ∷ r)) (bad (Some ExpectedNumber) (here (c ∷ r)))
    (λ k. decimal_sound (c ∷ r) g (run_front c r k z))
    (λ k. true_not_false (not_begun c h a b) k))))

-- ---- the sign

no_body : (c : ℕ) → begins_number c ≡ false → ((c == 73) ≡ false) × ((c == 78) ≡ false) × ((c == 48) ≡ false) × (begins_run c ≡ false)
no_body c h = (grind (arith, nat_tests), grind (arith, nat_tests), grind (arith, nat_tests), grind (arith, nat_tests))

pub unsigned_bad : (q : List ℕ) (m : Bool) (c : ℕ) (r : List ℕ) → begins_number c ≡ false → unsigned q m (c ∷ r) ≡ bad (Some ExpectedNumber) (here (c ∷ r))
unfolding unsigned
unsigned_bad q m c r h = let k = no_body c h in rw (k.3, k.0, k.1, k.2)

pub unsigned_end : (q : List ℕ) (m : Bool) → unsigned q m [] ≡ bad (Some EofParsingNumber) inner
unfolding unsigned
unsigned_end q m = refl

signed_sound : (a : ℕ) (m : Bool) (r : List ℕ) → Sign (a ∷ []) m → is_sign a ≡ true → SoundNumber (a ∷ r) (unsigned (a ∷ r) m r)
signed_sound a m [] g h = rw (unsigned_end (a ∷ []) m) (record { place = None; is_place = refl; part = a ∷ []; shown = by_end; fault = sign_ends h })
signed_sound a m (c ∷ r) g h = split (begins_number c) refl
  where
    split : (b : Bool) → begins_number c ≡ b → SoundNumber (a ∷ c ∷ r) (unsigned (a ∷ c ∷ r) m (c ∷ r))
    split true k = body_sound c r g k
    split false k = rw (unsigned_bad (a ∷ c ∷ r) m c r k) (record { place = Some (a ∷ []); is_place = (a ∷ [], refl, refl); part = a ∷ c ∷ []; shown = by_char; fault = sign_without_number r h k })

no_sign_begins : (c : ℕ) → (is_sign c || begins_number c) ≡ true → (c == 43) ≡ false → (c == 45) ≡ false → begins_number c ≡ true
no_sign_begins c h a b = grind (arith, nat_tests)

pub sound : (x : List ℕ) → Begun (λ c. is_sign c || begins_number c) x → SoundNumber x (number x)
unfolding number
sound [] h = absurd h
sound (c ∷ r) h =
    by_test (SoundNumber (c ∷ r)) (c == 43) (unsigned (c ∷ r) false r) _
    (λ a. subst (λ z. SoundNumber (z ∷ r) (unsigned (z ∷ r) false r)) (sym (eq_from c 43 a)) (signed_sound 43 false r plus refl))
    (λ a. by_test (SoundNumber (c ∷ r)) (c == 45) (unsigned (c ∷ r) true r) (unsigned (c ∷ r) false (c ∷ r))
    (λ b. subst (λ z. SoundNumber (z ∷ r) (unsigned (z ∷ r) true r)) (sym (eq_from c 45 b)) (signed_sound 45 true r minus refl))
    (λ b. body_sound c r no_sign (no_sign_begins c h a b)))
