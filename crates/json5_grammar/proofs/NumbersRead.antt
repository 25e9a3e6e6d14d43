-- A number is read, whatever follows where it stops.
use Rattle.std.proofs.Common.{◌≡◌, ℕ, ◌^◌, ◌<◌, ◌≤◌, Bool, true, false, cond, ◌||◌, List, [], ◌∷◌, ◌++◌, refl, ap, sym, ◌∙◌, append_assoc, arith, Option, Some, None}
use Rattle.std.specs.Prelude.{◌==◌, ℤ, pos, nat_le}
use Rattle.std.proofs.lemmas.Bool.Decides.{nat_tests}
use Rattle.std.proofs.lemmas.Int.{ints}
use Rattle.json5_grammar.specs.Language.Characters.{is_digit, is_hex_digit, NotBegun, Each, char}
use Rattle.json5_grammar.specs.Language.Numbers.{Sign, no_sign, plus, minus, signed, spelled, Literal, Number, whole, decimal, finite, Num, is_infinite, is_nan, is_hexadecimal, is_integer, is_decimal, hex_start, InWhole, InExponents, IsWholeLiteral, all_digits, without_zeros, exponent_of, in_run, begins_run, after_zero, lengthens_body, lengthens}
use Rattle.json5_grammar.specs.Faults.Tokens.{is_sign}
use Rattle.json5_grammar.specs.Model.Reading.{got, word_at}
use Rattle.json5_grammar.specs.Model.ReadNumbers.{Parts, front_of, rest_of, literal_at, in_whole, is_whole, judged, if_literal, hex_judged, hexadecimal, hex_digits, unsigned, number}
use Rattle.json5_grammar.proofs.CharacterTests.{in_whole_yes, in_whole_true, in_exponents_true, begins_run_others, dot_or_e_others, hex_start_no_digit, front_all, rest_all}
use Rattle.json5_grammar.proofs.HexadecimalNumbers.{hex_over, hex_stop}
use Rattle.json5_grammar.proofs.DecimalLiterals.{literal_found, literal_run, literal_head, Head, alone, longer, Longer, zero_more, begun}

-- ---- the sign

pub number_unsigned : {s : List ℕ} {m : Bool} (c : ℕ) (r : List ℕ) → Sign s m → is_sign c ≡ false → number (s ++ c ∷ r) ≡ unsigned (s ++ c ∷ r) m (c ∷ r)
unfolding number
number_unsigned c r no_sign h = split (c == 43) (c == 45) h
  where
    split : (a b : Bool) → (a || b) ≡ false → cond a (unsigned (c ∷ r) false r) (cond b (unsigned (c ∷ r) true r) (unsigned (c ∷ r) false (c ∷ r))) ≡ unsigned (c ∷ r) false (c ∷ r)
    split true b e = cc
    split false true e = cc
    split false false e = refl
number_unsigned c r plus h = refl
number_unsigned c r minus h = refl

pub lengthens_unsigned : {s : List ℕ} {m : Bool} (c : ℕ) (t : List ℕ) (d : ℕ) → Sign s m → is_sign c ≡ false → lengthens (s ++ c ∷ t) d ≡ lengthens_body (c ∷ t) d
lengthens_unsigned c t d no_sign h = rw h
lengthens_unsigned c t d plus h = refl
lengthens_unsigned c t d minus h = refl

pub stops_same : (p q : ℕ → Bool) → ((d : ℕ) → p d ≡ q d) → (r : List ℕ) → NotBegun p r → NotBegun q r
stops_same p q f [] h = tt
stops_same p q f (d ∷ r) h = sym (f d) ∙ h

-- ---- what lengthens what

pub lengthens_more : (c : ℕ) (t : List ℕ) (d : ℕ) → begins_run c ≡ true → (c == 48) ≡ false → lengthens_body (c ∷ t) d ≡ in_run d
lengthens_more c [] d h k = rw (k, h)
lengthens_more c (e ∷ t) d h k = rw (k, h)

pub lengthens_zero_more : (c : ℕ) (t : List ℕ) (d : ℕ) → ((c == 46) || ((c == 101) || (c == 69))) ≡ true → lengthens_body (48 ∷ c ∷ t) d ≡ in_run d
lengthens_zero_more c t d h = rw (dot_or_e_others c h).1

pub lengthens_hex : (x : ℕ) (t : List ℕ) (d : ℕ) → hex_start x ≡ true → lengthens_body (48 ∷ x ∷ t) d ≡ is_hex_digit d
lengthens_hex x t d h = rw h

-- ---- hexadecimal numbers

le_true : (a b : ℕ) → a ≤ b → nat_le a b ≡ true
le_true a b h = grind (arith, nat_tests)

hex_bound : (m : Bool) (n : ℕ) → InWhole (signed m n) → n < 2 ^ 128
hex_bound false n h = let a = h.1 in omega (arith, ints)
hex_bound true n h = let a = h.0 in omega (arith, ints)

pub hex_kept : (q : List ℕ) (m : Bool) (n : ℕ) (r : List ℕ) → InWhole (signed m n) → hex_judged q m (got n r) ≡ got (whole (signed m n)) r
hex_kept q false n r h = refl
hex_kept q true n r h = let a = h.0 in let k : nat_le n (2 ^ 127) ≡ true = le_true n (2 ^ 127) (omega (arith, ints)) in rw k

pub unsigned_hex : (q : List ℕ) (m : Bool) (x : ℕ) (y : List ℕ) → hex_start x ≡ true → unsigned q m (48 ∷ x ∷ y) ≡ hexadecimal q m y
unfolding unsigned
unsigned_hex q m x y h = rw (hex_start_no_digit x h, h)

pub hexadecimal_begun : (q : List ℕ) (m : Bool) (d : ℕ) (y : List ℕ) → is_hex_digit d ≡ true → hexadecimal q m (d ∷ y) ≡ hex_judged q m (hex_digits 0 (d ∷ y))
hexadecimal_begun q m d y h = rw h

head_of : {p : ℕ → Bool} {c : ℕ} {s : List ℕ} → Each p (c ∷ s) → p c ≡ true
head_of (char h e) = h

hex_read : (q : List ℕ) (m : Bool) (x d : ℕ) (h r : List ℕ) → hex_start x ≡ true → Each is_hex_digit (d ∷ h) → InWhole (signed m (spelled 16 0 (d ∷ h))) → NotBegun is_hex_digit r
    → unsigned q m (48 ∷ x ∷ ((d ∷ h) ++ r)) ≡ got (whole (signed m (spelled 16 0 (d ∷ h)))) r
hex_read q m x d h r k e b st =
    let n : ℕ = spelled 16 0 (d ∷ h) in
    unsigned_hex q m x ((d ∷ h) ++ r) k ∙ hexadecimal_begun q m d (h ++ r) (head_of e)
    ∙ ap (hex_judged q m) (hex_over 0 r e (hex_bound m n b) ∙ hex_stop n r st) ∙ hex_kept q m n r b

-- ---- decimal runs

pub lengthens_longer : {l : List ℕ} → Longer l → (d : ℕ) → lengthens_body l d ≡ in_run d
lengthens_longer (zero_more {c = c} {t = t} h) d = lengthens_zero_more c t d h
lengthens_longer (begun {c = c} {t = t} h z) d = lengthens_more c t d h z

pub unsigned_run : {l : List ℕ} (q : List ℕ) (m : Bool) (r : List ℕ) → Longer l → Each in_run l → NotBegun in_run r → unsigned q m (l ++ r) ≡ if_literal q m r (literal_at l)
unfolding unsigned
unsigned_run q m r (zero_more {c = c} {t = t} h) e k =
    let o = dot_or_e_others c h in rw (o.0, o.1, h) (λ i. if_literal q m (rest_all r e k i) (literal_at (front_all r e k i)))
unsigned_run q m r (begun {c = c} {t = t} h z) e k =
    let o = begins_run_others c h in rw (o.0, o.1, z, h) (λ i. if_literal q m (rest_all r e k i) (literal_at (front_all r e k i)))

pub unsigned_zero : (q : List ℕ) (m : Bool) (r : List ℕ) → NotBegun after_zero r → unsigned q m (48 ∷ r) ≡ got (whole (pos 0)) r
unfolding unsigned
unsigned_zero q m [] h = refl
unsigned_zero q m (c ∷ r) h = let o = after_zero_fails c h in rw (o.0, o.1, o.2)
  where
    after_zero_fails : (c : ℕ) → after_zero c ≡ false → (is_digit c ≡ false) × (hex_start c ≡ false) × (((c == 46) || ((c == 101) || (c == 69))) ≡ false)
    after_zero_fails c h = (grind (arith, nat_tests), grind (arith, nat_tests), grind (arith, nat_tests))

-- ---- what is judged

pub signed_zero : (m : Bool) → signed m 0 ≡ pos 0
signed_zero true = refl
signed_zero false = refl

before_of : Option Parts → List ℕ
before_of None = []
before_of (Some p) = p.before

after_of : Option Parts → Option (List ℕ)
after_of None = None
after_of (Some p) = p.after

raised_of : Option Parts → Option ℤ
raised_of None = None
raised_of (Some p) = p.raised

lone_parts : {i : List ℕ} {f : Option (List ℕ)} {w : Option ℤ} → Literal (48 ∷ []) i f w → (i ≡ 48 ∷ []) × (f ≡ None) × (w ≡ None)
unfolding literal_at front_of rest_of before_of after_of raised_of
lone_parts h = let e = sym (literal_found h) in (ap before_of e, ap after_of e, ap raised_of e)

judged_whole : (q : List ℕ) (m : Bool) (r i : List ℕ) → InWhole (signed m (spelled 10 0 i)) → judged q m r i None None ≡ got (whole (signed m (spelled 10 0 i))) r
unfolding judged
judged_whole q m r i h = rw (in_whole_true (signed m (spelled 10 0 i)) h)

not_whole : (m : Bool) (i : List ℕ) (f : Option (List ℕ)) (w : Option ℤ) → (IsWholeLiteral m i f w → ⊥) → is_whole m i f w ≡ false
not_whole m i None None h = split (in_whole (signed m (spelled 10 0 i))) refl
  where
    split : (b : Bool) → in_whole (signed m (spelled 10 0 i)) ≡ b → b ≡ false
    split true e = absurd (h (in_whole_yes (signed m (spelled 10 0 i)) e))
    split false e = refl
not_whole m i None (Some e) h = refl
not_whole m i (Some f) w h = refl

judged_decimal : (q : List ℕ) (m : Bool) (r i : List ℕ) (f : Option (List ℕ)) (w : Option ℤ) → (IsWholeLiteral m i f w → ⊥) → InExponents (exponent_of i f w)
    → judged q m r i f w ≡ got (decimal (finite m (without_zeros (all_digits i f)) (exponent_of i f w))) r
unfolding judged
judged_decimal q m r i f w h k = rw (not_whole m i f w h, in_exponents_true (exponent_of i f w) k)

-- `0` is whole
zero_range : InWhole (pos 0)
zero_range = in_whole_yes (pos 0) refl

zero_whole : (m : Bool) (i : List ℕ) (f : Option (List ℕ)) (w : Option ℤ) → i ≡ 48 ∷ [] → f ≡ None → w ≡ None → IsWholeLiteral m i f w
zero_whole m i f w a b c = rw (a, b, c) (rw (signed_zero m) zero_range)

pub run_read : {l i : List ℕ} {f : Option (List ℕ)} {w : Option ℤ} (q : List ℕ) (m : Bool) (r : List ℕ) → Literal l i f w → Longer l → NotBegun in_run r → unsigned q m (l ++ r) ≡ judged q m r i f w
run_read q m r h x k = unsigned_run q m r x (literal_run h) k ∙ ap (if_literal q m r) (literal_found h)

read_whole : {l i : List ℕ} (q : List ℕ) (m : Bool) (r : List ℕ) → Head l → Literal l i None None → InWhole (signed m (spelled 10 0 i)) → NotBegun (lengthens_body l) r
    → unsigned q m (l ++ r) ≡ got (whole (signed m (spelled 10 0 i))) r
read_whole q m r alone h b st = unsigned_zero q m r st ∙ sym (ap (λ z. got (whole (signed m (spelled 10 0 z))) r) (lone_parts h).0 ∙ ap (λ z. got (whole z) r) (signed_zero m))
read_whole {i = i} q m r (longer {l = l} x) h b st = run_read q m r h x (stops_same (lengthens_body l) in_run (lengthens_longer x) r st) ∙ judged_whole q m r i b

read_decimal : {l i : List ℕ} {f : Option (List ℕ)} {w : Option ℤ} (q : List ℕ) (m : Bool) (r : List ℕ) → Head l → Literal l i f w → (IsWholeLiteral m i f w → ⊥) → InExponents (exponent_of i f w) → NotBegun (lengthens_body l) r
    → unsigned q m (l ++ r) ≡ got (decimal (finite m (without_zeros (all_digits i f)) (exponent_of i f w))) r
read_decimal {i = i} {f = f} {w = w} q m r alone h n b st = let e = lone_parts h in absurd (n (zero_whole m i f w e.0 e.1 e.2))
read_decimal {i = i} {f = f} {w = w} q m r (longer {l = l} x) h n b st = run_read q m r h x (stops_same (lengthens_body l) in_run (lengthens_longer x) r st) ∙ judged_decimal q m r i f w n b

-- ---- with the sign

-- the first character is no sign
pub data Bare : List ℕ → Type 0 where
  bare : {c : ℕ} {t : List ℕ} → is_sign c ≡ false → Bare (c ∷ t)

pub longer_bare : {l : List ℕ} → Longer l → Bare l
longer_bare (zero_more h) = bare refl
longer_bare (begun {c = c} h z) = bare (begins_run_others c h).2

pub head_bare : {l : List ℕ} → Head l → Bare l
head_bare alone = bare refl
head_bare (longer x) = longer_bare x

pub number_bare : {s l : List ℕ} {m : Bool} (r : List ℕ) → Sign s m → Bare l → number ((s ++ l) ++ r) ≡ unsigned ((s ++ l) ++ r) m (l ++ r)
number_bare {s = s} {m = m} r g (bare {c = c} {t = t} h) = ap number (append_assoc s (c ∷ t) r) ∙ number_unsigned c (t ++ r) g h ∙ ap (λ z. unsigned z m (c ∷ (t ++ r))) (sym (append_assoc s (c ∷ t) r))

pub lengthens_bare : {s l : List ℕ} {m : Bool} → Sign s m → Bare l → (d : ℕ) → lengthens (s ++ l) d ≡ lengthens_body l d
lengthens_bare g (bare {c = c} {t = t} h) d = lengthens_unsigned c t d g h

pub complete : {s : List ℕ} {n : Number} → Num s n → (r : List ℕ) → NotBegun (lengthens s) r → number (s ++ r) ≡ got n r
unfolding unsigned word_at
complete (is_infinite g) r st = number_bare r g (bare refl)
complete (is_nan g) r st = number_bare r g (bare refl)
complete (is_hexadecimal {s = s} {h = h} x {d = d} {m = m} g k e b) r st =
    number_bare r g (bare refl)
    ∙ hex_read ((s ++ 48 ∷ x ∷ d ∷ h) ++ r) m x d h r k e b (stops_same (lengthens (s ++ 48 ∷ x ∷ d ∷ h)) is_hex_digit (λ c. lengthens_bare g (bare refl) c ∙ lengthens_hex x (d ∷ h) c k) r st)
complete (is_integer {s = s} {l = l} {m = m} g h b) r st =
    let k = literal_head h in
    number_bare r g (head_bare k) ∙ read_whole ((s ++ l) ++ r) m r k h b (stops_same (lengthens (s ++ l)) (lengthens_body l) (lengthens_bare g (head_bare k)) r st)
complete (is_decimal {s = s} {l = l} {m = m} g h n b) r st =
    let k = literal_head h in
    number_bare r g (head_bare k) ∙ read_decimal ((s ++ l) ++ r) m r k h n b (stops_same (lengthens (s ++ l)) (lengthens_body l) (lengthens_bare g (head_bare k)) r st)
