-- A number's fault is what the reader answers; so it has one code and one position, and no number is in front.
use Rattle.std.proofs.Common.{◌≡◌, ℕ, ◌+◌, ◌*◌, ◌^◌, ◌<◌, ◌≤◌, Bool, true, false, ◌||◌, List, [], ◌∷◌, ◌++◌, refl, ap, sym, ◌∙◌, append_assoc, arith, ◌≢◌, subst, Option, Some, None}
use Rattle.std.specs.Prelude.{◌==◌, ℤ, nat_le, nat_lt}
use Rattle.std.specs.Char.{digit_value}
use Rattle.std.proofs.lemmas.Bool.Decides.{nat_tests}
use Rattle.std.proofs.lemmas.List.{append_cancel_right}
use lib.Chars.{codes}
use Rattle.json5_grammar.specs.Language.Characters.{is_digit, is_hex_digit, NotBegun, Each, no_char, char}
use Rattle.json5_grammar.specs.Language.Numbers.{Sign, minus, spelled, Literal, Number, decimal, infinite, nan, Num, is_decimal, exponent_of, in_run, lengthens}
use Rattle.json5_grammar.specs.Faults.Codes.{ErrorCode, Shown, ExpectedNumber, EofParsingNumber, OverflowParsingNumber}
use Rattle.json5_grammar.specs.Faults.Tokens.{is_sign, NumberWord, Cut, DecimalRun, run, zero_run, RunEnd, run_at_end, run_at_char, NumberFault, number_word_differs, number_word_ends, sign_without_number, sign_ends, no_hexadecimal_digit, hexadecimal_ends, hexadecimal_overflows, negative_too_large, not_a_literal, literal_overflows, leading_zero}
use Rattle.json5_grammar.specs.Model.Reading.{Place, got, bad, here, inner, word_at}
use Rattle.json5_grammar.specs.Model.ReadNumbers.{Parts, literal_at, in_exponents, is_whole, if_literal, hex_judged, hexadecimal, hex_digits, unsigned, number}
use Rattle.json5_grammar.proofs.CommonLemmas.{not_eq}
use Rattle.json5_grammar.proofs.CharacterTests.{in_exponents_yes, begins_run_in_run, dot_or_e_in_run}
use Rattle.json5_grammar.proofs.HexadecimalNumbers.{spelled-append, hex_stop, hex_over}
use Rattle.json5_grammar.proofs.DecimalLiterals.{literal_is, LiteralIs, literal_head, Longer, zero_more, begun}
use Rattle.json5_grammar.proofs.NumbersRead.{number_unsigned, number_bare, unsigned_hex, unsigned_run, run_read, longer_bare, head_bare, complete}
use Rattle.json5_grammar.proofs.NumbersSound.{PlaceIs, unsigned_bad, unsigned_end, sign_split, whole_num, whole_true, judged_bad, got_not_bad, true_not_false}
use Rattle.json5_grammar.proofs.Refusals.{same_bad}
use Rattle.json5_grammar.proofs.WordsRead.{differs_at, ends_in}

-- the reader answers this code at this position
pub record Refused (x : List ℕ) (e : Option ErrorCode) (pl : Option (List ℕ)) : Type 0 where
  pub place : Place
  pub answer : number x ≡ bad e place
  pub is_place : PlaceIs x place pl

-- ---- words

abbrev first : List ℕ → ℕ
first [] = 0
first (c ∷ s) = c

abbrev without_first : List ℕ → List ℕ
without_first [] = []
without_first (c ∷ s) = s

record WordHead (w : List ℕ) (m : Bool) : Type 0 where
  head : ℕ
  tail : List ℕ
  means : Number
  is : w ≡ head ∷ tail
  no_sign : is_sign head ≡ false
  reads : (q y : List ℕ) → unsigned q m (head ∷ y) ≡ word_at EofParsingNumber ExpectedNumber means tail y

word_head : {w : List ℕ} (m : Bool) → NumberWord w → WordHead w m
unfolding unsigned
word_head m NumberWord.infinity = record { head = 73; tail = codes "nfinity"; means = decimal (infinite m); is = refl; no_sign = refl; reads = λ q y. refl }
word_head m NumberWord.nan = record { head = 78; tail = codes "aN"; means = decimal (nan m); is = refl; no_sign = refl; reads = λ q y. refl }

word_number : {s w : List ℕ} {m : Bool} (k : ℕ) (v y : List ℕ) → Sign s m → (h : WordHead w m) → w ≡ k ∷ v → number (s ++ k ∷ y) ≡ word_at EofParsingNumber ExpectedNumber h.means v y
word_number {s = s} {m = m} k v y g h e =
    let t : h.head ∷ h.tail ≡ k ∷ v = sym h.is ∙ e in
    let a : h.head ≡ k = ap first t in
    let b : h.tail ≡ v = ap without_first t in
    number_unsigned k y g (subst (λ z. is_sign z ≡ false) a h.no_sign)
    ∙ ap (λ z. unsigned (s ++ k ∷ y) m (z ∷ y)) (sym a) ∙ h.reads (s ++ k ∷ y) y ∙ ap (λ z. word_at EofParsingNumber ExpectedNumber h.means z y) b

word_refused_char : {s w : List ℕ} {m : Bool} (r p : List ℕ) (d c : ℕ) → NumberWord w → Sign s m → Cut w p d → p ≢ [] → c ≢ d → Refused (s ++ (p ++ c ∷ r)) (Some ExpectedNumber) (Some (s ++ p))
word_refused_char r [] d c w g (q, i) n h = absurd (n refl)
word_refused_char {s = s} {m = m} r (k ∷ v) d c w g (q, i) n h =
    let o = word_head m w in
    record {
      place = here (c ∷ r);
      answer = word_number k (v ++ d ∷ q) (v ++ c ∷ r) g o i ∙ differs_at EofParsingNumber ExpectedNumber o.means v q r d c h;
      is_place = (s ++ k ∷ v, refl, sym (append_assoc s (k ∷ v) (c ∷ r)));
    }

word_refused_end : {s w : List ℕ} {m : Bool} (p : List ℕ) (d : ℕ) → NumberWord w → Sign s m → Cut w p d → p ≢ [] → Refused (s ++ p) (Some EofParsingNumber) None
word_refused_end [] d w g (q, i) n = absurd (n refl)
word_refused_end {m = m} (k ∷ v) d w g (q, i) n = let o = word_head m w in record { place = inner; answer = word_number k (v ++ d ∷ q) v g o i ∙ ends_in EofParsingNumber ExpectedNumber o.means v q d; is_place = refl }

-- ---- after a sign

record SignIs (a : ℕ) (r : List ℕ) : Type 0 where
  minus : Bool
  reads : number (a ∷ r) ≡ unsigned (a ∷ r) minus r

sign_is : (a : ℕ) (r : List ℕ) → is_sign a ≡ true → SignIs a r
unfolding number
sign_is a r h = split (a == 43) (a == 45) refl refl h
  where
    split : (b c : Bool) → (a == 43) ≡ b → (a == 45) ≡ c → (b || c) ≡ true → SignIs a r
    split true c e f k = record { minus = false; reads = rw e }
    split false true e f k = record { minus = true; reads = rw (e, f) }
    split false false e f k = true_not_false k refl

-- ---- hexadecimal numbers

hexadecimal_first : {h : List ℕ} (q : List ℕ) (m : Bool) (y : List ℕ) → Each is_hex_digit h → h ≢ [] → hexadecimal q m (h ++ y) ≡ hex_judged q m (hex_digits 0 (h ++ y))
hexadecimal_first q m y no_char n = absurd (n refl)
hexadecimal_first q m y (char k e) n = rw k

hexadecimal_at : {h : List ℕ} (q : List ℕ) (m : Bool) (c : ℕ) (y : List ℕ) → Each is_hex_digit h → is_hex_digit c ≡ true → hexadecimal q m (h ++ c ∷ y) ≡ hex_judged q m (hex_digits 0 (h ++ c ∷ y))
hexadecimal_at q m c y no_char n = rw n
hexadecimal_at q m c y (char k e) n = rw k

pub hex_judged_bad : (q : List ℕ) (m : Bool) (e : Option ErrorCode) (p : Place) → hex_judged q m (bad e p) ≡ bad e p
hex_judged_bad q true e p = refl
hex_judged_bad q false e p = refl

lt_false : (a b : ℕ) → b ≤ a → nat_lt a b ≡ false
lt_false a b h = grind (arith, nat_tests)

le_false : (a b : ℕ) → b < a → nat_le a b ≡ false
le_false a b h = grind (arith, nat_tests)

hex_passes : (n c : ℕ) (r : List ℕ) → is_hex_digit c ≡ true → 2 ^ 128 ≤ n * 16 + digit_value c → hex_digits n (c ∷ r) ≡ bad (Some OverflowParsingNumber) (here (c ∷ r))
unfolding hex_digits
hex_passes n c r h l = let k : nat_lt (n * 16 + digit_value c) (2 ^ 128) ≡ false = lt_false (n * 16 + digit_value c) (2 ^ 128) l in rw (h, k)

not_nil : (h : List ℕ) → 2 ^ 127 < spelled 16 0 h → h ≢ []
not_nil h l e = let k : spelled 16 0 h ≡ 0 = ap (spelled 16 0) e in omega arith

hex_past : (q : List ℕ) (n : ℕ) (r : List ℕ) → 2 ^ 127 < n → hex_judged q true (got n r) ≡ bad None (here q)
hex_past q n r h = let k : nat_le n (2 ^ 127) ≡ false = le_false n (2 ^ 127) h in rw k

pub after_stops : {p : ℕ → Bool} {r c : List ℕ} {shown : Shown} → RunEnd p r c shown → NotBegun p r
after_stops run_at_end = tt
after_stops (run_at_char r h) = h

-- ---- decimal runs

record RunIs (n : List ℕ) : Type 0 where
  sign : List ℕ
  body : List ℕ
  minus : Bool
  is : n ≡ sign ++ body
  signs : Sign sign minus
  longer : Longer body
  all : Each in_run body

run_is : {n : List ℕ} → DecimalRun n → RunIs n
run_is (run {s = s} {n = n} {m = m} {c = c} g h z e) = record { sign = s; body = c ∷ n; minus = m; is = refl; signs = g; longer = begun h (not_eq c 48 z); all = char (begins_run_in_run c h) e }
run_is (zero_run {s = s} {n = n} {m = m} c g h e) = record { sign = s; body = 48 ∷ c ∷ n; minus = m; is = refl; signs = g; longer = zero_more h; all = char refl (char (dot_or_e_in_run c h) e) }

run_number : {n : List ℕ} (r : List ℕ) (k : RunIs n) → NotBegun in_run r → number (n ++ r) ≡ if_literal (n ++ r) k.minus r (literal_at k.body)
run_number {n = n} r k st =
    subst (λ z. number (z ++ r) ≡ if_literal (z ++ r) k.minus r (literal_at k.body)) (sym k.is)
    (number_bare r k.signs (longer_bare k.longer) ∙ unsigned_run ((k.sign ++ k.body) ++ r) k.minus r k.longer k.all st)

none_found : {n : List ℕ} (k : RunIs n) → ((s l i : List ℕ) (m : Bool) (d : Option (List ℕ)) (w : Option ℤ) → Sign s m → Literal l i d w → n ≡ s ++ l → ⊥) → (o : Option Parts) → LiteralIs k.body o → o ≡ None
none_found k f None h = refl
none_found k f (Some p) h = absurd (f k.sign k.body p.before k.minus p.after p.raised k.signs h k.is)

run_refused : {n c : List ℕ} {shown : Shown} (r : List ℕ) → DecimalRun n → ((s l i : List ℕ) (m : Bool) (d : Option (List ℕ)) (w : Option ℤ) → Sign s m → Literal l i d w → n ≡ s ++ l → ⊥) → RunEnd in_run r c shown → Refused (n ++ r) None (Some [])
run_refused {n = n} r h f b =
    let k = run_is h in
    record { place = here (n ++ r); answer = run_number r k (after_stops b) ∙ ap (if_literal (n ++ r) k.minus r) (none_found k f (literal_at k.body) (literal_is k.body)); is_place = ([], refl, refl) }

not_whole : {s l i : List ℕ} {m : Bool} {f : Option (List ℕ)} {w : Option ℤ} → Sign s m → Literal l i f w → ((n : Number) → Num (s ++ l) n → ⊥) → (b : Bool) → is_whole m i f w ≡ b → b ≡ false
not_whole {f = f} {w = w} g h n true e = absurd (n _ (whole_num f w e g h))
not_whole g h n false e = refl

not_exponent : {s l i : List ℕ} {m : Bool} {f : Option (List ℕ)} {w : Option ℤ} → Sign s m → Literal l i f w → ((n : Number) → Num (s ++ l) n → ⊥) → is_whole m i f w ≡ false → (b : Bool) → in_exponents (exponent_of i f w) ≡ b → b ≡ false
not_exponent {i = i} {m = m} {f = f} {w = w} g h n k true e = absurd (n _ (is_decimal g h (λ a. true_not_false (whole_true m i f w a) k) (in_exponents_yes (exponent_of i f w) e)))
not_exponent g h n k false e = refl

longer_from : {s l : List ℕ} {m : Bool} {i : List ℕ} {f : Option (List ℕ)} {w : Option ℤ} → RunIs (s ++ l) → Sign s m → Literal l i f w → Longer l
longer_from {l = l} k g h = subst Longer (sym (sign_split l k.body g k.signs (head_bare (literal_head h)) (longer_bare k.longer) k.is)) k.longer

over_refused : {s l i c : List ℕ} {shown : Shown} {m : Bool} {f : Option (List ℕ)} {w : Option ℤ} (r : List ℕ) → DecimalRun (s ++ l) → Sign s m → Literal l i f w → ((n : Number) → Num (s ++ l) n → ⊥) → RunEnd in_run r c shown → Refused ((s ++ l) ++ r) (Some OverflowParsingNumber) (Some [])
over_refused {s = s} {l = l} {i = i} {m = m} {f = f} {w = w} r h g k n b =
    let q = (s ++ l) ++ r in
    let x : Longer l = longer_from (run_is h) g k in
    let a : is_whole m i f w ≡ false = not_whole g k n (is_whole m i f w) refl in
    let d : in_exponents (exponent_of i f w) ≡ false = not_exponent g k n a (in_exponents (exponent_of i f w)) refl in
    record { place = here q; answer = number_bare r g (longer_bare x) ∙ run_read q m r k x (after_stops b) ∙ judged_bad q m r i f w a d; is_place = ([], refl, refl) }

-- ---- every row

zero_digit : (q : List ℕ) (m : Bool) (c : ℕ) (r : List ℕ) → is_digit c ≡ true → unsigned q m (48 ∷ c ∷ r) ≡ bad (Some ErrorCode.LeadingZero) (here q)
unfolding unsigned
zero_digit q m c r h = rw h

hexadecimal_other : (q : List ℕ) (m : Bool) (c : ℕ) (r : List ℕ) → is_hex_digit c ≡ false → hexadecimal q m (c ∷ r) ≡ bad (Some ExpectedNumber) (here (c ∷ r))
hexadecimal_other q m c r h = rw h

pub refused : {x part : List ℕ} {e : Option ErrorCode} {pl : Option (List ℕ)} {shown : Shown} → NumberFault x e pl part shown → Refused x e pl
refused (number_word_differs r w p s d c h g i n k) = word_refused_char r p d c h g i n k
refused (number_word_ends w p s d h g i n) = word_refused_end p d h g i n
refused (sign_without_number r {sign = a} {c = c} h k) =
    let i = sign_is a (c ∷ r) h in
    record { place = here (c ∷ r); answer = i.reads ∙ unsigned_bad (a ∷ c ∷ r) i.minus c r k; is_place = (a ∷ [], refl, refl) }
refused (sign_ends {sign = a} h) = let i = sign_is a [] h in record { place = inner; answer = i.reads ∙ unsigned_end (a ∷ []) i.minus; is_place = refl }
refused (no_hexadecimal_digit r s {m = m} x c g k h) =
    let q = s ++ 48 ∷ x ∷ c ∷ r in
    record { place = here (c ∷ r); answer = number_unsigned 48 (x ∷ c ∷ r) g refl ∙ unsigned_hex q m x (c ∷ r) k ∙ hexadecimal_other q m c r h; is_place = (s ++ 48 ∷ x ∷ [], refl, sym (append_assoc s (48 ∷ x ∷ []) (c ∷ r))) }
refused (hexadecimal_ends s {m = m} x g k) = record { place = inner; answer = number_unsigned 48 (x ∷ []) g refl ∙ unsigned_hex (s ++ 48 ∷ x ∷ []) m x [] k; is_place = refl }
refused (hexadecimal_overflows r s h {m = m} x c g k a b l f) =
    let q = s ++ 48 ∷ x ∷ (h ++ c ∷ r) in
    let past : 2 ^ 128 ≤ spelled 16 0 h * 16 + digit_value c = subst (λ z. 2 ^ 128 ≤ z) (spelled-append 16 0 h (c ∷ [])) f in
    record {
      place = here (c ∷ r);
      answer = number_unsigned 48 (x ∷ (h ++ c ∷ r)) g refl ∙ unsigned_hex q m x (h ++ c ∷ r) k ∙ hexadecimal_at q m c r a b
          ∙ ap (hex_judged q m) (hex_over 0 (c ∷ r) a l ∙ hex_passes (spelled 16 0 h) c r b past) ∙ hex_judged_bad q m (Some OverflowParsingNumber) (here (c ∷ r));
      is_place = (s ++ 48 ∷ x ∷ h, refl, sym (append_assoc s (48 ∷ x ∷ h) (c ∷ r)));
    }
refused (negative_too_large r h c x k a l f b) =
    let q = 45 ∷ 48 ∷ x ∷ (h ++ r) in
    record {
      place = here q;
      answer = number_unsigned 48 (x ∷ (h ++ r)) minus refl ∙ unsigned_hex q true x (h ++ r) k ∙ hexadecimal_first q true r a (not_nil h l)
          ∙ ap (hex_judged q true) (hex_over 0 r a f ∙ hex_stop (spelled 16 0 h) r (after_stops b)) ∙ hex_past q (spelled 16 0 h) r l;
      is_place = ([], refl, refl);
    }
refused (not_a_literal r n c h f b) = run_refused r h f b
refused (literal_overflows r s l i c h g k n b) = over_refused r h g k n b
refused (leading_zero r s {m = m} c g h) = let q = s ++ 48 ∷ c ∷ r in record { place = here q; answer = number_unsigned 48 (c ∷ r) g refl ∙ zero_digit q m c r h; is_place = ([], refl, refl) }

-- ---- one fault, one number

one_place : (x : List ℕ) (p : Place) (a b : Option (List ℕ)) → PlaceIs x p a → PlaceIs x p b → a ≡ b
one_place x (here q) a b (f, i, e) (g, j, h) = let same : f ≡ g = append_cancel_right f g q (sym e ∙ h) in i ∙ ap Some same ∙ sym j
one_place x inner a b e h = e ∙ sym h

pub one_fault : {x b c : List ℕ} {e d : Option ErrorCode} {p q : Option (List ℕ)} {h k : Shown} → NumberFault x e p b h → NumberFault x d q c k → (e ≡ d) × (p ≡ q)
one_fault {x = x} {e = e} {d = d} {p = p} {q = q} f g =
    let a = refused f in
    let b = refused g in
    let s = same_bad (number x) e d a.place b.place a.answer b.answer in
    (s.0, one_place x a.place p q a.is_place (subst (λ z. PlaceIs x z q) (sym s.1) b.is_place))

pub no_fault : {x s b : List ℕ} {n : Number} {e : Option ErrorCode} {p : Option (List ℕ)} {h : Shown} (r : List ℕ) → NumberFault x e p b h → x ≡ s ++ r → Num s n → NotBegun (lengthens s) r → ⊥
no_fault r f i a st = got_not_bad (sym (complete a r st) ∙ ap number (sym i) ∙ (refused f).answer)

same_got : {n k : Number} {r q : List ℕ} → got n r ≡ got k q → (n ≡ k) × (r ≡ q)
same_got h = (cc, cc)

pub one_number : {s t r q : List ℕ} {n k : Number} → Num s n → Num t k → NotBegun (lengthens s) r → NotBegun (lengthens t) q → s ++ r ≡ t ++ q → (s ≡ t) × (n ≡ k) × (r ≡ q)
one_number {s = s} {t = t} {r = r} {q = q} a b f g e =
    let i = same_got (sym (complete a r f) ∙ ap number e ∙ complete b q g) in
    (append_cancel_right s t r (e ∙ ap (λ z. t ++ z) (sym i.1)), i.0, i.1)
