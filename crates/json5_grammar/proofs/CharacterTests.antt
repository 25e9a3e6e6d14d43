-- Tests on characters and numbers, and fronts by a test.
use Rattle.std.proofs.Common.{◌≡◌, ℕ, ◌^◌, ◌<◌, Bool, true, false, cond, ◌||◌, List, [], ◌∷◌, ◌++◌, refl, ap, arith}
use Rattle.std.specs.Prelude.{◌==◌, ℤ, pos, negsuc}
use Rattle.std.proofs.lemmas.Bool.Decides.{nat_tests}
use Rattle.std.proofs.lemmas.Int.{ints}
use Rattle.json5_grammar.specs.Language.Characters.{is_digit, is_in, NotBegun, Each, no_char, char}
use Rattle.json5_grammar.specs.Language.Numbers.{hex_start, InWhole, InExponents, is_empty, in_run, begins_run}
use Rattle.json5_grammar.specs.Faults.Tokens.{is_sign}
use Rattle.json5_grammar.specs.Model.ReadNumbers.{front_of, rest_of, in_whole, in_exponents}
pub use Rattle.json5_grammar.proofs.CommonLemmas.{by_test}

-- ---- characters

pub digit_no_sign : (c : ℕ) → is_digit c ≡ true → ((c == 43) ≡ false) × ((c == 45) ≡ false)
digit_no_sign c h = (grind (arith, nat_tests), grind (arith, nat_tests))

pub digit_in_run : (c : ℕ) → is_digit c ≡ true → in_run c ≡ true
digit_in_run c h = rw h

pub e_in_run : (c : ℕ) → ((c == 101) || (c == 69)) ≡ true → in_run c ≡ true
e_in_run c h = grind (arith, nat_tests)

pub e_no_digit : (c : ℕ) → ((c == 101) || (c == 69)) ≡ true → is_digit c ≡ false
e_no_digit c h = grind (arith, nat_tests)

pub e_no_point : (c : ℕ) → ((c == 101) || (c == 69)) ≡ true → (c == 46) ≡ false
e_no_point c h = grind (arith, nat_tests)

pub point_or_e : (c : ℕ) → ((c == 101) || (c == 69)) ≡ true → ((c == 46) || ((c == 101) || (c == 69))) ≡ true
point_or_e c h = grind (arith, nat_tests)

pub nonzero_digit : (c : ℕ) → is_in 49 57 c ≡ true → is_digit c ≡ true
nonzero_digit c h = grind (arith, nat_tests)

pub nonzero_not_48 : (c : ℕ) → is_in 49 57 c ≡ true → (c == 48) ≡ false
nonzero_not_48 c h = grind (arith, nat_tests)

pub digit_nonzero : (c : ℕ) → is_digit c ≡ true → (c == 48) ≡ false → is_in 49 57 c ≡ true
digit_nonzero c h k = grind (arith, nat_tests)

pub digit_begins_run : (c : ℕ) → is_digit c ≡ true → begins_run c ≡ true
digit_begins_run c h = rw h

pub begins_run_in_run : (c : ℕ) → begins_run c ≡ true → in_run c ≡ true
begins_run_in_run c h = grind (arith, nat_tests)

pub dot_or_e_in_run : (c : ℕ) → ((c == 46) || ((c == 101) || (c == 69))) ≡ true → in_run c ≡ true
dot_or_e_in_run c h = grind (arith, nat_tests)

pub dot_or_e_others : (c : ℕ) → ((c == 46) || ((c == 101) || (c == 69))) ≡ true → (is_digit c ≡ false) × (hex_start c ≡ false)
dot_or_e_others c h = (grind (arith, nat_tests), grind (arith, nat_tests))

pub hex_start_no_digit : (c : ℕ) → hex_start c ≡ true → is_digit c ≡ false
hex_start_no_digit c h = grind (arith, nat_tests)

pub begins_run_others : (c : ℕ) → begins_run c ≡ true → ((c == 73) ≡ false) × ((c == 78) ≡ false) × (is_sign c ≡ false)
begins_run_others c h = (grind (arith, nat_tests), grind (arith, nat_tests), grind (arith, nat_tests))

-- ---- ranges

pub in_whole_yes : (z : ℤ) → in_whole z ≡ true → InWhole z
in_whole_yes (pos n) h = let k : n < 2 ^ 128 = grind (arith, nat_tests) in (omega (arith, ints), omega (arith, ints))
in_whole_yes (negsuc n) h = let k : n < 2 ^ 127 = grind (arith, nat_tests) in (omega (arith, ints), omega (arith, ints))

pub in_whole_true : (z : ℤ) → InWhole z → in_whole z ≡ true
in_whole_true (pos n) h = let a = h.0 in let b = h.1 in let k : n < 2 ^ 128 = omega (arith, ints) in grind (arith, nat_tests)
in_whole_true (negsuc n) h = let a = h.0 in let b = h.1 in let k : n < 2 ^ 127 = omega (arith, ints) in grind (arith, nat_tests)

pub in_exponents_yes : (z : ℤ) → in_exponents z ≡ true → InExponents z
in_exponents_yes (pos n) h = let k : n < 32768 = grind (arith, nat_tests) in (omega (arith, ints), omega (arith, ints))
in_exponents_yes (negsuc n) h = let k : n < 32768 = grind (arith, nat_tests) in (omega (arith, ints), omega (arith, ints))

pub in_exponents_true : (z : ℤ) → InExponents z → in_exponents z ≡ true
in_exponents_true (pos n) h = let a = h.0 in let b = h.1 in let k : n < 32768 = omega (arith, ints) in grind (arith, nat_tests)
in_exponents_true (negsuc n) h = let a = h.0 in let b = h.1 in let k : n < 32768 = omega (arith, ints) in grind (arith, nat_tests)

-- ---- fronts

pub Each-append : {p : ℕ → Bool} {s t : List ℕ} → Each p s → Each p t → Each p (s ++ t)
Each-append no_char k = k
Each-append (char h e) k = char h (Each-append e k)

pub each_weaken : {p : ℕ → Bool} {s : List ℕ} (q : ℕ → Bool) → ((c : ℕ) → p c ≡ true → q c ≡ true) → Each p s → Each q s
each_weaken q f no_char = no_char
each_weaken q f (char {c = c} h e) = char (f c h) (each_weaken q f e)

pub front_none : (p : ℕ → Bool) (r : List ℕ) → NotBegun p r → front_of p r ≡ []
unfolding front_of
front_none p [] h = refl
front_none p (c ∷ r) h = rw h

pub rest_none : (p : ℕ → Bool) (r : List ℕ) → NotBegun p r → rest_of p r ≡ r
unfolding rest_of
rest_none p [] h = refl
rest_none p (c ∷ r) h = rw h

pub front_all : {p : ℕ → Bool} {s : List ℕ} (r : List ℕ) → Each p s → NotBegun p r → front_of p (s ++ r) ≡ s
unfolding front_of
front_all {p = p} r no_char h = front_none p r h
front_all r (char {c = c} k e) h = rw k (ap (λ z. c ∷ z) (front_all r e h))

pub rest_all : {p : ℕ → Bool} {s : List ℕ} (r : List ℕ) → Each p s → NotBegun p r → rest_of p (s ++ r) ≡ r
unfolding rest_of
rest_all {p = p} r no_char h = rest_none p r h
rest_all r (char {c = c} k e) h = rw k (rest_all r e h)

pub rest_each : {p : ℕ → Bool} {s : List ℕ} → Each p s → rest_of p s ≡ []
unfolding rest_of
rest_each no_char = refl
rest_each (char k e) = rw k (rest_each e)

pub front_each : (p : ℕ → Bool) (x : List ℕ) → Each p (front_of p x)
unfolding front_of
front_each p [] = no_char
front_each p (c ∷ x) = by_test (Each p) (p c) (c ∷ front_of p x) [] (λ h. char h (front_each p x)) (λ h. no_char)

pub rest_stops : (p : ℕ → Bool) (x : List ℕ) → NotBegun p (rest_of p x)
unfolding rest_of
rest_stops p [] = tt
rest_stops p (c ∷ x) = by_test (NotBegun p) (p c) (rest_of p x) (c ∷ x) (λ h. rest_stops p x) (λ h. h)

front_rest_more : (b : Bool) (c : ℕ) (x f r : List ℕ) → x ≡ f ++ r → c ∷ x ≡ cond b (c ∷ f) [] ++ cond b r (c ∷ x)
front_rest_more true c x f r e = ap (λ z. c ∷ z) e
front_rest_more false c x f r e = refl

pub front_rest : (p : ℕ → Bool) (x : List ℕ) → x ≡ front_of p x ++ rest_of p x
unfolding front_of rest_of
front_rest p [] = refl
front_rest p (c ∷ x) = front_rest_more (p c) c x (front_of p x) (rest_of p x) (front_rest p x)

each_more : (p : ℕ → Bool) (c : ℕ) (x y : List ℕ) (b : Bool) → p c ≡ b → (is_empty y ≡ true → Each p x) → is_empty (cond b y (c ∷ x)) ≡ true → Each p (c ∷ x)
each_more p c x y true k f e = char k (f e)
each_more p c x y false k f e = cc

pub each_from_rest : (p : ℕ → Bool) (x : List ℕ) → is_empty (rest_of p x) ≡ true → Each p x
unfolding rest_of
each_from_rest p [] h = no_char
each_from_rest p (c ∷ x) h = each_more p c x (rest_of p x) (p c) refl (each_from_rest p x) h
