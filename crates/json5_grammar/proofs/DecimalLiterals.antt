-- A decimal literal is found by its characters, and what is found is one.
use Rattle.std.proofs.Common.{◌≡◌, ℕ, Bool, true, false, ◌&&◌, ◌||◌, List, [], ◌∷◌, ◌++◌, refl, ap, sym, ◌∙◌, append_assoc, subst, Option, Some, None}
use Rattle.std.specs.Prelude.{◌==◌, ⊤, ℤ, not}
use Rattle.json5_grammar.specs.Language.Characters.{is_digit, NotBegun, Each, no_char, char}
use Rattle.json5_grammar.specs.Language.Numbers.{Sign, no_sign, plus, minus, signed, spelled, Integer, lone_zero, nonzero, Mantissa, integer, with_point, point_first, Exponent, no_exponent, exponent, Literal, literal, is_empty, in_run, begins_run}
use Rattle.json5_grammar.specs.Model.ReadNumbers.{Parts, front_of, rest_of, exponent_digits, exponent_sign, exponent_at, is_integer, with_exponent, no_point, at_point, point_or, literal_at}
use Rattle.json5_grammar.proofs.CommonLemmas.{by_test, eq_from, and_left, and_right, or_right}
use Rattle.json5_grammar.proofs.CharacterTests.{point_or_e, digit_no_sign, digit_in_run, e_in_run, e_no_digit, e_no_point, nonzero_digit, nonzero_not_48, digit_nonzero, digit_begins_run, Each-append, each_weaken, front_all, rest_all, rest_each, front_each, front_rest, each_from_rest, front_none}

-- ---- found

digits_found : (m : Bool) (d : ℕ) {ds : List ℕ} → Each is_digit (d ∷ ds) → exponent_digits m (d ∷ ds) ≡ Some (Some (signed m (spelled 10 0 (d ∷ ds))))
digits_found m d (char h e) = rw (h, rest_each e)

exponent_found : {e : List ℕ} {w : Option ℤ} → Exponent e w → exponent_at e ≡ Some w
exponent_found no_exponent = refl
exponent_found (exponent {d = d} h no_sign (char k e)) = let n = digit_no_sign d k in rw h (rw (n.0, n.1) (digits_found false d (char k e)))
exponent_found (exponent {d = d} h plus ds) = rw h (digits_found false d ds)
exponent_found (exponent {d = d} h minus ds) = rw h (digits_found true d ds)

exponent_no_digit : {e : List ℕ} {w : Option ℤ} → Exponent e w → NotBegun is_digit e
exponent_no_digit no_exponent = tt
exponent_no_digit (exponent {c = c} h s ds) = e_no_digit c h

pub integer_digits : {i : List ℕ} → Integer i → Each is_digit i
integer_digits lone_zero = char refl no_char
integer_digits (nonzero {c = c} h e) = char (nonzero_digit c h) e

integer_found : {i : List ℕ} → Integer i → is_integer i ≡ true
integer_found lone_zero = refl
integer_found (nonzero {c = c} h e) = rw (nonzero_not_48 c h)

no_point_found : {e : List ℕ} {w : Option ℤ} (i : List ℕ) → Exponent e w → point_or i e ≡ no_point i e
no_point_found i no_exponent = refl
no_point_found i (exponent {c = c} h s ds) = rw (e_no_point c h)

with_found : {e : List ℕ} {w : Option ℤ} (i : List ℕ) (f : Option (List ℕ)) → Exponent e w → with_exponent i f (exponent_at e) ≡ Some (record { before = i; after = f; raised = w })
with_found i f x = ap (with_exponent i f) (exponent_found x)

pub literal_found : {l i : List ℕ} {f : Option (List ℕ)} {w : Option ℤ} → Literal l i f w → literal_at l ≡ Some (record { before = i; after = f; raised = w })
unfolding literal_at rest_of front_of
literal_found (literal {e = e} {i = i} (integer n) x) =
    rw (front_all e (integer_digits n) (exponent_no_digit x), rest_all e (integer_digits n) (exponent_no_digit x))
    (no_point_found i x ∙ rw (integer_found n) (with_found i None x))
literal_found (literal {e = e} (with_point {i = i} {f = f} n d) x) =
    ap literal_at (append_assoc i (46 ∷ f) e)
    ∙ rw (front_all (46 ∷ (f ++ e)) (integer_digits n) refl, rest_all (46 ∷ (f ++ e)) (integer_digits n) refl)
    (rw (front_all e d (exponent_no_digit x), rest_all e d (exponent_no_digit x)) (rw (integer_found n) (with_found i (Some f) x)))
literal_found (literal {e = e} (point_first {c = c} {f = f} d) x) =
    ap (λ z. point_or z (46 ∷ c ∷ (f ++ e))) (front_none is_digit (46 ∷ c ∷ (f ++ e)) refl)
    ∙ rw (front_all e d (exponent_no_digit x), rest_all e d (exponent_no_digit x)) (with_found [] (Some (c ∷ f)) x)

-- ---- what is found

abbrev ExponentIs : List ℕ → Option (Option ℤ) → Type 0
ExponentIs y None = ⊤
ExponentIs y (Some w) = Exponent y w

abbrev pub LiteralIs : List ℕ → Option Parts → Type 0
LiteralIs x None = ⊤
LiteralIs x (Some p) = Literal x p.before p.after p.raised

digits_is : (c : ℕ) {s : List ℕ} {m : Bool} → ((c == 101) || (c == 69)) ≡ true → Sign s m → (y : List ℕ) → ExponentIs (c ∷ s ++ y) (exponent_digits m y)
digits_is c h g [] = tt
digits_is c {s = s} {m = m} h g (d ∷ y) =
    by_test (ExponentIs (c ∷ s ++ d ∷ y)) (is_digit d && is_empty (rest_of is_digit y)) (Some (Some (signed m (spelled 10 0 (d ∷ y))))) None
    (λ k. exponent h g (char (and_left (is_digit d) (is_empty (rest_of is_digit y)) k) (each_from_rest is_digit y (and_right (is_digit d) (is_empty (rest_of is_digit y)) k))))
    (λ k. tt)

sign_is : (c : ℕ) → ((c == 101) || (c == 69)) ≡ true → (y : List ℕ) → ExponentIs (c ∷ y) (exponent_sign y)
sign_is c h [] = tt
sign_is c h (d ∷ y) =
    by_test (ExponentIs (c ∷ d ∷ y)) (d == 43) (exponent_digits false y) _
    (λ k. subst (λ z. ExponentIs (c ∷ z ∷ y) (exponent_digits false y)) (sym (eq_from d 43 k)) (digits_is c h plus y))
    (λ k. by_test (ExponentIs (c ∷ d ∷ y)) (d == 45) (exponent_digits true y) (exponent_digits false (d ∷ y))
    (λ j. subst (λ z. ExponentIs (c ∷ z ∷ y) (exponent_digits true y)) (sym (eq_from d 45 j)) (digits_is c h minus y))
    (λ j. digits_is c h no_sign (d ∷ y)))

exponent_is : (y : List ℕ) → ExponentIs y (exponent_at y)
exponent_is [] = no_exponent
exponent_is (c ∷ y) = by_test (ExponentIs (c ∷ y)) ((c == 101) || (c == 69)) (exponent_sign y) None (λ h. sign_is c h y) (λ h. tt)

with_is : {m i : List ℕ} {f : Option (List ℕ)} → Mantissa m i f → (y : List ℕ) (o : Option (Option ℤ)) → ExponentIs y o → LiteralIs (m ++ y) (with_exponent i f o)
with_is n y None h = tt
with_is n y (Some w) h = literal n h

head_digit : {c : ℕ} {s : List ℕ} → Each is_digit (c ∷ s) → is_digit c ≡ true
head_digit (char h e) = h

tail_digits : {c : ℕ} {s : List ℕ} → Each is_digit (c ∷ s) → Each is_digit s
tail_digits (char h e) = e

integer_from : (i : List ℕ) → Each is_digit i → is_integer i ≡ true → Integer i
integer_from [] e h = cc
integer_from (c ∷ []) e h = lone (c == 48) refl
  where
    lone : (b : Bool) → (c == 48) ≡ b → Integer (c ∷ [])
    lone true k = subst (λ z. Integer (z ∷ [])) (sym (eq_from c 48 k)) lone_zero
    lone false k = nonzero (digit_nonzero c (head_digit e) k) no_char
integer_from (c ∷ d ∷ s) e h = more (c == 48) refl h
  where
    more : (b : Bool) → (c == 48) ≡ b → (not (c == 48) || false) ≡ true → Integer (c ∷ d ∷ s)
    more true k j = cc
    more false k j = nonzero (digit_nonzero c (head_digit e) k) (tail_digits e)

no_point_is : (i y : List ℕ) → Each is_digit i → LiteralIs (i ++ y) (no_point i y)
no_point_is i y e = by_test (LiteralIs (i ++ y)) (is_integer i) (with_exponent i None (exponent_at y)) None (λ h. with_is (integer (integer_from i e h)) y (exponent_at y) (exponent_is y)) (λ h. tt)

point_first_from : (i f : List ℕ) → (is_empty i && not (is_empty f)) ≡ true → Each is_digit f → Mantissa (i ++ 46 ∷ f) i (Some f)
point_first_from [] [] h e = cc
point_first_from [] (c ∷ f) h e = point_first e
point_first_from (c ∷ i) f h e = cc

mantissa_from : (i f : List ℕ) (b : Bool) → is_integer i ≡ b → (is_integer i || (is_empty i && not (is_empty f))) ≡ true → Each is_digit i → Each is_digit f → Mantissa (i ++ 46 ∷ f) i (Some f)
mantissa_from i f true k h ei ef = with_point (integer_from i ei k) ef
mantissa_from i f false k h ei ef = point_first_from i f (or_right (is_integer i) (is_empty i && not (is_empty f)) h k) ef

at_point_is : (i f y : List ℕ) → Each is_digit i → Each is_digit f → LiteralIs (i ++ 46 ∷ (f ++ y)) (at_point i f y)
at_point_is i f y ei ef =
    by_test (LiteralIs (i ++ 46 ∷ (f ++ y))) (is_integer i || (is_empty i && not (is_empty f))) (with_exponent i (Some f) (exponent_at y)) None
    (λ h. subst (λ z. LiteralIs z (with_exponent i (Some f) (exponent_at y))) (append_assoc i (46 ∷ f) y) (with_is (mantissa_from i f (is_integer i) refl h ei ef) y (exponent_at y) (exponent_is y)))
    (λ h. tt)

point_or_is : (i y : List ℕ) → Each is_digit i → LiteralIs (i ++ y) (point_or i y)
point_or_is i [] e = no_point_is i [] e
point_or_is i (c ∷ y) e =
    by_test (LiteralIs (i ++ c ∷ y)) (c == 46) (at_point i (front_of is_digit y) (rest_of is_digit y)) (no_point i (c ∷ y))
    (λ h. subst (λ z. LiteralIs (i ++ z) (at_point i (front_of is_digit y) (rest_of is_digit y))) (ap (λ z. z ∷ (front_of is_digit y ++ rest_of is_digit y)) (sym (eq_from c 46 h)) ∙ ap (λ z. c ∷ z) (sym (front_rest is_digit y)))
    (at_point_is i (front_of is_digit y) (rest_of is_digit y) e (front_each is_digit y)))
    (λ h. no_point_is i (c ∷ y) e)

pub literal_is : (x : List ℕ) → LiteralIs x (literal_at x)
unfolding literal_at
literal_is x = subst (λ z. LiteralIs z (point_or (front_of is_digit x) (rest_of is_digit x))) (sym (front_rest is_digit x)) (point_or_is (front_of is_digit x) (rest_of is_digit x) (front_each is_digit x))

-- ---- what a literal is made of

all_in_run : {s : List ℕ} → Each is_digit s → Each in_run s
all_in_run e = each_weaken in_run digit_in_run e

exponent_run : {e : List ℕ} {w : Option ℤ} → Exponent e w → Each in_run e
exponent_run no_exponent = no_char
exponent_run (exponent {c = c} h no_sign ds) = char (e_in_run c h) (all_in_run ds)
exponent_run (exponent {c = c} h plus ds) = char (e_in_run c h) (char refl (all_in_run ds))
exponent_run (exponent {c = c} h minus ds) = char (e_in_run c h) (char refl (all_in_run ds))

mantissa_run : {m i : List ℕ} {f : Option (List ℕ)} → Mantissa m i f → Each in_run m
mantissa_run (integer n) = all_in_run (integer_digits n)
mantissa_run (with_point n d) = Each-append (all_in_run (integer_digits n)) (char refl (all_in_run d))
mantissa_run (point_first d) = char refl (all_in_run d)

pub literal_run : {l i : List ℕ} {f : Option (List ℕ)} {w : Option ℤ} → Literal l i f w → Each in_run l
literal_run (literal n x) = Each-append (mantissa_run n) (exponent_run x)

-- the text begins with `0` and more, or with another first character
pub data Longer : List ℕ → Type 0 where
  zero_more : {c : ℕ} {t : List ℕ} → ((c == 46) || ((c == 101) || (c == 69))) ≡ true → Longer (48 ∷ c ∷ t)
  begun : {c : ℕ} {t : List ℕ} → begins_run c ≡ true → (c == 48) ≡ false → Longer (c ∷ t)

pub data Head : List ℕ → Type 0 where
  alone : Head (48 ∷ [])
  longer : {l : List ℕ} → Longer l → Head l

zero_exponent : {e : List ℕ} {w : Option ℤ} → Exponent e w → Head (48 ∷ e)
zero_exponent no_exponent = alone
zero_exponent (exponent {c = c} h s ds) = longer (zero_more (point_or_e c h))

pub literal_head : {l i : List ℕ} {f : Option (List ℕ)} {w : Option ℤ} → Literal l i f w → Head l
literal_head (literal (integer lone_zero) x) = zero_exponent x
literal_head (literal (integer (nonzero {c = c} h e)) x) = longer (begun (digit_begins_run c (nonzero_digit c h)) (nonzero_not_48 c h))
literal_head (literal (with_point lone_zero d) x) = longer (zero_more refl)
literal_head (literal (with_point (nonzero {c = c} h e) d) x) = longer (begun (digit_begins_run c (nonzero_digit c h)) (nonzero_not_48 c h))
literal_head (literal (point_first d) x) = longer (begun refl refl)
