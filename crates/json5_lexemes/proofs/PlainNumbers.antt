-- How a number of JSON is passed, part by part.
use denote.Ref.{Bor}
use Rattle.std.proofs.Common.{◌≡◌, ◌≢◌, ℕ, Bool, true, false, List, [], ◌∷◌, ◌++◌, refl, sym, ap, ◌∙◌, subst, append_assoc, arith}
use Rattle.std.specs.Prelude.{◌==◌, ◌↔◌, Option, Some, None}
use Rattle.std.specs.Str.{chars}
use Rattle.std.proofs.lemmas.Bool.{both_ways}
use Rattle.std.proofs.lemmas.Bool.Decides.{nat_tests}
use Rattle.json5_grammar.specs.Language.Characters.{is_in, is_digit, Begun, NotBegun, Each, no_char, char}
use Rattle.json5_grammar.specs.Language.Numbers.{Integer, lone_zero, nonzero}
use Rattle.json5_grammar.proofs.CharacterTests.{nonzero_digit, digit_nonzero, e_no_digit}
use Rattle.json5_grammar.proofs.CommonLemmas.{not_eq, neq_from}
use Rattle.json5_styles.specs.Json.{JsonNumber, json_number, no_minus, minus, no_fraction, fraction, Exponent, no_exponent, exponent, no_sign, sign}
use Rattle.json5_lexemes.specs.SameLexemes.{is_word_part}
use Rattle.json5_lexemes.specs.PlainSteps.{is_exponent_letter, is_exponent_sign, is_json_part, Digits, Unsigned, unsigned, AfterDigits, after_digits, SignedDigits, signed_digits, IsEmpty, Then, GoesOn, GoesOnIf, PassesDigits}
use Rattle.json5_lexemes.proofs.OneList.{one_run}
use Rattle.json5_lexemes.proofs.PlainTokens.{same_tail}
use Rattle.json5_lexemes.proofs.PlainWordsTaken.{json_part_of_word}

abbrev pub is_minus : ℕ → Bool
is_minus c = c == 45

abbrev pub is_point : ℕ → Bool
is_point c = c == 46

-- ---- what may follow

-- what goes on no word is no such character
stops : (p : ℕ → Bool) → ((c : ℕ) → p c ≡ true → is_json_part c ≡ true) → (r : List ℕ) → NotBegun is_word_part r → NotBegun p r
stops p h [] n = tt
stops p h (c ∷ r) n = by_value (p c) refl
  where
    by_value : (b : Bool) → p c ≡ b → p c ≡ false
    by_value true e = absurd (both_ways (is_word_part c) n (json_part_of_word c (h c e)))
    by_value false e = e

digit_part : (c : ℕ) → is_digit c ≡ true → is_json_part c ≡ true
digit_part c h = grind (arith, nat_tests)

point_part : (c : ℕ) → is_point c ≡ true → is_json_part c ≡ true
point_part c h = grind (arith, nat_tests)

letter_part : (c : ℕ) → is_exponent_letter c ≡ true → is_json_part c ≡ true
letter_part c h = grind (arith, nat_tests)

stops_digits : (r : List ℕ) → NotBegun is_word_part r → NotBegun is_digit r
stops_digits = stops is_digit digit_part

exponent_stops : {e : List ℕ} (r : List ℕ) → Exponent e → NotBegun is_word_part r → NotBegun is_digit (e ++ r)
exponent_stops r no_exponent n = stops_digits r n
exponent_stops r (exponent {c = c} h s d) n = e_no_digit c h

after_stops : {s : List ℕ} (r : List ℕ) → AfterDigits s → NotBegun is_word_part r → NotBegun is_digit (s ++ r)
after_stops r (after_digits no_fraction e) n = exponent_stops r e n
after_stops r (after_digits (fraction d) e) n = refl

-- ---- a minus

integer_no_minus : {i : List ℕ} (r : List ℕ) → Integer i → NotBegun is_minus (i ++ r)
integer_no_minus r lone_zero = refl
integer_no_minus r (nonzero {c = c} h e) = apart c h
  where
    apart : (c : ℕ) → is_in 49 57 c ≡ true → (c == 45) ≡ false
    apart c h = grind (arith, nat_tests)

unsigned_no_minus : {s : List ℕ} (r : List ℕ) → Unsigned s → NotBegun is_minus (s ++ r)
unsigned_no_minus r (unsigned {i = i} {f = f} {e = e} a b d) = subst (NotBegun is_minus) (sym (append_assoc i (f ++ e) r)) (integer_no_minus ((f ++ e) ++ r) a)

no_minus_begun : (p : ℕ → Bool) (x y : List ℕ) (c : ℕ) → NotBegun p x → x ≡ c ∷ y → p c ≡ true → ⊥
no_minus_begun p x y c n e h = both_ways (p c) (subst (NotBegun p) e n) h

pub minus_passed : (x r : List ℕ) → Then JsonNumber (45 ∷ x) r ↔ Then Unsigned x r
minus_passed x r = (λ (s, k, n, e). there s k n e, λ (s, u, n, e). (45 ∷ s, back u, n, ap (λ z. 45 ∷ z) e))
  where
    there : (s : List ℕ) → JsonNumber s → NotBegun is_word_part r → 45 ∷ x ≡ s ++ r → Then Unsigned x r
    there s (json_number no_minus i f e) n g = absurd (no_minus_begun is_minus (s ++ r) x 45 (unsigned_no_minus r (unsigned i f e)) (sym g) refl)
    there s (json_number {i = i} {f = f} {e = e} minus a b d) n g = (i ++ (f ++ e), unsigned a b d, n, same_tail 45 x ((i ++ (f ++ e)) ++ r) g)

    back : {s : List ℕ} → Unsigned s → JsonNumber (45 ∷ s)
    back (unsigned i f e) = json_number minus i f e

pub no_minus_passed : (x r : List ℕ) → NotBegun is_minus x → Then JsonNumber x r ↔ Then Unsigned x r
no_minus_passed x r m = (λ (s, k, n, e). there s k n e, λ (s, u, n, e). (s, back u, n, e))
  where
    there : (s : List ℕ) → JsonNumber s → NotBegun is_word_part r → x ≡ s ++ r → Then Unsigned x r
    there s (json_number no_minus i f e) n g = (s, unsigned i f e, n, g)
    there s (json_number {i = i} {f = f} {e = e} minus a b d) n g = absurd (no_minus_begun is_minus x ((i ++ (f ++ e)) ++ r) 45 m g refl)

    back : {s : List ℕ} → Unsigned s → JsonNumber s
    back (unsigned i f e) = json_number no_minus i f e

-- ---- digits

integer_digits : {i : List ℕ} → Integer i → Each is_digit i
integer_digits lone_zero = char refl no_char
integer_digits (nonzero {c = c} h e) = char (nonzero_digit c h) e

pub zero_passed : (x r : List ℕ) → Then Unsigned (48 ∷ x) r ↔ Then AfterDigits x r
zero_passed x r = (λ (s, u, n, e). there s u n e, λ (s, a, n, e). (48 ∷ s, back a, n, ap (λ z. 48 ∷ z) e))
  where
    there : (s : List ℕ) → Unsigned s → NotBegun is_word_part r → 48 ∷ x ≡ s ++ r → Then AfterDigits x r
    there s (unsigned {f = f} {e = e} lone_zero b d) n g = (f ++ e, after_digits b d, n, same_tail 48 x ((f ++ e) ++ r) g)
    there s (unsigned (nonzero {c = c} h i) b d) n g =
        let same : c ≡ 48 = cc in
        let k : is_in 49 57 48 ≡ true = subst (λ z. is_in 49 57 z ≡ true) same h in absurd (cc)

    back : {s : List ℕ} → AfterDigits s → Unsigned (48 ∷ s)
    back (after_digits f e) = unsigned lone_zero f e

-- digits that don't begin with a zero
pub digits_passed : (x d y r : List ℕ) (c : ℕ) (z : List ℕ) → x ≡ d ++ y → Each is_digit d → NotBegun is_digit y → x ≡ c ∷ z → c ≢ 48 → Begun is_digit x → Then Unsigned x r ↔ Then AfterDigits y r
digits_passed x d y r c z e k st f nz b = (λ (s, u, n, g). there s u n g, λ (s, a, n, g). back d e k s a n g)
  where
    there : (s : List ℕ) → Unsigned s → NotBegun is_word_part r → x ≡ s ++ r → Then AfterDigits y r
    there s (unsigned {i = i} {f = h} {e = w} a j v) n g =
        let stop : NotBegun is_digit ((h ++ w) ++ r) = after_stops r (after_digits j v) n in
        let same = one_run y ((h ++ w) ++ r) k st (integer_digits a) stop (sym e ∙ g ∙ append_assoc i (h ++ w) r) in
        (h ++ w, after_digits j v, n, same.1)

    back : (d : List ℕ) → x ≡ d ++ y → Each is_digit d → (s : List ℕ) → AfterDigits s → NotBegun is_word_part r → y ≡ s ++ r → Then Unsigned x r
    back [] e no_char s a n g = absurd (none y (sym (sym f ∙ e)) st)
      where
        digit : is_digit c ≡ true
        digit = subst (Begun is_digit) f b

        none : (y : List ℕ) → y ≡ c ∷ z → NotBegun is_digit y → ⊥
        none y h n = both_ways (is_digit c) (subst (NotBegun is_digit) h n) digit
    back (a ∷ ds) e (char h k) s (after_digits {f = p} {e = q} j v) n g =
        let same : a ≡ c = cc in
        let i : Integer (a ∷ ds) = nonzero (digit_nonzero a h (not_eq a 48 (λ t. nz (sym same ∙ t)))) k in
        ((a ∷ ds) ++ (p ++ q), unsigned i j v, n, e ∙ ap (λ z. (a ∷ ds) ++ z) g ∙ sym (append_assoc (a ∷ ds) (p ++ q) r))

unsigned_digit : {s : List ℕ} (r : List ℕ) → Unsigned s → Begun is_digit (s ++ r)
unsigned_digit r (unsigned lone_zero b d) = refl
unsigned_digit r (unsigned (nonzero {c = c} h i) b d) = nonzero_digit c h

pub no_digits : (x r : List ℕ) → NotBegun is_digit x → Then Unsigned x r → ⊥
no_digits x r m (s, u, n, e) = apart x m (subst (Begun is_digit) (sym e) (unsigned_digit r u))
  where
    apart : (x : List ℕ) → NotBegun is_digit x → Begun is_digit x → ⊥
    apart [] m b = b
    apart (c ∷ x) m b = both_ways (is_digit c) m b

-- ---- a fraction

exponent_no_point : {s : List ℕ} (r : List ℕ) → Exponent s → NotBegun is_word_part r → NotBegun is_point (s ++ r)
exponent_no_point r no_exponent n = stops is_point point_part r n
exponent_no_point r (exponent {c = c} h a k) n = apart c h
  where
    apart : (c : ℕ) → is_exponent_letter c ≡ true → (c == 46) ≡ false
    apart c h = grind (arith, nat_tests)

pub point_passed : (x d y r : List ℕ) → x ≡ d ++ y → Each is_digit d → NotBegun is_digit y → Begun is_digit x → Then AfterDigits (46 ∷ x) r ↔ Then Exponent y r
point_passed x d y r e k st b = (λ (s, a, n, g). there s a n g, λ (s, z, n, g). back d e k s z n g)
  where
    there : (s : List ℕ) → AfterDigits s → NotBegun is_word_part r → 46 ∷ x ≡ s ++ r → Then Exponent y r
    there s (after_digits no_fraction z) n g = absurd (no_minus_begun is_point (s ++ r) x 46 (exponent_no_point r z n) (sym g) refl)
    there s (after_digits {e = w} (fraction {d = a} {ds = ds} j) z) n g =
        let tail : x ≡ (a ∷ ds) ++ (w ++ r) = same_tail 46 x (((a ∷ ds) ++ w) ++ r) g ∙ append_assoc (a ∷ ds) w r in
        let same = one_run y (w ++ r) k st j (exponent_stops r z n) (sym e ∙ tail) in
        (w, z, n, same.1)

    back : (d : List ℕ) → x ≡ d ++ y → Each is_digit d → (s : List ℕ) → Exponent s → NotBegun is_word_part r → y ≡ s ++ r → Then AfterDigits (46 ∷ x) r
    back [] e no_char s z n g = absurd (apart y st (subst (Begun is_digit) e b))
      where
        apart : (y : List ℕ) → NotBegun is_digit y → Begun is_digit y → ⊥
        apart [] m b = b
        apart (c ∷ y) m b = both_ways (is_digit c) m b
    back (a ∷ ds) e (char h j) s z n g = (46 ∷ (a ∷ ds) ++ s, after_digits (fraction (char h j)) z, n, ap (λ w. 46 ∷ w) (e ∙ ap (λ w. (a ∷ ds) ++ w) g ∙ sym (append_assoc (a ∷ ds) s r)))

pub no_point_digits : (x r : List ℕ) → NotBegun is_digit x → Then AfterDigits (46 ∷ x) r → ⊥
no_point_digits x r m (s, after_digits no_fraction z, n, g) = no_minus_begun is_point (s ++ r) x 46 (exponent_no_point r z n) (sym g) refl
no_point_digits x r m (s, after_digits {e = w} (fraction {d = a} {ds = ds} (char h j)) z, n, g) =
    both_ways (is_digit a) (subst (NotBegun is_digit) (same_tail 46 x (((a ∷ ds) ++ w) ++ r) g) m) h

pub no_point_passed : (x r : List ℕ) → NotBegun is_point x → Then AfterDigits x r ↔ Then Exponent x r
no_point_passed x r m = (λ (s, a, n, g). there s a n g, λ (s, z, n, g). (s, after_digits no_fraction z, n, g))
  where
    there : (s : List ℕ) → AfterDigits s → NotBegun is_word_part r → x ≡ s ++ r → Then Exponent x r
    there s (after_digits no_fraction z) n g = (s, z, n, g)
    there s (after_digits {e = w} (fraction {d = a} {ds = ds} j) z) n g = absurd (no_minus_begun is_point x (((a ∷ ds) ++ w) ++ r) 46 m g refl)

-- ---- an exponent

pub letter_passed : (c : ℕ) (x r : List ℕ) → is_exponent_letter c ≡ true → Then Exponent (c ∷ x) r ↔ Then SignedDigits x r
letter_passed c x r h = (λ (s, z, n, g). there s z n g, λ (s, k, n, g). (c ∷ s, back k, n, ap (λ w. c ∷ w) g))
  where
    there : (s : List ℕ) → Exponent s → NotBegun is_word_part r → c ∷ x ≡ s ++ r → Then SignedDigits x r
    there s no_exponent n g = absurd (no_minus_begun is_exponent_letter r x c (stops is_exponent_letter letter_part r n) (sym g) h)
    there s (exponent {d = d} {s = a} {ds = ds} j m k) n g = (a ++ d ∷ ds, signed_digits m (λ e. cc, k), n, cc)

    back : {s : List ℕ} → SignedDigits s → Exponent (c ∷ s)
    back (signed_digits {d = []} a (n, k)) = absurd (n refl)
    back (signed_digits {d = d ∷ ds} a (n, k)) = exponent h a k

pub no_letter_passed : (x r : List ℕ) → NotBegun is_exponent_letter x → Then Exponent x r ↔ Then IsEmpty x r
no_letter_passed x r m = (λ (s, z, n, g). there s z n g, λ (s, e, n, g). (s, subst Exponent (sym e) no_exponent, n, g))
  where
    there : (s : List ℕ) → Exponent s → NotBegun is_word_part r → x ≡ s ++ r → Then IsEmpty x r
    there s no_exponent n g = ([], refl, n, g)
    there s (exponent {c = c} {d = d} {s = a} {ds = ds} j k l) n g = absurd (no_minus_begun is_exponent_letter x ((a ++ d ∷ ds) ++ r) c m g j)

digits_no_sign : {d : List ℕ} (r : List ℕ) → Digits d → NotBegun is_exponent_sign (d ++ r)
digits_no_sign {d = []} r (n, k) = absurd (n refl)
digits_no_sign {d = c ∷ d} r (n, char h e) = apart c h
  where
    apart : (c : ℕ) → is_digit c ≡ true → is_exponent_sign c ≡ false
    apart c h = grind (arith, nat_tests)

pub sign_passed : (c : ℕ) (x r : List ℕ) → is_exponent_sign c ≡ true → Then SignedDigits (c ∷ x) r ↔ Then Digits x r
sign_passed c x r h = (λ (s, k, n, g). there s k n g, λ (s, k, n, g). (c ∷ s, signed_digits (sign h) k, n, ap (λ w. c ∷ w) g))
  where
    there : (s : List ℕ) → SignedDigits s → NotBegun is_word_part r → c ∷ x ≡ s ++ r → Then Digits x r
    there s (signed_digits {d = d} no_sign k) n g = absurd (no_minus_begun is_exponent_sign (d ++ r) x c (digits_no_sign r k) (sym g) h)
    there s (signed_digits {d = d} (sign j) k) n g = (d, k, n, cc)

pub no_sign_passed : (x r : List ℕ) → NotBegun is_exponent_sign x → Then SignedDigits x r ↔ Then Digits x r
no_sign_passed x r m = (λ (s, k, n, g). there s k n g, λ (s, k, n, g). (s, signed_digits no_sign k, n, g))
  where
    there : (s : List ℕ) → SignedDigits s → NotBegun is_word_part r → x ≡ s ++ r → Then Digits x r
    there s (signed_digits {d = d} no_sign k) n g = (d, k, n, g)
    there s (signed_digits {d = d} (sign {c = c} j) k) n g = absurd (no_minus_begun is_exponent_sign x (d ++ r) c m g j)

pub last_digits : (x d y r : List ℕ) → x ≡ d ++ y → Each is_digit d → NotBegun is_digit y → Begun is_digit x → Then Digits x r ↔ Then IsEmpty y r
last_digits x d y r e k st b = (λ (s, j, n, g). ([], refl, n, (one_run y r k st j.1 (stops_digits r n) (sym e ∙ g)).1), λ (s, f, n, g). (d, (some d e, k), n, e ∙ ap (λ z. d ++ z) (g ∙ ap (λ z. z ++ r) f)))
  where
    some : (d : List ℕ) → x ≡ d ++ y → d ≢ []
    some [] e f = apart y st (subst (Begun is_digit) e b)
      where
        apart : (y : List ℕ) → NotBegun is_digit y → Begun is_digit y → ⊥
        apart [] m b = b
        apart (c ∷ y) m b = both_ways (is_digit c) m b
    some (c ∷ d) e f = cc

pub no_last_digits : (x r : List ℕ) → NotBegun is_digit x → Then Digits x r → ⊥
no_last_digits x r m ([], (n, k), st, g) = n refl
no_last_digits x r m (c ∷ s, (n, char h k), st, g) = both_ways (is_digit c) (subst (NotBegun is_digit) g m) h

-- ---- as the calls say it

-- a text that doesn't begin so
pub not_begun : (p : ℕ → Bool) (x : List ℕ) (c : ℕ) (y : List ℕ) → x ≡ c ∷ y → p c ≡ false → NotBegun p x
not_begun p x c y e h = subst (NotBegun p) (sym e) h

pub none_begun : (p : ℕ → Bool) (x : List ℕ) → x ≡ [] → NotBegun p x
none_begun p x e = subst (NotBegun p) (sym e) tt

pub fraction_goes : (text after : List ℕ) (result : Option (Bor (List ℕ))) → chars text ≡ 46 ∷ chars after → PassesDigits after result → GoesOnIf AfterDigits Exponent text result
fraction_goes text after None e n = λ r t. no_point_digits (chars after) r n (subst (λ z. Then AfterDigits z r) e t)
fraction_goes text after (Some rest) e (b, s) = λ r. subst (λ z. Then AfterDigits z r ↔ Then Exponent (chars rest.now) r) (sym e) (point_passed (chars after) s.passed (chars rest.now) r s.split s.each s.stops b)

pub integer_goes : (text : List ℕ) (result : Option (Bor (List ℕ))) → NotBegun (λ d. d == 48) (chars text) → PassesDigits text result → GoesOnIf Unsigned AfterDigits text result
integer_goes text None z n = λ r t. no_digits (chars text) r n t
integer_goes text (Some rest) z (b, s) = λ r. by_front (chars text) refl r
  where
    by_front : (x : List ℕ) → chars text ≡ x → (r : List ℕ) → Then Unsigned (chars text) r ↔ Then AfterDigits (chars rest.now) r
    by_front [] e r = absurd (subst (Begun is_digit) e b)
    by_front (c ∷ y) e r = digits_passed (chars text) s.passed (chars rest.now) r c y s.split s.each s.stops e (neq_from c 48 (subst (NotBegun (λ d. d == 48)) e z)) b

pub exponent_goes : (text after digits : List ℕ) (c : ℕ) (result : Option (Bor (List ℕ))) → chars text ≡ c ∷ chars after → is_exponent_letter c ≡ true → GoesOn SignedDigits Digits after digits → PassesDigits digits result → GoesOnIf Exponent IsEmpty text result
exponent_goes text after digits c None e h o n = λ r t. no_last_digits (chars digits) r n ((o r).0 ((letter_passed c (chars after) r h).0 (subst (λ z. Then Exponent z r) e t)))
exponent_goes text after digits c (Some rest) e h o (b, s) = λ r.
    let a = subst (λ z. Then Exponent z r ↔ Then SignedDigits (chars after) r) (sym e) (letter_passed c (chars after) r h) in
    let d = o r in
    let f = last_digits (chars digits) s.passed (chars rest.now) r s.split s.each s.stops b in
    (λ t. f.0 (d.0 (a.0 t)), λ t. a.1 (d.1 (f.1 t)))

-- two parts, one after the other
pub goes_through : (P Q S : List ℕ → Type 0) (text rest : List ℕ) (result : Option (Bor (List ℕ))) → GoesOn P Q text rest → GoesOnIf Q S rest result → GoesOnIf P S text result
goes_through P Q S text rest None a b = λ r t. b r ((a r).0 t)
goes_through P Q S text rest (Some left) a b = λ r. (λ t. (b r).0 ((a r).0 t), λ t. (a r).1 ((b r).1 t))

pub goes_nowhere : (P Q : List ℕ → Type 0) (text rest : List ℕ) → GoesOn P Q text rest → ((r : List ℕ) → Then Q (chars rest) r → ⊥) → (r : List ℕ) → Then P (chars text) r → ⊥
goes_nowhere P Q text rest a b = λ r t. b r ((a r).0 t)

pub goes_far : (P Q S : List ℕ → Type 0) (text rest left : List ℕ) → GoesOn P Q text rest → GoesOn Q S rest left → GoesOn P S text left
goes_far P Q S text rest left a b = λ r. (λ t. (b r).0 ((a r).0 t), λ t. (a r).1 ((b r).1 t))

-- what no word goes on with is no exponent
pub no_letter : (x : List ℕ) → NotBegun is_word_part x → NotBegun is_exponent_letter x
no_letter = stops is_exponent_letter letter_part

-- where the text ends no word, what is left after its number is the text after it
pub ends_there : (x y r : List ℕ) {P : List ℕ → Type 0} → NotBegun is_word_part y → (Then P x r ↔ Then IsEmpty y r) → Then P x r ↔ (r ≡ y)
ends_there x y r n b = (λ t. (empty_ends (b.0 t)), λ e. b.1 ([], refl, subst (λ z. NotBegun is_word_part z) (sym e) n, sym e))
  where
    empty_ends : Then IsEmpty y r → r ≡ y
    empty_ends (s, e, m, g) = sym (g ∙ ap (λ z. z ++ r) e)

-- a comma ends a number
pub ends_at_comma : (text left after : List ℕ) → GoesOn JsonNumber Exponent text left → chars left ≡ 44 ∷ chars after → (r : List ℕ) → Then JsonNumber (chars text) r ↔ (r ≡ chars left)
ends_at_comma text left after o e r =
    let n : NotBegun is_word_part (chars left) = subst (NotBegun is_word_part) (sym e) refl in
    let a = o r in
    let b = no_letter_passed (chars left) r (no_letter (chars left) n) in
    ends_there (chars text) (chars left) r n (λ t. b.0 (a.0 t), λ t. a.1 (b.1 t))
