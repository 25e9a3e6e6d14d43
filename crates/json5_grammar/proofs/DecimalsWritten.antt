-- A decimal that is written is a number of that value.
use Rattle.std.proofs.Common.{◌≡◌, ℕ, zero, suc, ◌+◌, ◌-◌, ◌<◌, ◌≤◌, Bool, true, false, cond, List, [], ◌∷◌, ◌++◌, length, refl, ap, sym, ◌∙◌, append_assoc, arith, subst, Some, None, take, drop, length-append, length-drop}
use Rattle.std.specs.Prelude.{◌==◌, ℤ, pos, negsuc, ◌+ℤ◌, ◌-ℤ◌, reverse, nat_lt}
use Rattle.std.specs.Fmt.{sign_text}
use Rattle.std.proofs.lemmas.Bool.Decides.{nat_tests}
use Rattle.std.proofs.lemmas.Int.{ints}
use Rattle.std.proofs.lemmas.List.{append-nil, reverse-append, length-reverse, length-replicate, take-append-drop}
use lib.Chars.{codes}
use Rattle.json5_grammar.specs.Language.Characters.{is_digit, Each, no_char, char}
use Rattle.json5_grammar.specs.Language.Numbers.{Sign, no_sign, minus, Decimal, infinite, nan, finite, decimal, Integer, lone_zero, nonzero, with_point, Literal, Num, is_infinite, is_nan, is_decimal, InExponents, without_front_zeros, without_zeros, normal_exponent, all_digits, exponent_of}
use Rattle.json5_grammar.specs.Written.NumberText.{zeros, pointed, digits_text, decimal_text, IsNormal, Normal}
use Rattle.json5_grammar.proofs.CharacterTests.{Each-append, each_weaken, digit_nonzero}
use Rattle.json5_grammar.proofs.WholesWritten.{literal_alone}

-- ---- zeros

abbrev is_zero : ℕ → Bool
is_zero c = c == 48

pub each_zero : (n : ℕ) → Each is_zero (zeros n)
each_zero zero = no_char
each_zero (suc n) = char refl (each_zero n)

zero_is_digit : (c : ℕ) → is_zero c ≡ true → is_digit c ≡ true
zero_is_digit c h = grind (arith, nat_tests)

pub Each-reverse : {p : ℕ → Bool} {s : List ℕ} → Each p s → Each p (reverse s)
Each-reverse no_char = no_char
Each-reverse {p = p} (char {c = c} {s = s} h e) = subst (Each p) (sym (reverse-append (c ∷ []) s)) (Each-append (Each-reverse e) (char h no_char))

front_gone : {z : List ℕ} (s : List ℕ) → Each is_zero z → without_front_zeros (z ++ s) ≡ without_front_zeros s
front_gone s no_char = refl
front_gone s (char h e) = rw h (front_gone s e)

length_if : (b : Bool) (c : ℕ) (s t : List ℕ) → length t ≤ length s → length (cond b t (c ∷ s)) ≤ suc (length s)
length_if true c s t h = omega arith
length_if false c s t h = omega arith

pub length-front : (s : List ℕ) → length (without_front_zeros s) ≤ length s
length-front [] = omega arith
length-front (c ∷ s) = length_if (c == 48) c s (without_front_zeros s) (length-front s)

length-zeros : (s : List ℕ) → length (without_zeros s) ≤ length (without_front_zeros s)
length-zeros s = omega (arith, length-reverse (without_front_zeros (reverse (without_front_zeros s))), length-front (reverse (without_front_zeros s)), length-reverse (without_front_zeros s))

-- digits that are bare begin with another digit than 0
first_other : (c : ℕ) (t : List ℕ) → without_zeros (c ∷ t) ≡ c ∷ t → (b : Bool) → (c == 48) ≡ b → b ≡ false
first_other c t e true h =
    let k : without_front_zeros (c ∷ t) ≡ without_front_zeros t = rw h in
    absurd (omega (arith, length-zeros (c ∷ t), ap length e, ap length k, length-front t))
first_other c t e false h = refl

pub front_kept : (c : ℕ) (t z : List ℕ) → (c == 48) ≡ false → without_front_zeros ((c ∷ t) ++ z) ≡ (c ∷ t) ++ z
front_kept c t z h = rw h

back_bare : (c : ℕ) (t : List ℕ) → (c == 48) ≡ false → without_zeros (c ∷ t) ≡ c ∷ t → reverse (without_front_zeros (reverse (c ∷ t))) ≡ c ∷ t
back_bare c t h e = sym (ap (λ z. reverse (without_front_zeros (reverse z))) (ap without_front_zeros (sym (append-nil (c ∷ t))) ∙ front_kept c t [] h ∙ append-nil (c ∷ t))) ∙ e

outer_front : {y : List ℕ} (c : ℕ) (t z : List ℕ) → Each is_zero y → (c == 48) ≡ false → without_front_zeros (y ++ ((c ∷ t) ++ z)) ≡ (c ∷ t) ++ z
outer_front c t z e h = front_gone ((c ∷ t) ++ z) e ∙ front_kept c t z h

outer : {y z : List ℕ} (c : ℕ) (t : List ℕ) → Each is_zero y → Each is_zero z → (c == 48) ≡ false → without_zeros (c ∷ t) ≡ c ∷ t → without_zeros (y ++ ((c ∷ t) ++ z)) ≡ c ∷ t
outer {z = z} c t e d h b =
    ap (λ s. reverse (without_front_zeros (reverse s))) (outer_front c t z e h)
    ∙ ap (λ s. reverse (without_front_zeros s)) (reverse-append (c ∷ t) z)
    ∙ ap reverse (front_gone (reverse (c ∷ t)) (Each-reverse d))
    ∙ back_bare c t h b

abbrev raised : List ℕ → List ℕ → ℤ → ℤ
raised a b e = e +ℤ pos (length a - length b)

empty_or : (s a : List ℕ) (e : ℤ) (c : ℕ) (t : List ℕ) → without_zeros s ≡ c ∷ t → without_front_zeros s ≡ a → normal_exponent s e ≡ raised a (c ∷ t) e
empty_or s a e c t h k = rw (h, k)

outer_exponent : {y z : List ℕ} (c : ℕ) (t : List ℕ) (e : ℤ) → Each is_zero y → Each is_zero z → (c == 48) ≡ false → without_zeros (c ∷ t) ≡ c ∷ t → normal_exponent (y ++ ((c ∷ t) ++ z)) e ≡ e +ℤ pos (length z)
outer_exponent {y = y} {z = z} c t e a d h b =
    empty_or (y ++ ((c ∷ t) ++ z)) ((c ∷ t) ++ z) e c t (outer c t a d h b) (outer_front c t z a h)
    ∙ ap (λ n. e +ℤ pos n) (omega (arith, length-append t z))

-- ---- one form

sign_printed : (m : Bool) → Sign (sign_text m) m
sign_printed true = minus
sign_printed false = no_sign

printed : {l i f : List ℕ} (m : Bool) (ds : List ℕ) (e : ℤ) → Literal l i (Some f) None → without_zeros (all_digits i (Some f)) ≡ ds → exponent_of i (Some f) None ≡ e → InExponents e → Num (sign_text m ++ l) (decimal (finite m ds e))
printed {l = l} {i = i} {f = f} m ds e h a b k =
    subst (λ z. Num (sign_text m ++ l) (decimal (finite m z e))) a
    (subst (λ z. Num (sign_text m ++ l) (decimal (finite m (without_zeros (all_digits i (Some f))) z))) b
    (is_decimal (sign_printed m) h (λ x. x) (subst InExponents (sym b) k)))

digits_integer : {c : ℕ} {t : List ℕ} → Each is_digit (c ∷ t) → (c == 48) ≡ false → Integer (c ∷ t)
digits_integer (char {c = c} h e) k = nonzero (digit_nonzero c h k) e

Each-take : {p : ℕ → Bool} {s : List ℕ} (n : ℕ) → Each p s → Each p (take n s)
Each-take zero e = no_char
Each-take (suc n) no_char = no_char
Each-take (suc n) (char h e) = char h (Each-take n e)

Each-drop : {p : ℕ → Bool} {s : List ℕ} (n : ℕ) → Each p s → Each p (drop n s)
Each-drop zero e = e
Each-drop (suc n) no_char = no_char
Each-drop (suc n) (char h e) = Each-drop n e

-- ---- the three forms

all_zeros : {z : List ℕ} → Each is_zero z → Each is_digit z
all_zeros e = each_weaken is_digit zero_is_digit e

up_form : (m : Bool) (c : ℕ) (t : List ℕ) (e : ℕ) → Each is_digit (c ∷ t) → without_zeros (c ∷ t) ≡ c ∷ t → (c == 48) ≡ false → InExponents (pos e) → Num (sign_text m ++ (((c ∷ t) ++ zeros e) ++ codes ".0")) (decimal (finite m (c ∷ t) (pos e)))
up_form m c t e d b h k =
    let z : Each is_zero (zeros e ++ 48 ∷ []) = Each-append (each_zero e) (char refl no_char) in
    let s : ((c ∷ t) ++ zeros e) ++ 48 ∷ [] ≡ (c ∷ t) ++ (zeros e ++ 48 ∷ []) = append_assoc (c ∷ t) (zeros e) (48 ∷ []) in
    printed m (c ∷ t) (pos e) (literal_alone (with_point (digits_integer (Each-append d (all_zeros (each_zero e))) h) (char refl no_char)))
    (ap without_zeros s ∙ outer c t no_char z h b)
    (ap (λ x. normal_exponent x (pos 0 -ℤ pos 1)) s ∙ outer_exponent c t (pos 0 -ℤ pos 1) no_char z h b ∙ omega (arith, ints, length-append (zeros e) (48 ∷ []), length-replicate {A = ℕ} e 48))
    k

inner_form : (m : Bool) (c : ℕ) (t : List ℕ) (k j : ℕ) → Each is_digit (c ∷ t) → without_zeros (c ∷ t) ≡ c ∷ t → (c == 48) ≡ false → InExponents (negsuc j) → suc k + suc j ≡ length (c ∷ t)
    → Num (sign_text m ++ (take (suc k) (c ∷ t) ++ 46 ∷ drop (suc k) (c ∷ t))) (decimal (finite m (c ∷ t) (negsuc j)))
inner_form m c t k j d b h x l =
    let s : take (suc k) (c ∷ t) ++ drop (suc k) (c ∷ t) ≡ (c ∷ t) ++ [] = take-append-drop (suc k) (c ∷ t) ∙ sym (append-nil (c ∷ t)) in
    let e : ℤ = pos 0 -ℤ pos (length (drop k t)) in
    printed m (c ∷ t) (negsuc j) (literal_alone (with_point (digits_integer (Each-take (suc k) d) h) (Each-drop (suc k) d)))
    (ap without_zeros s ∙ outer c t no_char no_char h b)
    (ap (λ y. normal_exponent y e) s ∙ outer_exponent c t e no_char no_char h b ∙ omega (arith, ints, length-drop k t))
    x

small_form : (m : Bool) (c : ℕ) (t : List ℕ) (k j : ℕ) → Each is_digit (c ∷ t) → without_zeros (c ∷ t) ≡ c ∷ t → (c == 48) ≡ false → InExponents (negsuc j) → k + length (c ∷ t) ≡ suc j
    → Num (sign_text m ++ (48 ∷ 46 ∷ (zeros k ++ (c ∷ t)))) (decimal (finite m (c ∷ t) (negsuc j)))
small_form m c t k j d b h x l =
    let z : Each is_zero (48 ∷ zeros k) = char refl (each_zero k) in
    let s : 48 ∷ (zeros k ++ (c ∷ t)) ≡ (48 ∷ zeros k) ++ ((c ∷ t) ++ []) = ap (λ y. 48 ∷ (zeros k ++ y)) (sym (append-nil (c ∷ t))) in
    let e : ℤ = pos 0 -ℤ pos (length (zeros k ++ (c ∷ t))) in
    printed m (c ∷ t) (negsuc j) (literal_alone (with_point lone_zero (Each-append (all_zeros (each_zero k)) d)))
    (ap without_zeros s ∙ outer c t z no_char h b)
    (ap (λ y. normal_exponent y e) s ∙ outer_exponent c t e z no_char h b ∙ omega (arith, ints, length-append (zeros k) (c ∷ t), length-replicate {A = ℕ} k 48))
    x

pointed_form : (m : Bool) (c : ℕ) (t : List ℕ) (j : ℕ) → Each is_digit (c ∷ t) → without_zeros (c ∷ t) ≡ c ∷ t → (c == 48) ≡ false → InExponents (negsuc j) → Num (sign_text m ++ pointed (c ∷ t) (suc j)) (decimal (finite m (c ∷ t) (negsuc j)))
pointed_form m c t j d b h x = split (nat_lt (suc j) (length (c ∷ t))) refl
  where
    at_true : suc j < length (c ∷ t) → Num (sign_text m ++ (take (length (c ∷ t) - suc j) (c ∷ t) ++ 46 ∷ drop (length (c ∷ t) - suc j) (c ∷ t))) (decimal (finite m (c ∷ t) (negsuc j)))
    at_true l =
        let k : ℕ = length (c ∷ t) - suc j - 1 in
        let e : length (c ∷ t) - suc j ≡ suc k = omega arith in
        subst (λ n. Num (sign_text m ++ (take n (c ∷ t) ++ 46 ∷ drop n (c ∷ t))) (decimal (finite m (c ∷ t) (negsuc j)))) (sym e) (inner_form m c t k j d b h x (omega arith))

    split : (o : Bool) → nat_lt (suc j) (length (c ∷ t)) ≡ o → Num (sign_text m ++ cond o (take (length (c ∷ t) - suc j) (c ∷ t) ++ 46 ∷ drop (length (c ∷ t) - suc j) (c ∷ t)) (48 ∷ 46 ∷ (zeros (suc j - length (c ∷ t)) ++ (c ∷ t)))) (decimal (finite m (c ∷ t) (negsuc j)))
    split true e = at_true (grind (arith, nat_tests))
    split false e = let l : length (c ∷ t) ≤ suc j = grind (arith, nat_tests) in small_form m c t (suc j - length (c ∷ t)) j d b h x (omega arith)

zero_form : (m : Bool) (e : ℤ) → e ≡ pos 0 → InExponents e → Num (sign_text m ++ codes "0.0") (decimal (finite m [] e))
zero_form m e h k = printed m [] e (literal_alone (with_point lone_zero (char refl no_char))) refl (sym h) k

finite_text : (m : Bool) (ds : List ℕ) (e : ℤ) → IsNormal ds e → Num (sign_text m ++ digits_text ds e) (decimal (finite m ds e))
finite_text m [] e h = zero_form m e (h.zero refl) h.in_range
finite_text m (c ∷ t) (pos e) h = up_form m c t e h.digits h.bare (first_other c t h.bare (c == 48) refl) h.in_range
finite_text m (c ∷ t) (negsuc j) h = pointed_form m c t j h.digits h.bare (first_other c t h.bare (c == 48) refl) h.in_range

pub printed_decimal : (d : Decimal) → Normal d → Num (decimal_text d) (decimal d)
printed_decimal (infinite m) h = is_infinite (sign_printed m)
printed_decimal (nan m) h = is_nan (sign_printed m)
printed_decimal (finite m ds e) h = finite_text m ds e h
