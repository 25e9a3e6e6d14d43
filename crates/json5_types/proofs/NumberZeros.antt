-- The zeros that go from digits in two parts.
use Rattle.std.proofs.Common.{◌≡◌, ℕ, suc, ◌<◌, ◌≤◌, ◌+◌, ◌-◌, Bool, true, false, cond, List, [], ◌∷◌, ◌++◌, length, take, refl, ap, sym, subst, ◌∙◌, arith, Option, Some, None}
use Rattle.std.proofs.Math.Seq.{take-append_seam}
use Rattle.std.specs.Prelude.{◌==◌, ◌↔◌, IsSome, IfSome, reverse, ℤ, pos, ◌+ℤ◌}
use Rattle.std.proofs.lemmas.List.{take-take, length-take, append-nil, reverse-append, reverse-reverse, length-reverse, length-append, nil_from_length}
use Rattle.std.proofs.lemmas.Bool.Decides.{nat_tests}
use Rattle.std.proofs.lemmas.Int.{ints, to_z-of_z}
use mir.Syntax.{w16, w64, w128}
use mir.Val.{to_z, of_z, SFits}
use Rattle.json5_grammar.specs.Language.Characters.{is_digit, Each, no_char, char}
use Rattle.json5_grammar.specs.Language.Numbers.{finite, without_front_zeros, without_zeros, normal_exponent, is_empty, InExponents}
use Rattle.json5_grammar.specs.Written.NumberText.{IsNormal}
use Rattle.json5_types.specs.Exponents.{raised}
use Rattle.json5_types.specs.NumberDecimals.{Normalizes}
use Rattle.json5_grammar.proofs.CharacterTests.{by_test}
use Rattle.json5_grammar.proofs.DecimalsWritten.{Each-reverse, length-front}
use Rattle.json5_grammar.proofs.NormalForms.{bare_twice}

-- ---- in front

front_step : (c : ℕ) (a b : List ℕ) → without_front_zeros (a ++ b) ≡ cond (is_empty (without_front_zeros a)) (without_front_zeros b) (without_front_zeros a ++ b)
    → (o : Bool) → (c == 48) ≡ o → without_front_zeros (c ∷ (a ++ b)) ≡ cond (is_empty (without_front_zeros (c ∷ a))) (without_front_zeros b) (without_front_zeros (c ∷ a) ++ b)
front_step c a b e true h = rw h e
front_step c a b e false h = rw h refl

front_parts : (a b : List ℕ) → without_front_zeros (a ++ b) ≡ cond (is_empty (without_front_zeros a)) (without_front_zeros b) (without_front_zeros a ++ b)
front_parts [] b = refl
front_parts (c ∷ a) b = front_step c a b (front_parts a b) (c == 48) refl

-- one digit more, which is a zero in front of all, the first other digit, or any digit after it
lone_zero : (d : ℕ) → d ≡ 48 → without_front_zeros (d ∷ []) ≡ []
lone_zero d h = rw h refl

lone_digit : (d : ℕ) → (d == 48) ≡ false → without_front_zeros (d ∷ []) ≡ d ∷ []
lone_digit d h = rw h refl

first_digit : (w seen : List ℕ) (d : ℕ) → w ≡ without_front_zeros seen → w ≡ [] → without_front_zeros (seen ++ (d ∷ [])) ≡ without_front_zeros (d ∷ [])
first_digit w seen d e k = front_parts seen (d ∷ []) ∙ ap (λ z. cond (is_empty z) (without_front_zeros (d ∷ [])) (z ++ (d ∷ []))) (sym e ∙ k)

pub front_zero : (w seen : List ℕ) (d : ℕ) → w ≡ without_front_zeros seen → w ≡ [] → d ≡ 48 → w ≡ without_front_zeros (seen ++ (d ∷ []))
front_zero w seen d e k h = k ∙ sym (first_digit w seen d e k ∙ lone_zero d h)

pub front_first : (w seen : List ℕ) (d : ℕ) → w ≡ without_front_zeros seen → w ≡ [] → (d == 48) ≡ false → w ++ (d ∷ []) ≡ without_front_zeros (seen ++ (d ∷ []))
front_first w seen d e k h = ap (λ z. z ++ (d ∷ [])) k ∙ sym (first_digit w seen d e k ∙ lone_digit d h)

full_is : (s : List ℕ) → 0 < length s → is_empty s ≡ false
full_is [] h = absurd (omega arith)
full_is (c ∷ s) h = refl

pub front_none : (a b : List ℕ) → length (without_front_zeros a) ≡ 0 → without_front_zeros a ++ without_front_zeros b ≡ without_front_zeros (a ++ b)
front_none a b h = let e = nil_from_length (without_front_zeros a) h in rw e (sym (front_parts a b ∙ ap (λ z. cond (is_empty z) (without_front_zeros b) (z ++ b)) e))

pub front_some : (a b : List ℕ) → 0 < length (without_front_zeros a) → without_front_zeros a ++ b ≡ without_front_zeros (a ++ b)
front_some a b h = sym (front_parts a b ∙ ap (λ z. cond z (without_front_zeros b) (without_front_zeros a ++ b)) (full_is (without_front_zeros a) h))

pub front_next : (w seen : List ℕ) (d : ℕ) → w ≡ without_front_zeros seen → 0 < length w → w ++ (d ∷ []) ≡ without_front_zeros (seen ++ (d ∷ []))
front_next w seen d e h = ap (λ z. z ++ (d ∷ [])) e ∙ front_some seen (d ∷ []) (rw (sym e) h)

-- ---- at the end

abbrev pub back : List ℕ → List ℕ
back s = reverse (without_front_zeros (reverse s))

back_parts : (a b : List ℕ) → back (a ++ b) ≡ reverse (cond (is_empty (without_front_zeros (reverse b))) (without_front_zeros (reverse a)) (without_front_zeros (reverse b) ++ reverse a))
back_parts a b = ap reverse (ap without_front_zeros (reverse-append a b) ∙ front_parts (reverse b) (reverse a))

pub back_none : (a b : List ℕ) → length (back b) ≡ 0 → back a ++ back b ≡ back (a ++ b)
back_none a b h =
    let e = nil_from_length (without_front_zeros (reverse b)) (omega (arith, length-reverse (without_front_zeros (reverse b)))) in
    ap (λ z. back a ++ reverse z) e ∙ append-nil (back a) ∙ sym (back_parts a b ∙ ap (λ z. reverse (cond (is_empty z) (without_front_zeros (reverse a)) (z ++ reverse a))) e)

pub back_some : (a b : List ℕ) → 0 < length (back b) → a ++ back b ≡ back (a ++ b)
back_some a b h =
    let e = full_is (without_front_zeros (reverse b)) (omega (arith, length-reverse (without_front_zeros (reverse b)))) in
    sym (back_parts a b ∙ ap (λ z. reverse (cond z (without_front_zeros (reverse a)) (without_front_zeros (reverse b) ++ reverse a))) e ∙ reverse-append (without_front_zeros (reverse b)) (reverse a) ∙ ap (λ z. z ++ back b) (reverse-reverse a))

tail_step : (c : ℕ) (s : List ℕ) → ((z : List ℕ) × (s ≡ z ++ without_front_zeros s)) → (o : Bool) → (c == 48) ≡ o → (z : List ℕ) × (c ∷ s ≡ z ++ without_front_zeros (c ∷ s))
tail_step c s (z, e) true h = (c ∷ z, rw h (ap (λ x. c ∷ x) e))
tail_step c s t false h = ([], rw h refl)

front_tail : (s : List ℕ) → (z : List ℕ) × (s ≡ z ++ without_front_zeros s)
front_tail [] = ([], refl)
front_tail (c ∷ s) = tail_step c s (front_tail s) (c == 48) refl

-- the digits without the zeros at the end are the first ones
pub back_is_front : (s : List ℕ) → take (length (back s)) s ≡ back s
back_is_front s =
    let t = front_tail (reverse s) in
    let k : s ≡ back s ++ reverse t.0 = sym (reverse-reverse s) ∙ ap reverse t.1 ∙ reverse-append t.0 (without_front_zeros (reverse s)) in
    ap (take (length (back s))) k ∙ take-append_seam (back s) (reverse t.0)

pub back_shorter : (s : List ℕ) → length (back s) ≤ length s
back_shorter s = omega (arith, length-reverse (without_front_zeros (reverse s)), length-front (reverse s), length-reverse s)

pub length-take_most : (n : ℕ) (x : List ℕ) → length (take n x) ≤ n
length-take_most n x = omega (arith, length-take n x)

pub back_taken : (s r bytes : List ℕ) (n : ℕ) → s ≡ take n bytes → r ≡ back s → take (length r) bytes ≡ back s
back_taken s r bytes n e k =
    let h : length (back s) ≤ n = omega (arith, back_shorter s, ap length e, length-take_most n bytes) in
    ap (λ z. take (length z) bytes) k ∙ sym (take-take (length (back s)) n bytes h) ∙ ap (take (length (back s))) (sym e) ∙ back_is_front s

-- ---- a length that is tested

pub is_none : (s : List ℕ) (b : Bool) → b ≡ (length s == 0) → b ≡ true → length s ≡ 0
is_none s b e h = grind (arith, nat_tests)

pub is_some : (s : List ℕ) (b : Bool) → b ≡ (length s == 0) → b ≡ false → 0 < length s
is_some s b e h = grind (arith, nat_tests)

-- ---- the normal form

each_front : {p : ℕ → Bool} {s : List ℕ} → Each p s → Each p (without_front_zeros s)
each_front no_char = no_char
each_front {p = p} (char {c = c} {s = s} h e) = by_test (Each p) (c == 48) (without_front_zeros s) (c ∷ s) (λ k. each_front e) (λ k. char h e)

pub normal_is : (ds : List ℕ) (e : ℤ) → Each is_digit ds → InExponents (normal_exponent ds e) → IsNormal (without_zeros ds) (normal_exponent ds e)
normal_is ds e d k = record {
  digits = Each-reverse (each_front (Each-reverse (each_front d)));
  bare = bare_twice ds;
  in_range = k;
  zero = λ h. rw h;
}

exponent_step : (e : ℤ) (n : ℕ) (b : List ℕ) → cond (is_empty b) (pos 0) (e +ℤ pos (n - length b)) ≡ raised e n (length b)
exponent_step e n [] = refl
exponent_step e n (c ∷ b) = let h : (suc (length b) == 0) ≡ false = grind (arith, nat_tests) in rw h refl

-- of digits in two parts, first with no zeros in front and then bare
pub normal_exponent_is : (ds front rest first last : List ℕ) (e : ℤ) → front ++ rest ≡ without_front_zeros ds → first ++ last ≡ without_zeros ds
    → normal_exponent ds e ≡ raised e (length front + length rest) (length first + length last)
normal_exponent_is ds front rest first last e h k =
    exponent_step e (length (without_front_zeros ds)) (without_zeros ds)
    ∙ ap (λ n. raised e n (length (without_zeros ds))) (ap length (sym h) ∙ length-append front rest)
    ∙ ap (raised e (length front + length rest)) (ap length (sym k) ∙ length-append first last)

pub fewer_digits : (ds front rest first last : List ℕ) → front ++ rest ≡ without_front_zeros ds → first ++ last ≡ without_zeros ds → length first + length last ≤ length front + length rest
fewer_digits ds front rest first last h k = omega (arith, length-append front rest, length-append first last, ap length h, ap length k, length-reverse (without_front_zeros (reverse (without_front_zeros ds))), length-front (reverse (without_front_zeros ds)), length-reverse (without_front_zeros ds))

pub each_back : {p : ℕ → Bool} {s : List ℕ} → Each p s → Each p (back s)
each_back d = Each-reverse (each_front (Each-reverse d))

-- a parameter of 16 bits
pub held : (e : ℤ) → InExponents e → to_z w16 (of_z w16 e) ≡ e
held e h = to_z-of_z w16 e (omega (arith, ints, h.0, h.1))

pub normal_parts : (ds front rest first last : List ℕ) (e x : ℤ) → Each is_digit ds → front ++ rest ≡ without_front_zeros ds → first ++ last ≡ without_zeros ds
    → x ≡ raised e (length front + length rest) (length first + length last) → InExponents (raised e (length front + length rest) (length first + length last)) → IsNormal (first ++ last) (to_z w16 (of_z w16 x))
normal_parts ds front rest first last e x d h k y r =
    let n = normal_exponent_is ds front rest first last e h k in
    let i : InExponents (normal_exponent ds e) = rw n r in
    let f : x ≡ normal_exponent ds e = y ∙ sym n in
    rw (k, f) (rw (held (normal_exponent ds e) i) (normal_is ds e d i))

-- of digits with no zeros in front
few_exponent : (ds new : List ℕ) (e : ℤ) → ds ≡ without_front_zeros ds → new ≡ back ds → raised e (length ds) (length new) ≡ normal_exponent ds e
few_exponent ds new e f k =
    ap (λ z. raised e (length ds) (length z)) k ∙ ap (λ z. raised e (length z) (length (back z))) f
    ∙ sym (exponent_step e (length (without_front_zeros ds)) (without_zeros ds))

normal_few : (ds new : List ℕ) (e x : ℤ) → Each is_digit ds → new ≡ without_zeros ds → x ≡ normal_exponent ds e → InExponents (normal_exponent ds e) → IsNormal new x
normal_few ds new e x d k g i = rw (k, g) (normal_is ds e d i)

pub normalizes : (ds new : List ℕ) (e : ℤ) (found : Option ℤ) → Each is_digit ds → ds ≡ without_front_zeros ds → new ≡ back ds
    → (IsSome found ↔ InExponents (raised e (length ds) (length new))) → IfSome found (λ x. x ≡ raised e (length ds) (length new)) → Normalizes ds e new found
normalizes ds new e None d f k r v = record {
  in_range = subst (λ z. IsSome {T = ℤ} None ↔ InExponents z) (few_exponent ds new e f k) r;
  digits = tt;
  value = tt;
  normal = tt;
}
normalizes ds new e (Some x) d f k r v =
    let n = few_exponent ds new e f k in
    let bare : new ≡ without_zeros ds = k ∙ ap back f in
    record {
      in_range = subst (λ z. IsSome (Some x) ↔ InExponents z) n r;
      digits = bare;
      value = v ∙ n;
      normal = normal_few ds new e x d bare (v ∙ n) (subst InExponents n (r.0 refl));
    }

pub normal_value : (m : Bool) (ds front rest first last : List ℕ) (e x : ℤ) → front ++ rest ≡ without_front_zeros ds → first ++ last ≡ without_zeros ds
    → x ≡ raised e (length front + length rest) (length first + length last) → InExponents (raised e (length front + length rest) (length first + length last)) → finite m (first ++ last) (to_z w16 (of_z w16 x)) ≡ finite m (without_zeros ds) (normal_exponent ds e)
normal_value m ds front rest first last e x h k y r =
    let n = normal_exponent_is ds front rest first last e h k in
    let i : InExponents (normal_exponent ds e) = rw n r in
    ap (λ z. finite m z (to_z w16 (of_z w16 x))) k ∙ ap (finite m (without_zeros ds)) (ap (λ z. to_z w16 (of_z w16 z)) (y ∙ sym n) ∙ held (normal_exponent ds e) i)

pub widened : (e r : ℤ) → SFits w64 e → r ≡ to_z w64 (of_z w64 e) → to_z w128 (of_z w128 r) ≡ e
widened e r h k = let f : r ≡ e = k ∙ to_z-of_z w64 e h in rw f (to_z-of_z w128 e (omega (arith, ints, h.sfits)))
