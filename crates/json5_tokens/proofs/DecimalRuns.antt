-- A decimal run in front of the input, read from its first character on.
use Rattle.std.proofs.Common.{◌≡◌, ℕ, Bool, true, false, not, ◌||◌, ◌<◌, List, [], ◌∷◌, length, refl, ap, sym, ◌∙◌, subst, arith, Option, Some, None}
use Rattle.std.specs.Prelude.{◌==◌, slice_index}
use Rattle.std.specs.Str.{IsUtf8, chars}
use Rattle.json5_types.proofs.AsciiRuns.{PassesAscii, front_chars}
use Rattle.std.proofs.lemmas.Bool.Decides.{nat_tests}
use Rattle.json5_grammar.specs.Language.Characters.{is_digit, NotBegun}
use Rattle.json5_grammar.specs.Language.Numbers.{is_empty, in_run}
use Rattle.json5_grammar.specs.Model.ReadNumbers.{Parts, front_of, rest_of, exponent_digits, exponent_sign, exponent_at, no_point, at_point, literal_at}
use Rattle.json5_grammar.proofs.CharacterTests.{by_test, digit_in_run, e_in_run, rest_none, front_none}
use Rattle.json5_tokens.specs.declared.numbers.decimal_literals.DecimalLiteral.{DecimalLiteral}
use Rattle.json5_tokens.specs.declared.numbers.decimal_literals.Tail.{Tail}
use Rattle.json5_tokens.specs.NumberParts.{begun, split_sign, run_of, EndsRun, ReadsTail, ReadsDecimalLiteral}
use Rattle.json5_tokens.proofs.DecimalLiteralParts.{literal_ends, literal_plain, literal_pointed}

-- ---- one step into a run

pub run_more : (x y : List ℕ) (c : ℕ) → x ≡ c ∷ y → in_run c ≡ true → run_of x ≡ c ∷ run_of y
unfolding front_of
run_more x y c e h = rw (e, h) refl

pub rest_more : (x y : List ℕ) (c : ℕ) → x ≡ c ∷ y → in_run c ≡ true → rest_of in_run x ≡ rest_of in_run y
unfolding rest_of
rest_more x y c e h = rw (e, h) refl

not_begun : (x : List ℕ) → begun in_run x ≡ false → NotBegun in_run x
not_begun [] h = tt
not_begun (c ∷ x) h = h

pub no_run : (x : List ℕ) → begun in_run x ≡ false → run_of x ≡ []
no_run x h = front_none in_run x (not_begun x h)

pub rest_all : (x : List ℕ) → begun in_run x ≡ false → rest_of in_run x ≡ x
rest_all x h = rest_none in_run x (not_begun x h)

run_some : (x : List ℕ) → begun in_run x ≡ true → is_empty (run_of x) ≡ false
unfolding front_of
run_some [] h = absurd (cc)
run_some (c ∷ x) h = rw h refl

-- ---- the digits in front of it

-- fronts by a narrower test
module _ (p q : ℕ → Bool) (inside : (c : ℕ) → q c ≡ true → p c ≡ true) where
  front_at : (c : ℕ) (x : List ℕ) (a b : Bool) → p c ≡ a → q c ≡ b → front_of q x ≡ front_of q (front_of p x) → front_of q (c ∷ x) ≡ front_of q (front_of p (c ∷ x))
  unfolding front_of
  front_at c x true true h k e = rw (h, k) (ap (λ z. c ∷ z) e)
  front_at c x true false h k e = rw (h, k) refl
  front_at c x false true h k e = let l = inside c k in absurd (cc)
  front_at c x false false h k e = rw (h, k) refl

  front_within : (x : List ℕ) → front_of q x ≡ front_of q (front_of p x)
  unfolding front_of
  front_within [] = refl
  front_within (c ∷ x) = front_at c x (p c) (q c) refl refl (front_within x)

  rest_at : (c : ℕ) (x : List ℕ) (a b : Bool) → p c ≡ a → q c ≡ b → rest_of q (front_of p x) ≡ front_of p (rest_of q x) → rest_of q (front_of p (c ∷ x)) ≡ front_of p (rest_of q (c ∷ x))
  unfolding front_of rest_of
  rest_at c x true true h k e = rw (h, k) e
  rest_at c x true false h k e = rw (h, k) (rw h refl)
  rest_at c x false true h k e = let l = inside c k in absurd (cc)
  rest_at c x false false h k e = rw (h, k) (rw h refl)

  rest_within : (x : List ℕ) → rest_of q (front_of p x) ≡ front_of p (rest_of q x)
  unfolding front_of rest_of
  rest_within [] = refl
  rest_within (c ∷ x) = rest_at c x (p c) (q c) refl refl (rest_within x)

  past_at : (c : ℕ) (x : List ℕ) (b : Bool) → q c ≡ b → rest_of p x ≡ rest_of p (rest_of q x) → rest_of p (c ∷ x) ≡ rest_of p (rest_of q (c ∷ x))
  unfolding rest_of
  past_at c x true k e = let l = inside c k in rw (k, l) e
  past_at c x false k e = rw k refl

  rest_past : (x : List ℕ) → rest_of p x ≡ rest_of p (rest_of q x)
  unfolding rest_of
  rest_past [] = refl
  rest_past (c ∷ x) = past_at c x (q c) refl (rest_past x)

digits_front : (x : List ℕ) → front_of is_digit x ≡ front_of is_digit (run_of x)
digits_front x = front_within in_run is_digit digit_in_run x

digits_rest : (x : List ℕ) → rest_of is_digit (run_of x) ≡ run_of (rest_of is_digit x)
digits_rest x = rest_within in_run is_digit digit_in_run x

pub rest_past_digits : (x : List ℕ) → rest_of in_run x ≡ rest_of in_run (rest_of is_digit x)
rest_past_digits x = rest_past in_run is_digit digit_in_run x

-- the same after the digits in front, where s follows them
pub front_is : (x f : List ℕ) → f ≡ front_of is_digit x → f ≡ front_of is_digit (run_of x)
front_is x f e = e ∙ digits_front x

pub rest_is : (x s : List ℕ) → s ≡ rest_of is_digit x → run_of s ≡ rest_of is_digit (run_of x)
rest_is x s e = ap run_of e ∙ sym (digits_rest x)

pub more_follows : (x s : List ℕ) → s ≡ rest_of is_digit x → begun in_run s ≡ true → is_empty (rest_of is_digit (run_of x)) ≡ false
more_follows x s e h = ap is_empty (sym (rest_is x s e)) ∙ run_some s h

pub none_follows : (x s : List ℕ) → s ≡ rest_of is_digit x → begun in_run s ≡ false → rest_of is_digit (run_of x) ≡ []
none_follows x s e h = sym (rest_is x s e) ∙ no_run s h

pub ends_after : (x s : List ℕ) → s ≡ rest_of is_digit x → begun in_run s ≡ false → s ≡ rest_of in_run x
ends_after x s e h = sym (rest_all s h) ∙ ap (rest_of in_run) e ∙ sym (rest_past_digits x)

-- ---- what ends it

pub same_end : (x y r : List ℕ) → rest_of in_run (chars x) ≡ rest_of in_run (chars y) → EndsRun y r → EndsRun x r
same_end x y r e k = record { follows = k.follows ∙ sym e; text = k.text }

-- the literal of a run whose end the rest has
pub whole_literal : (x y : List ℕ) (n m : Option Parts) (l : Option DecimalLiteral) → n ≡ m → rest_of in_run (chars x) ≡ rest_of in_run (chars y) → ReadsDecimalLiteral m y l → ReadsDecimalLiteral n x l
whole_literal x y n m None e f h = e ∙ h
whole_literal x y n m (Some l) e f h = record { read = e ∙ h.read; digits = h.digits; ends = same_end x y l.rest.now f h.ends }

-- after digits, a point and digits
pub ends_pointed : (x s t z : List ℕ) (c : ℕ) → s ≡ rest_of is_digit x → s ≡ c ∷ t → c ≡ 46 → z ≡ rest_of is_digit t → rest_of in_run z ≡ rest_of in_run x
ends_pointed x s t z c e k n l =
    ap (rest_of in_run) l ∙ sym (rest_past_digits t) ∙ sym (rest_more s t 46 (k ∙ ap (λ d. d ∷ t) n) refl) ∙ ap (rest_of in_run) e ∙ sym (rest_past_digits x)

-- ---- an exponent

pub no_exponent : (x : List ℕ) → begun in_run x ≡ false → exponent_at (run_of x) ≡ Some None
no_exponent x h = ap exponent_at (no_run x h)

pub no_mark : (x : List ℕ) → begun in_run x ≡ true → NotBegun (λ c. (c == 101) || (c == 69)) x → exponent_at (run_of x) ≡ None
no_mark [] h k = absurd (cc)
no_mark (c ∷ y) h k = ap exponent_at (run_more (c ∷ y) y c refl h) ∙ rw k refl

pub at_mark : (x y : List ℕ) (c : ℕ) → x ≡ c ∷ y → ((c == 101) || (c == 69)) ≡ true → exponent_at (run_of x) ≡ exponent_sign (run_of y)
at_mark x y c e k = ap exponent_at (run_more x y c e (e_in_run c k)) ∙ rw k refl

pub past_mark : (x y : List ℕ) (c : ℕ) → x ≡ c ∷ y → ((c == 101) || (c == 69)) ≡ true → rest_of in_run x ≡ rest_of in_run y
past_mark x y c e k = rest_more x y c e (e_in_run c k)

-- an exponent's sign as that of a number
abbrev PastSign : List ℕ → Bool × List ℕ → Type 0
PastSign y p = (exponent_sign (run_of y) ≡ exponent_digits p.0 (run_of p.1)) × (rest_of in_run y ≡ rest_of in_run p.1)

past_plus : (d : ℕ) (z : List ℕ) → d ≡ 43 → PastSign (d ∷ z) (false, z)
past_plus d z h = let k : d ∷ z ≡ 43 ∷ z = ap (λ n. n ∷ z) h in (ap exponent_sign (run_more (d ∷ z) z 43 k refl), rest_more (d ∷ z) z 43 k refl)

past_minus : (d : ℕ) (z : List ℕ) → d ≡ 45 → PastSign (d ∷ z) (true, z)
past_minus d z h = let k : d ∷ z ≡ 45 ∷ z = ap (λ n. n ∷ z) h in (ap exponent_sign (run_more (d ∷ z) z 45 k refl), rest_more (d ∷ z) z 45 k refl)

past_none : (d : ℕ) (z : List ℕ) → (d == 43) ≡ false → (d == 45) ≡ false → PastSign (d ∷ z) (false, d ∷ z)
past_none d z a b = (by (in_run d) refl, refl)
  where
    escape_free : exponent_sign (d ∷ run_of z) ≡ exponent_digits false (d ∷ run_of z)
    escape_free = rw (a, b) refl

    by : (t : Bool) → in_run d ≡ t → exponent_sign (run_of (d ∷ z)) ≡ exponent_digits false (run_of (d ∷ z))
    by true h = let k = run_more (d ∷ z) z d refl h in ap exponent_sign k ∙ escape_free ∙ ap (exponent_digits false) (sym k)
    by false h = let k = no_run (d ∷ z) h in ap exponent_sign k ∙ ap (exponent_digits false) (sym k)

past_sign_at : (y : List ℕ) → PastSign y (split_sign y)
unfolding front_of
past_sign_at [] = (refl, refl)
past_sign_at (d ∷ z) =
    by_test (PastSign (d ∷ z)) (d == 43) (false, z) _ (λ h. past_plus d z (grind (arith, nat_tests)))
    (λ a. by_test (PastSign (d ∷ z)) (d == 45) (true, z) (false, d ∷ z) (λ h. past_minus d z (grind (arith, nat_tests))) (λ b. past_none d z a b))

pub past_sign : (y z : List ℕ) (m : Bool) → split_sign y ≡ (m, z) → PastSign y (m, z)
past_sign y z m e = subst (PastSign y) e (past_sign_at y)

pub signed_tail : (x y z : List ℕ) (c : ℕ) (m : Bool) (t : Option Tail) → chars x ≡ c ∷ y → ((c == 101) || (c == 69)) ≡ true → split_sign y ≡ (m, chars z)
    → ReadsTail (exponent_digits m (run_of (chars z))) z t → ReadsTail (exponent_at (run_of (chars x))) x t
signed_tail x y z c m None e k s h = at_mark (chars x) y c e k ∙ (past_sign y (chars z) m s).0 ∙ h
signed_tail x y z c m (Some t) e k s h = record {
  read = at_mark (chars x) y c e k ∙ (past_sign y (chars z) m s).0 ∙ h.read;
  digits = h.digits;
  ends = same_end x z t.rest.now (past_mark (chars x) y c e k ∙ (past_sign y (chars z) m s).1) h.ends;
}

-- ---- a literal

pub run_escape_free : (x i s : List ℕ) → i ≡ front_of is_digit x → s ≡ rest_of is_digit x → NotBegun (λ c. c == 46) s → literal_at (run_of x) ≡ no_point i (run_of s)
unfolding front_of
run_escape_free x i [] e h n = literal_ends (run_of x) i (run_of []) (front_is x i e) (rest_is x [] h) refl
run_escape_free x i (c ∷ t) e h n = by (in_run c) refl
  where
    by : (b : Bool) → in_run c ≡ b → literal_at (run_of x) ≡ no_point i (run_of (c ∷ t))
    by true l = literal_plain (run_of x) i (run_of (c ∷ t)) (run_of t) c (front_is x i e) (rest_is x (c ∷ t) h) (run_more (c ∷ t) t c refl l) n
    by false l = literal_ends (run_of x) i (run_of (c ∷ t)) (front_is x i e) (rest_is x (c ∷ t) h) (no_run (c ∷ t) l)

pub run_pointed : (x i s t f z : List ℕ) (c : ℕ) → i ≡ front_of is_digit x → s ≡ rest_of is_digit x → s ≡ c ∷ t → c ≡ 46 → f ≡ front_of is_digit t → z ≡ rest_of is_digit t → literal_at (run_of x) ≡ at_point i f (run_of z)
run_pointed x i s t f z c e h k n g l =
    literal_pointed (run_of x) i (run_of s) (run_of t) f (run_of z) 46 (front_is x i e) (rest_is x s h) (run_more s t 46 (k ∙ ap (λ d. d ∷ t) n) refl) refl (front_is t f g) (rest_is t z l)

-- ---- what is in front, by bytes

pub minus_split : (x y : List ℕ) → x ≡ 45 ∷ y → split_sign x ≡ (true, y)
minus_split x y e = rw e refl

pub plus_split : (x y : List ℕ) → x ≡ 43 ∷ y → split_sign x ≡ (false, y)
plus_split x y e = rw e refl

pub no_sign_split : (x : List ℕ) → NotBegun (λ c. c == 45) x → NotBegun (λ c. c == 43) x → split_sign x ≡ (false, x)
no_sign_split [] m p = refl
no_sign_split (c ∷ x) m p = rw (p, m) refl

begun_front : (x : List ℕ) → begun in_run x ≡ not (is_empty (front_of in_run x))
unfolding front_of
begun_front [] = refl
begun_front (c ∷ x) = decide (in_run c) refl
  where
    decide : (b : Bool) → in_run c ≡ b → in_run c ≡ not (is_empty (front_of in_run (c ∷ x)))
    decide true h = rw h refl
    decide false h = rw h refl

run_is_ascii : PassesAscii in_run
run_is_ascii c h = grind (arith, nat_tests)

begun_bytes : (s : List ℕ) → IsUtf8 s → begun in_run s ≡ begun in_run (chars s)
begun_bytes s u = begun_front s ∙ ap (λ z. not (is_empty z)) (front_chars in_run s run_is_ascii u) ∙ sym (begun_front (chars s))

first_begun : (s : List ℕ) → 0 < length s → in_run (slice_index s 0) ≡ begun in_run s
first_begun [] l = absurd (omega arith)
first_begun (c ∷ s) l = refl

none_begun : (s : List ℕ) → length s ≡ 0 → false ≡ begun in_run s
none_begun [] l = refl
none_begun (c ∷ s) l = absurd (omega arith)

pub run_begun : (s : List ℕ) (found : Bool) → IsUtf8 s → 0 < length s → found ≡ in_run (slice_index s 0) → found ≡ begun in_run (chars s)
run_begun s found u l e = e ∙ first_begun s l ∙ begun_bytes s u

pub no_run_begun : (s : List ℕ) → IsUtf8 s → length s ≡ 0 → false ≡ begun in_run (chars s)
no_run_begun s u l = none_begun s l ∙ begun_bytes s u
