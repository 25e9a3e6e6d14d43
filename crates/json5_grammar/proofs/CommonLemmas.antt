-- Common lemmas: tests, lists, bounds, where faults are, and what depends on the next character alone.
use Rattle.std.proofs.Common.{◌≡◌, ℕ, ◌<◌, ◌≤◌, Bool, true, false, cond, ◌||◌, List, [], ◌∷◌, ◌++◌, refl, ap, sym, ◌∙◌, append_assoc, arith, ◌≢◌, subst, Option, Some, None}
use Rattle.std.specs.Prelude.{◌==◌, ◌&&◌, ⊤, nat_lt}
use Rattle.std.specs.Char.{digit_value}
use Rattle.std.proofs.lemmas.Bool.Decides.{nat_tests}
use Rattle.json5_grammar.specs.Language.Characters.{NotBegun, is_digit, is_hex_digit}
use Rattle.json5_grammar.specs.Language.Strings.{Items, no_item, raw, escape, Escape, short, nul, byte, unicode, line_end, cr_lf, lone_cr, itself}
use Rattle.json5_grammar.specs.Faults.Codes.{after_text}
use Rattle.json5_grammar.specs.Model.Reading.{Place, here, inner, IsAt}

-- a test that a `cond` makes
pub by_test : {A : Type 0} (P : A → Type 0) (b : Bool) (x y : A) → (b ≡ true → P x) → (b ≡ false → P y) → P (cond b x y)
by_test P true x y f g = f refl
by_test P false x y f g = g refl

pub eq_from : (c d : ℕ) → (c == d) ≡ true → c ≡ d
eq_from c d h = grind arith

pub neq_from : (c d : ℕ) → (c == d) ≡ false → c ≢ d
neq_from c d h = grind arith

pub not_eq : (c d : ℕ) → c ≢ d → (c == d) ≡ false
not_eq c d h = grind arith

pub same_char : (q : ℕ) → (q == q) ≡ true
same_char q = grind arith

-- ---- parts of lists and tests

pub first_same : (c d : ℕ) (x y : List ℕ) → c ∷ x ≡ d ∷ y → c ≡ d
first_same c d x y e = cc

pub rest_same : (c d : ℕ) (x y : List ℕ) → c ∷ x ≡ d ∷ y → x ≡ y
rest_same c d x y e = cc

pub cons_not_nil : (c : ℕ) (x : List ℕ) → c ∷ x ≢ []
cons_not_nil c x e = cc

pub and_left : (a b : Bool) → (a && b) ≡ true → a ≡ true
and_left true b h = refl
and_left false b h = h

pub and_right : (a b : Bool) → (a && b) ≡ true → b ≡ true
and_right true b h = h
and_right false b h = cc

pub or_right : (a b : Bool) → (a || b) ≡ true → a ≡ false → b ≡ true
or_right true b h k = cc
or_right false b h k = h

pub true_false : {A : Type 0} {b : Bool} → b ≡ true → b ≡ false → A
true_false h k = let e : true ≡ false = sym h ∙ k in absurd (cc)

pub none_some : {C : Type 0} {A : Type 0} (o : Option C) (v : C) → o ≡ None → o ≡ Some v → A
none_some o v e h = absurd (cc)

-- what follows two texts and a third follows the third
pub append_after_two : (a b c d : List ℕ) → (a ++ (b ++ c)) ++ d ≡ a ++ (b ++ (c ++ d))
append_after_two a b c d = simp append_assoc

-- ---- bounds, from their tests

pub lt_from : (a b : ℕ) → nat_lt a b ≡ true → a < b
lt_from a b h = grind (arith, nat_tests)

pub le_from : (a b : ℕ) → nat_lt a b ≡ false → b ≤ a
le_from a b h = grind (arith, nat_tests)

-- what is a hexadecimal digit has a value below 16
pub hex_value : (c : ℕ) → digit_value c < 16 → is_hex_digit c ≡ true
hex_value c h = grind (arith, nat_tests)

pub no_hex : (c : ℕ) → 16 ≤ digit_value c → is_hex_digit c ≡ false
no_hex c h = grind (arith, nat_tests)

-- ---- places, and the next character

-- a place after more text
pub at_after : (t x : List ℕ) (pl : Option (List ℕ)) (p : Place) → IsAt x pl p → IsAt (t ++ x) (after_text t pl) p
at_after t x (Some b) (here q) e = ap (λ z. t ++ z) e ∙ sym (append_assoc t b q)
at_after t x (Some b) inner h = absurd h
at_after t x None (here q) h = absurd h
at_after t x None inner h = tt

abbrev pub SameHead : List ℕ → List ℕ → Type 0
SameHead [] [] = ⊤
SameHead [] (d ∷ s) = ⊥
SameHead (c ∷ r) [] = ⊥
SameHead (c ∷ r) (d ∷ s) = c ≡ d

pub same_append : (x q r : List ℕ) → SameHead q r → SameHead (x ++ q) (x ++ r)
same_append [] q r h = h
same_append (c ∷ x) q r h = refl

pub same_not : (p : ℕ → Bool) (q r : List ℕ) → SameHead q r → NotBegun p q → NotBegun p r
same_not p [] [] h n = tt
same_not p [] (d ∷ r) h n = absurd h
same_not p (c ∷ q) [] h n = absurd h
same_not p (c ∷ q) (d ∷ r) h n = subst (λ z. p z ≡ false) h n

same_escape : {e v q : List ℕ} (r : List ℕ) → SameHead q r → Escape e v q → Escape e v r
same_escape r h (short k) = short k
same_escape r h (nul {r = q} n) = nul (same_not is_digit q r h n)
same_escape r h (byte k) = byte k
same_escape r h (unicode u) = unicode u
same_escape r h (line_end t n) = line_end t n
same_escape r h cr_lf = cr_lf
same_escape r h (lone_cr {r = q} n) = lone_cr (same_not (λ c. c == 10) q r h n)
same_escape r h (itself k) = itself k

pub same_items : {c : ℕ} {q s u : List ℕ} {escape_free : Bool} (r : List ℕ) → SameHead q r → Items c q s u escape_free → Items c r s u escape_free
same_items r h no_item = no_item
same_items r h (raw k i) = raw k (same_items r h i)
same_items {q = q} r h (escape {s = s} x i) = escape (same_escape (s ++ r) (same_append s q r h) x) (same_items r h i)
