-- Reading a number by its first characters.
use Rattle.std.proofs.Common.{◌≡◌, ◌<◌, ℕ, Bool, true, false, cond, List, [], ◌∷◌, ◌++◌, length, refl, ap, sym, subst, ◌∙◌, ◌≢◌, arith, Some, None}
use Rattle.std.proofs.lemmas.Bool.Decides.{nat_tests}
use Rattle.std.specs.Prelude.{◌==◌, ◌||◌, slice_index}
use lib.Chars.{codes}
use Rattle.json5_grammar.specs.declared.error_code.ErrorCode.TheVariants.{EofParsingNumber, ExpectedNumber, LeadingZero}
use Rattle.json5_grammar.specs.Language.Characters.{is_digit}
use Rattle.json5_grammar.specs.Language.Numbers.{decimal, infinite, nan, hex_start, in_run, begins_run}
use Rattle.json5_grammar.specs.Model.Reading.{bad, here, inner, word_at}
use Rattle.std.specs.Str.{IsUtf8, chars}
use Rattle.std.proofs.lemmas.Str.{IsUtf8-past_char, chars_past_char, encode_ascii}
use Rattle.json5_grammar.proofs.CommonLemmas.{not_eq}
use Rattle.json5_tokens.proofs.NumberSteps.{infinity_rest, nan_rest}
use Rattle.json5_tokens.specs.NumberParts.{IsAtRun, split_sign}
use Rattle.json5_grammar.specs.Model.ReadNumbers.{front_of, rest_of, literal_at, if_literal, decimal_run, at_zero, unsigned, number}

-- ---- decimal runs

pub run_refused : (q : List ℕ) (m : Bool) (x : List ℕ) → literal_at (front_of in_run x) ≡ None → decimal_run q m x ≡ bad None (here q)
run_refused q m x h = ap (if_literal q m (rest_of in_run x)) h

-- ---- after a first `0`

pub zero_leads : (q : List ℕ) (m : Bool) (x y : List ℕ) (c : ℕ) → x ≡ c ∷ y → is_digit c ≡ true → at_zero q m x ≡ bad (Some LeadingZero) (here q)
zero_leads q m x y c e h = rw (e, h) refl

-- ---- without a sign

pub unsigned_ends : (q : List ℕ) (m : Bool) (x : List ℕ) → x ≡ [] → unsigned q m x ≡ bad (Some EofParsingNumber) inner
unfolding unsigned
unsigned_ends q m x e = rw e refl

infinity_at : (q : List ℕ) (m : Bool) (x y : List ℕ) (c : ℕ) → x ≡ c ∷ y → c ≡ 73 → unsigned q m x ≡ word_at EofParsingNumber ExpectedNumber (decimal (infinite m)) (codes "nfinity") y
unfolding unsigned
infinity_at q m x y c e h = rw (e, h) refl

pub unsigned_infinity : (q : List ℕ) (m : Bool) (x y : List ℕ) (c : ℕ) → x ≡ c ∷ y → c ≡ 73 → unsigned q m x ≡ word_at EofParsingNumber ExpectedNumber (decimal (infinite m)) (chars (codes "nfinity")) y
unsigned_infinity q m x y c e h = infinity_at q m x y c e h ∙ ap (λ z. word_at EofParsingNumber ExpectedNumber (decimal (infinite m)) z y) (sym infinity_rest)

nan_at : (q : List ℕ) (m : Bool) (x y : List ℕ) (c : ℕ) → x ≡ c ∷ y → c ≡ 78 → unsigned q m x ≡ word_at EofParsingNumber ExpectedNumber (decimal (nan m)) (codes "aN") y
unfolding unsigned
nan_at q m x y c e h = rw (e, h) refl

pub unsigned_nan : (q : List ℕ) (m : Bool) (x y : List ℕ) (c : ℕ) → x ≡ c ∷ y → c ≡ 78 → unsigned q m x ≡ word_at EofParsingNumber ExpectedNumber (decimal (nan m)) (chars (codes "aN")) y
unsigned_nan q m x y c e h = nan_at q m x y c e h ∙ ap (λ z. word_at EofParsingNumber ExpectedNumber (decimal (nan m)) z y) (sym nan_rest)

pub unsigned_zero : (q : List ℕ) (m : Bool) (x y : List ℕ) (c : ℕ) → x ≡ c ∷ y → c ≡ 48 → unsigned q m x ≡ at_zero q m y
unfolding unsigned
unsigned_zero q m x y c e h = rw (e, h) refl

pub unsigned_run : (q : List ℕ) (m : Bool) (x y : List ℕ) (c : ℕ) → x ≡ c ∷ y → c ≢ 48 → begins_run c ≡ true → unsigned q m x ≡ decimal_run q m x
unfolding unsigned
unsigned_run q m x y c e z h =
    let o : (c == 73) ≡ false = grind (arith, nat_tests) in
    let p : (c == 78) ≡ false = grind (arith, nat_tests) in
    let r = not_eq c 48 z in
    rw e (rw (o, p, r, h) refl)

at_point : (q : List ℕ) (m : Bool) (x y : List ℕ) (c : ℕ) → x ≡ c ∷ y → ((c == 46) || ((c == 101) || (c == 69))) ≡ true → at_zero q m x ≡ decimal_run q m (48 ∷ x)
at_point q m x y c e h =
    let d : is_digit c ≡ false = grind (arith, nat_tests) in
    let s : hex_start c ≡ false = grind (arith, nat_tests) in
    rw e (rw (d, s, h) refl)

pub zero_run : (q : List ℕ) (m : Bool) (x y z : List ℕ) (c d : ℕ) → x ≡ c ∷ y → c ≡ 48 → y ≡ d ∷ z → ((d == 46) || ((d == 101) || (d == 69))) ≡ true → unsigned q m x ≡ decimal_run q m x
zero_run q m x y z c d e h f k = unsigned_zero q m x y c e h ∙ at_point q m y z d f k ∙ ap (decimal_run q m) (sym (e ∙ ap (λ n. n ∷ y) h))

-- a number told by its first bytes

past_ascii : (s x : List ℕ) (c : ℕ) → IsUtf8 x → x ≡ c ∷ s → c < 128 → IsUtf8 s × (chars x ≡ c ∷ chars s)
past_ascii s x c u e h =
    let front = e ∙ ap (λ z. z ++ s) (sym (encode_ascii c h)) in
    (IsUtf8-past_char x s c u front, chars_past_char x s c u front)

pub begins_at_run : (s bytes : List ℕ) → bytes ≡ s → IsUtf8 s → (length bytes ≡ 0 → ⊥) → (slice_index bytes 0 ≡ 48 → ⊥) → begins_run (slice_index bytes 0) ≡ true → IsAtRun (chars s)
begins_at_run [] bytes e u some zero begun = absurd (some (ap length e))
begins_at_run (c ∷ s) bytes e u some zero begun = λ start negative.
    let begins : begins_run c ≡ true = subst (λ z. begins_run (slice_index z 0) ≡ true) e begun in
    let ascii : c < 128 = grind (arith, nat_tests) in
    unsigned_run start negative (chars (c ∷ s)) (chars s) c (past_ascii s (c ∷ s) c u refl ascii).1 (λ h. zero (ap (λ z. slice_index z 0) e ∙ h)) begins

pub zero_at_run : (s bytes : List ℕ) → bytes ≡ s → IsUtf8 s → 1 < length bytes → slice_index bytes 0 ≡ 48 → ((slice_index bytes 1 == 46) || ((slice_index bytes 1 == 101) || (slice_index bytes 1 == 69))) ≡ true → IsAtRun (chars s)
zero_at_run [] bytes e u l zero mark = let k = ap length e in absurd (omega (arith, k, l))
zero_at_run (c ∷ []) bytes e u l zero mark = let k = ap length e in absurd (omega (arith, k, l))
zero_at_run (c ∷ d ∷ s) bytes e u l zero mark = λ start negative.
    let first : c ≡ 48 = sym (ap (λ z. slice_index z 0) e) ∙ zero in
    let marks : ((d == 46) || ((d == 101) || (d == 69))) ≡ true = subst (λ z. ((slice_index z 1 == 46) || ((slice_index z 1 == 101) || (slice_index z 1 == 69))) ≡ true) e mark in
    let ascii : d < 128 = grind (arith, nat_tests) in
    let front = past_ascii (d ∷ s) (c ∷ (d ∷ s)) c u refl (omega (arith, first)) in
    zero_run start negative (chars (c ∷ (d ∷ s))) (chars (d ∷ s)) (chars s) c d front.1 first (past_ascii s (d ∷ s) d front.0 refl ascii).1 marks

pub unsigned_other : (q : List ℕ) (m : Bool) (x y : List ℕ) (c : ℕ) → x ≡ c ∷ y → c ≢ 73 → c ≢ 78 → c ≢ 48 → begins_run c ≡ false → unsigned q m x ≡ bad (Some ExpectedNumber) (here x)
unfolding unsigned
unsigned_other q m x y c e i n z h = let o = not_eq c 73 i in let p = not_eq c 78 n in let r = not_eq c 48 z in rw e (rw (o, p, r, h) refl)

-- ---- with a sign

after_cond : {A B : Type 0} (f : A → B) (a b : Bool) (u v w : A) → cond a (f u) (cond b (f v) (f w)) ≡ f (cond a u (cond b v w))
after_cond f true b u v w = refl
after_cond f false true u v w = refl
after_cond f false false u v w = refl

signed_at : (x : List ℕ) → number x ≡ unsigned x (split_sign x).0 (split_sign x).1
unfolding number unsigned
signed_at [] = refl
signed_at (c ∷ r) = after_cond {A = Bool × List ℕ} (λ p. unsigned (c ∷ r) p.0 p.1) (c == 43) (c == 45) (false, r) (true, r) (false, c ∷ r)

pub number_signed : (x y : List ℕ) (m : Bool) → split_sign x ≡ (m, y) → number x ≡ unsigned x m y
number_signed x y m e = signed_at x ∙ ap (λ (p : Bool × List ℕ). unsigned x p.0 p.1) e
