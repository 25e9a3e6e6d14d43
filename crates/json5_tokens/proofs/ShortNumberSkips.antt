-- The short way past numbers takes what reading on lists takes.
use Rattle.std.proofs.Common.{◌≡◌, ℕ, ◌-◌, ◌≤◌, ◌<◌, Bool, true, false, ◌||◌, if◌then◌else◌, List, [], ◌∷◌, ◌++◌, length, drop, refl, ap, sym, ◌∙◌, arith, append_assoc, length-append, Option, Some, None}
use denote.Ref.{Bor}
use Rattle.std.specs.Prelude.{IfSome, ◌==◌, ℤ, pos, neg_ℤ, ◌≤ℤ◌, ◌+ℤ◌, ◌-ℤ◌}
use Rattle.std.specs.Char.{digit_value}
use Rattle.std.specs.Str.{IsUtf8, chars}
use Rattle.std.proofs.lemmas.Str.{digit_value_digit}
use Rattle.std.proofs.lemmas.Bool.Decides.{nat_tests}
use Rattle.std.proofs.lemmas.Int.{ints}
use Rattle.json5_grammar.specs.Language.Characters.{NotBegun, is_digit, Each, char}
use Rattle.json5_grammar.specs.Language.Numbers.{Number, Num, is_decimal, whole, decimal, Sign, no_sign, plus, minus, signed, spelled, integer, with_point, no_exponent, exponent, Literal, literal, InExponents, all_digits, digits_after, exponent_of, written, without_zeros, without_front_zeros, is_empty, lengthens, lengthens_body}
use Rattle.json5_grammar.specs.Model.ReadNumbers as model
use Rattle.json5_grammar.specs.Model.ReadNumbers.{front_of, rest_of}
use Rattle.json5_grammar.proofs.DecimalsWritten.{length-front}
use Rattle.json5_grammar.proofs.DecimalLiterals.{Head, alone, longer, literal_head}
use Rattle.std.proofs.lemmas.Bool.{both_ways}
use Rattle.json5_grammar.proofs.NumbersRead.{complete, head_bare, lengthens_bare, lengthens_longer}
use Rattle.json5_grammar.proofs.NumbersSound.{whole_true, whole_num}
use Rattle.json5_grammar.proofs.CharacterTests.{front_rest}
use Rattle.json5_tokens.specs.ByteRuns.{lengthens_digits}
use Rattle.json5_types.specs.DigitRuns.{SplitsDigits}
use Rattle.json5_tokens.specs.ShortWays.{IsInFront}
use Rattle.json5_tokens.specs.ShortNumberSkips.{FollowsSign, FollowsMantissa, FollowsPower, FollowsExponent}
use Rattle.json5_tokens.specs.TokenResults.{GivesRest}
use Rattle.json5_tokens.proofs.WholesOfFewDigits.{whole_digits, literal_end, not_lengthened, ends_chars, lengthens_ascii}

-- ---- a sign in front

pub minus_follows : (text rest : List ℕ) → IsInFront 45 text true → rest ≡ drop 1 text → FollowsSign text rest
minus_follows text rest k e = record { sign = 45 ∷ []; negative = true; is_sign = minus; split = k.1 ∙ ap (λ z. 45 ∷ chars z) (sym e) }

pub plus_follows : (text rest : List ℕ) → IsInFront 43 text true → rest ≡ drop 1 text → FollowsSign text rest
plus_follows text rest k e = record { sign = 43 ∷ []; negative = false; is_sign = plus; split = k.1 ∙ ap (λ z. 43 ∷ chars z) (sym e) }

pub none_follows : (text : List ℕ) → FollowsSign text text
none_follows text = record { sign = []; negative = false; is_sign = no_sign; split = refl }

-- ---- digits in front

digits_split : (text start rest : List ℕ) → SplitsDigits text start rest → chars text ≡ start ++ chars rest
digits_split text start rest k = front_rest is_digit (chars text) ∙ ap (λ z. front_of is_digit (chars text) ++ z) (sym k.rest) ∙ ap (λ z. z ++ chars rest) (sym k.front)

pub integer_follows : (text start rest : List ℕ) → SplitsDigits text start rest → model.is_integer start ≡ true → length start ≤ 1000 → FollowsMantissa text rest
integer_follows text start rest k i l = record {
  mantissa = start;
  before = start;
  after = None;
  is_mantissa = integer (whole_digits start k.digits i);
  few = omega (arith, l, length-append start []);
  split = digits_split text start rest k;
  text_rest = k.text;
}

pub point_follows : (text start mid back after rest : List ℕ) → SplitsDigits text start mid → model.is_integer start ≡ true → length start ≤ 1000 → IsInFront 46 mid true → back ≡ drop 1 mid → SplitsDigits back after rest → length after ≤ 1000 → FollowsMantissa text rest
point_follows text start mid back after rest k i l p e m n = record {
  mantissa = start ++ 46 ∷ after;
  before = start;
  after = Some after;
  is_mantissa = with_point (whole_digits start k.digits i) m.digits;
  few = omega (arith, l, n, length-append start after);
  split = digits_split text start mid k ∙ ap (λ z. start ++ z) (p.1 ∙ ap (λ z. 46 ∷ chars z) (sym e) ∙ ap (λ z. 46 ∷ z) (digits_split back after rest m)) ∙ sym (append_assoc start (46 ∷ after) (chars rest));
  text_rest = m.text;
}

-- ---- an exponent

small_digit : (c : ℕ) → is_digit c ≡ true → digit_value c ≤ 9
small_digit c h =
    let low : 48 ≤ c = grind (arith, nat_tests) in
    let high : c ≤ 57 = grind (arith, nat_tests) in
    let k = digit_value_digit c (low, high) in
    omega (arith, k, high)

-- at most four digits
small_power : (c : ℕ) (s : List ℕ) → Each is_digit (c ∷ s) → length (c ∷ s) ≤ 4 → spelled 10 0 (c ∷ s) ≤ 10000
small_power a [] (char h e) l = let x = small_digit a h in omega (arith, x)
small_power a (b ∷ []) (char h (char i e)) l = let x = small_digit a h in let y = small_digit b i in omega (arith, x, y)
small_power a (b ∷ c ∷ []) (char h (char i (char j e))) l = let x = small_digit a h in let y = small_digit b i in let z = small_digit c j in omega (arith, x, y, z)
small_power a (b ∷ c ∷ d ∷ []) (char h (char i (char j (char k e)))) l = let x = small_digit a h in let y = small_digit b i in let z = small_digit c j in let w = small_digit d k in omega (arith, x, y, z, w)
small_power a (b ∷ c ∷ d ∷ f ∷ s) e l = absurd (omega (arith, l))

pub power_follows : (text mid start rest : List ℕ) → FollowsSign text mid → SplitsDigits mid start rest → 0 < length start → length start ≤ 4 → FollowsPower text rest
power_follows text mid [] rest k m some l = absurd (omega (arith, some))
power_follows text mid (c ∷ s) rest k m some l = record {
  sign = k.sign;
  negative = k.negative;
  first = c;
  others = s;
  is_sign = k.is_sign;
  digits = m.digits;
  small = small_power c s m.digits l;
  split = k.split ∙ ap (λ z. k.sign ++ z) (digits_split mid (c ∷ s) rest m) ∙ sym (append_assoc k.sign (c ∷ s) (chars rest));
  text_rest = m.text;
}

signed_small : (m : Bool) (n : ℕ) → n ≤ 10000 → (neg_ℤ (pos 10000) ≤ℤ signed m n) × (signed m n ≤ℤ pos 10000)
signed_small true n h = (omega (arith, ints, h), omega (arith, ints, h))
signed_small false n h = (omega (arith, ints, h), omega (arith, ints, h))

exponent_follows : (text back rest : List ℕ) (c : ℕ) → ((c == 101) || (c == 69)) ≡ true → IsInFront c text true → back ≡ drop 1 text → FollowsPower back rest → FollowsExponent text rest
exponent_follows text back rest c h p e k = record {
  exponent = c ∷ k.sign ++ k.first ∷ k.others;
  raised = Some (signed k.negative (spelled 10 0 (k.first ∷ k.others)));
  is_exponent = exponent h k.is_sign k.digits;
  low = (signed_small k.negative (spelled 10 0 (k.first ∷ k.others)) k.small).0;
  high = (signed_small k.negative (spelled 10 0 (k.first ∷ k.others)) k.small).1;
  split = p.1 ∙ ap (λ z. c ∷ chars z) (sym e) ∙ ap (λ z. c ∷ z) k.split;
  text_rest = k.text_rest;
}

pub exponent_if : (text back : List ℕ) (c : ℕ) (result : Option (Bor (List ℕ))) → ((c == 101) || (c == 69)) ≡ true → IsInFront c text true → back ≡ drop 1 text → IfSome result (λ rest. FollowsPower back rest.now) → IfSome result (λ rest. FollowsExponent text rest.now)
exponent_if text back c None h p e k = tt
exponent_if text back c (Some rest) h p e k = exponent_follows text back rest.now c h p e k

pub no_exponent_follows : (text : List ℕ) → IsUtf8 text → FollowsExponent text text
no_exponent_follows text u = record { exponent = []; raised = None; is_exponent = no_exponent; low = omega (arith, ints); high = omega (arith, ints); split = refl; text_rest = u }

-- ---- the number

in_either : (b : Bool) (z : ℤ) → InExponents z → InExponents (if b then pos 0 else z)
in_either true z h = (omega (arith, ints), omega (arith, ints))
in_either false z h = h

small_exponents : (i : List ℕ) (f : Option (List ℕ)) (w : Option ℤ) → length (all_digits i f) ≤ 2000 → neg_ℤ (pos 10000) ≤ℤ written w → written w ≤ℤ pos 10000 → InExponents (exponent_of i f w)
small_exponents i f w few low high =
    let ds = all_digits i f in
    let g : ℕ = length (without_front_zeros ds) - length (without_zeros ds) in
    let l : g ≤ 2000 = omega (arith, few, length-front ds) in
    let k : length (digits_after f) ≤ 2000 = omega (arith, few, length-append i (digits_after f)) in
    in_either (is_empty (without_zeros ds)) (written w -ℤ pos (length (digits_after f)) +ℤ pos g) (omega (arith, ints, low, high, l, k), omega (arith, ints, low, high, l, k))

some_number : {s l i : List ℕ} {m : Bool} (f : Option (List ℕ)) (w : Option ℤ) → Sign s m → Literal l i f w → InExponents (exponent_of i f w) → (n : Number) × Num (s ++ l) n
some_number {s = s} {l = l} {i = i} {m = m} f w g k e = decide (model.is_whole m i f w) refl
  where
    decide : (b : Bool) → model.is_whole m i f w ≡ b → (n : Number) × Num (s ++ l) n
    decide true h = (whole (signed m (spelled 10 0 i)), whole_num f w h g k)
    decide false h = (decimal _, is_decimal g k (λ o. both_ways (model.is_whole m i f w) h (whole_true m i f w o)) e)

-- ---- where it ends

head_ends : {l : List ℕ} → Head l → (d : ℕ) → lengthens_digits d ≡ false → lengthens_body l d ≡ false
head_ends alone d h = (literal_end d h).0
head_ends (longer x) d h = lengthens_longer x d ∙ (literal_end d h).1

literal_ends : {s l i : List ℕ} {m : Bool} {f : Option (List ℕ)} {w : Option ℤ} (r : List ℕ) → Sign s m → Literal l i f w → NotBegun lengthens_digits r → NotBegun (lengthens (s ++ l)) r
literal_ends {s = s} {l = l} r g k n =
    let x = literal_head k in
    not_lengthened lengthens_digits (lengthens (s ++ l)) r (λ c h. lengthens_bare g (head_bare x) c ∙ head_ends x c h) n

pub number_follows : (text body mid rest : List ℕ) → FollowsSign text body → FollowsMantissa body mid → FollowsExponent mid rest → NotBegun lengthens_digits rest → GivesRest (model.number (chars text)) rest
number_follows text body mid rest s m e n =
    let is = literal m.is_mantissa e.is_exponent in
    let (number, num) = some_number m.after e.raised s.is_sign is (small_exponents m.before m.after e.raised m.few e.low e.high) in
    let l = m.mantissa ++ e.exponent in
    let split : chars text ≡ (s.sign ++ l) ++ chars rest =
    s.split ∙ ap (λ z. s.sign ++ z) (m.split ∙ ap (λ z. m.mantissa ++ z) e.split ∙ sym (append_assoc m.mantissa e.exponent (chars rest))) ∙ sym (append_assoc s.sign l (chars rest)) in
    record {
      value = number;
      read = ap model.number split ∙ complete num (chars rest) (literal_ends (chars rest) s.is_sign is (ends_chars lengthens_digits rest lengthens_ascii e.text_rest n));
      text = e.text_rest;
    }
