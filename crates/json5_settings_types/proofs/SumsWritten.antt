-- Sums that are written.
use Rattle.std.proofs.Common.{◌≡◌, ◌∙◌, ◌+◌, ◌*◌, ◌/◌, ◌%◌, ◌<◌, ◌≤◌, ◌^◌, ℕ, zero, suc, Bool, true, false, List, [], ◌∷◌, ◌++◌, length, drop, refl, subst, sym, ap, append_assoc, arith, decimal}
use Rattle.std.specs.Prelude.{◌==◌, ◌&&◌, nat_lt, if◌then◌else◌}
use Rattle.std.proofs.lemmas.Bool.Decides.{nat_tests}
use Rattle.std.proofs.lemmas.Fmt.{IsAscii-decimal, decimal_is_IsNumeral}
use Rattle.std.proofs.lemmas.Str.{IsAscii-append}
use Rattle.std.proofs.lemmas.Str.Ascii.{IsAscii-nil}
use Rattle.std.proofs.Math.Nat.{mod-le}
use Rattle.std.specs.Str.{IsAscii}
use Rattle.std.proofs.lemmas.List.{append-nil, drop_all, length-append}
use Rattle.std.specs.Str.Parse.{digits_value}
use Rattle.json5_settings_types.specs.Sums.{IsSum, Measure, measures_of, part, parts_text, without, nothing}
use Rattle.json5_settings_types.specs.declared.units.Unit.{Unit}
use Rattle.json5_settings_types.proofs.SumLaws.{and_both, below}

module _ (us : List Measure) (u : Measure) (n : ℕ) (text : List ℕ) where
  pub smaller : n < u.size → text ++ parts_text us n ≡ text ++ parts_text (u ∷ us) n
  unfolding parts_text
  smaller small = let yes : nat_lt n u.size ≡ true = grind (arith, nat_tests) in rw yes refl

  pub has_part : (new after digits : List ℕ) → u.size ≤ n → digits ≡ decimal (n / u.size) → after ≡ text ++ digits → new ≡ after ++ u.name → new ++ parts_text us (n % u.size) ≡ text ++ parts_text (u ∷ us) n
  unfolding parts_text
  has_part new after digits large written first second =
      let no_less : nat_lt n u.size ≡ false = grind (arith, nat_tests) in
      rw (second, first, written, no_less, append_assoc (text ++ decimal (n / u.size)) u.name (parts_text us (n % u.size)), append_assoc text (decimal (n / u.size)) (u.name ++ parts_text us (n % u.size))) refl

-- no unit is left
pub all_written : (text whole : List ℕ) (units : List Unit) (i n : ℕ) → length units ≤ i → text ++ parts_text (measures_of (drop i units)) n ≡ whole → text ≡ whole
unfolding parts_text
all_written text whole units i n last written = let none : drop i units ≡ [] = drop_all i units last in sym (append-nil text) ∙ (rw none at written)

-- ---- what is written is a sum

-- the last of these units is the smallest
abbrev pub ends_in_one : List Measure → Bool
ends_in_one [] = false
ends_in_one (u ∷ []) = u.size == 1
ends_in_one (u ∷ v ∷ us) = nat_lt 0 u.size && ends_in_one (v ∷ us)

pub divided : (n k : ℕ) → 0 < k → n / k * k + n % k ≡ n
divided n k some = omega (arith, some)

quotient_small : (n k : ℕ) → 0 < k → n < 2 ^ 64 → n / k < 2 ^ 64
quotient_small n k some small = grind (arith, divided n k some)

pub none : (n : ℕ) → n ≡ 0 → IsSum [] (parts_text [] n) n
unfolding parts_text
none n nil = subst (IsSum [] []) (sym nil) nothing

module _ (u : Measure) (us : List Measure) (n : ℕ) where
  pub one_more : 0 < u.size → n < 2 ^ 64 → (n < u.size → IsSum us (parts_text us n) n) → IsSum us (parts_text us (n % u.size)) (n % u.size) → IsSum (u ∷ us) (parts_text (u ∷ us) n) n
  unfolding parts_text
  one_more some small without_it rest = by (nat_lt n u.size) refl
    where
      by : (b : Bool) → nat_lt n u.size ≡ b → IsSum (u ∷ us) (if b then parts_text us n else decimal (n / u.size) ++ (u.name ++ parts_text us (n % u.size))) n
      by true less = without u (without_it (below n u.size less))
      by false less =
          let (numeral, value) = decimal_is_IsNumeral (n / u.size) (quotient_small n u.size some small) in
          let sums : digits_value 10 (decimal (n / u.size)) * u.size + n % u.size ≡ n = ap (λ d. d * u.size + n % u.size) value ∙ divided n u.size some in
          subst (IsSum (u ∷ us) (decimal (n / u.size) ++ (u.name ++ parts_text us (n % u.size)))) sums (part u (decimal (n / u.size)) numeral rest)

pub parts_sum : (us : List Measure) (n : ℕ) → ends_in_one us ≡ true → n < 2 ^ 64 → IsSum us (parts_text us n) n
parts_sum [] n last small = absurd (cc)
parts_sum (u ∷ []) n last small =
    let one : u.size ≡ 1 = grind (arith, nat_tests, last) in
    let positive : 0 < u.size = omega (arith, one) in
    one_more u [] n positive small (λ less. none n (omega (arith, one, less))) (none (n % u.size) (omega (arith, one, divided n u.size positive)))
parts_sum (u ∷ v ∷ us) n last small =
    let (some, others) = and_both (nat_lt 0 u.size) (ends_in_one (v ∷ us)) last in
    let positive : 0 < u.size = grind (arith, nat_tests, some) in
    one_more u (v ∷ us) n positive small (λ less. parts_sum (v ∷ us) n others small) (parts_sum (v ∷ us) (n % u.size) others (omega (arith, positive, divided n u.size positive)))

-- a sum that isn't 0 has a part
pub some_part : {us : List Measure} {text : List ℕ} {n : ℕ} → IsSum us text n → length text ≡ 0 → n ≡ 0
some_part nothing empty = refl
some_part (without u rest) empty = some_part rest empty
some_part (part u digits {text = text} numeral rest) empty = absurd (omega (arith, numeral.0, length-append digits (u.name ++ text), empty))

pub some_text : {us : List Measure} {text : List ℕ} {n : ℕ} → IsSum us text n → (n == 0) ≡ false → 0 < length text
some_text {text = text} {n = n} sum some = by (nat_lt 0 (length text)) refl
  where
    by : (b : Bool) → nat_lt 0 (length text) ≡ b → 0 < length text
    by true is = below 0 (length text) is
    by false is = let zero : n ≡ 0 = some_part sum (grind (arith, nat_tests)) in absurd (grind (arith, nat_tests))

-- ---- it is ASCII

abbrev pub is_plain : List ℕ → Bool
is_plain [] = true
is_plain (c ∷ cs) = nat_lt c 128 && is_plain cs

ascii_more : (c : ℕ) (cs : List ℕ) → c < 128 → IsAscii cs → IsAscii (c ∷ cs)
ascii_more c cs small others zero = small
ascii_more c cs small others (suc i) = others i

pub plain_ascii : (text : List ℕ) → is_plain text ≡ true → IsAscii text
plain_ascii [] is = IsAscii-nil
plain_ascii (c ∷ cs) is = let (first, others) = and_both (nat_lt c 128) (is_plain cs) is in ascii_more c cs (below c 128 first) (plain_ascii cs others)

abbrev pub are_plain : List Measure → Bool
are_plain [] = true
are_plain (u ∷ us) = (nat_lt 0 u.size && is_plain u.name) && are_plain us

pub parts_ascii : (us : List Measure) (n : ℕ) → are_plain us ≡ true → n < 2 ^ 64 → IsAscii (parts_text us n)
unfolding parts_text
parts_ascii [] n plain small = IsAscii-nil
parts_ascii (u ∷ us) n plain small =
    let (this, others) = and_both (nat_lt 0 u.size && is_plain u.name) (are_plain us) plain in
    let (some, name) = and_both (nat_lt 0 u.size) (is_plain u.name) this in
    let positive : 0 < u.size = below 0 u.size some in
    let rest : n % u.size < 2 ^ 64 = omega (arith, mod-le n u.size) in
    by (nat_lt n u.size) (parts_ascii us n others small) (plain_ascii u.name name) (IsAscii-decimal (n / u.size) (quotient_small n u.size positive small)) (parts_ascii us (n % u.size) others rest)
  where
    by : (b : Bool) → IsAscii (parts_text us n) → IsAscii u.name → IsAscii (decimal (n / u.size)) → IsAscii (parts_text us (n % u.size)) → IsAscii (if b then parts_text us n else decimal (n / u.size) ++ (u.name ++ parts_text us (n % u.size)))
    by true skipped name digits rest = skipped
    by false skipped name digits rest = IsAscii-append _ _ digits (IsAscii-append _ _ name rest)
