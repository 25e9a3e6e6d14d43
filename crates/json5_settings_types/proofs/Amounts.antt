-- Texts of one number and one unit.
use Rattle.std.proofs.Common.{◌≡◌, ◌∙◌, ◌+◌, ◌*◌, ◌/◌, ◌%◌, ◌⊎◌, inl, inr, ◌<◌, ◌≤◌, ◌^◌, ◌&&◌, ◌||◌, ℕ, Bool, true, false, List, [], ◌∷◌, ◌++◌, Option, Some, None, length, drop, refl, sym, ap, arith}
use Rattle.std.specs.Prelude.{◌==◌, not, nat_lt, if◌then◌else◌}
use Rattle.std.proofs.Common.{get_or}
use Rattle.std.specs.Str.{IsAscii, bytes_eq}
use Rattle.std.proofs.lemmas.Bool.{false≢true}
use Rattle.std.proofs.lemmas.Bool.Decides.{nat_tests}
use Rattle.std.proofs.lemmas.List.{append-nil, drop_all}
use Rattle.std.proofs.lemmas.Nat.{div_below, mod_below}
use Rattle.std.proofs.lemmas.Str.Ascii.{IsAscii-nil}
use Rattle.json5_settings_types.specs.declared.units.Unit.{Unit}
use Rattle.json5_settings_types.specs.Sums.{IsAmount, IsSum, Measure, after_digits, amount_of, amount_text, begins_with, comes_to, front_digits, front_word, in_first, in_later, is_part_of, measure_of, measures_of, or_else, parts_text, sum_of}
use Rattle.json5_settings_types.proofs.SumLaws.{and_both, are_units, below, comes_of, is_name, is_named, of_comes, or_second, or_true, sum_named}
use Rattle.json5_settings_types.proofs.SumsRead.{next_unit, passes}
use Rattle.json5_settings_types.proofs.SumsWritten.{are_plain, divided, ends_in_one, is_plain, none, one_more, parts_ascii, some_text}

-- ---- the loops over the units

module _ (units : List Unit) (i : ℕ) (x : Unit) (inside : i < length units) (is : x ≡ get_or units i x) where
  pub amount_step : (text : List ℕ) → amount_of (measures_of (drop i units)) text ≡ or_else (comes_to (measure_of x ∷ []) 0 text) (amount_of (measures_of (drop (i + 1) units)) text)
  unfolding amount_of
  amount_step text = ap (λ us. amount_of (measures_of us) text) (next_unit units i x inside is)

  text_step : (n : ℕ) → amount_text (measures_of (drop i units)) n ≡ (if n % x.size == 0 then parts_text (measure_of x ∷ []) n else amount_text (measures_of (drop (i + 1) units)) n)
  unfolding amount_text
  text_step n = ap (λ us. amount_text (measures_of us) n) (next_unit units i x inside is)

  pub text_found : (n : ℕ) → n % x.size ≡ 0 → parts_text (measure_of x ∷ []) n ≡ amount_text (measures_of (drop i units)) n
  text_found n whole = let yes : (n % x.size == 0) ≡ true = grind (arith, nat_tests, whole) in sym (text_step n ∙ rw yes refl)

  pub text_passed : (n : ℕ) → 0 < n % x.size → amount_text (measures_of (drop (i + 1) units)) n ≡ amount_text (measures_of (drop i units)) n
  text_passed n some = let no_zero : (n % x.size == 0) ≡ false = grind (arith, nat_tests, some) in sym (text_step n ∙ rw no_zero refl)

pub amount_done : (units : List Unit) (i : ℕ) (text : List ℕ) → length units ≤ i → amount_of (measures_of (drop i units)) text ≡ None
unfolding amount_of
amount_done units i text last = rw (drop_all i units last) refl

pub text_done : (units : List Unit) (i n : ℕ) → length units ≤ i → [] ≡ amount_text (measures_of (drop i units)) n
unfolding amount_text
text_done units i n last = rw (drop_all i units last) refl

-- one part of the text
pub one_part : (text : List ℕ) (u : Measure) (rest n : ℕ) → text ++ parts_text [] rest ≡ [] ++ parts_text (u ∷ []) n → text ≡ parts_text (u ∷ []) n
unfolding parts_text
one_part text u rest n written = sym (append-nil text) ∙ written

-- ---- the texts that are amounts are those of the relation

or_some : (o p : Option ℕ) (n : ℕ) → or_else o p ≡ Some n → (o ≡ Some n) ⊎ ((o ≡ None) × (p ≡ Some n))
or_some None p n is = inr (refl, is)
or_some (Some m) p n is = inl is

pub is_amount : (us : List Measure) (text : List ℕ) (n : ℕ) → 0 < length text → amount_of us text ≡ Some n → IsAmount us text n × (n < 2 ^ 64)
unfolding amount_of
is_amount [] text n some is = absurd (cc)
is_amount (u ∷ us) text n some is = by (or_some (comes_to (u ∷ []) 0 text) (amount_of us text) n is) (is_amount us text n some)
  where
    by : (comes_to (u ∷ []) 0 text ≡ Some n) ⊎ ((comes_to (u ∷ []) 0 text ≡ None) × (amount_of us text ≡ Some n)) → (amount_of us text ≡ Some n → IsAmount us text n × (n < 2 ^ 64)) → IsAmount (u ∷ us) text n × (n < 2 ^ 64)
    by (inl here) others = let (sum, small) = of_comes (u ∷ []) text n here in (in_first u some sum, small)
    by (inr (none, there)) others = let (amount, small) = others there in (in_later u amount, small)

or_left : (a : Bool) → a || false ≡ true → a ≡ true
or_left true is = refl
or_left false is = absurd (false≢true is)

first_named : (us : List Measure) (u : Measure) (name : List ℕ) → is_named (u ∷ []) name ≡ true → is_named (u ∷ us) name ≡ true
first_named us u name is = or_true (bytes_eq name u.name) (is_named us name) (or_left (bytes_eq name u.name) is)

-- of an amount: the name of its unit
amount_named : {us : List Measure} {text : List ℕ} {n : ℕ} → IsAmount us text n → are_units us ≡ true → (name : List ℕ) → is_part_of name (front_digits text) (front_word (after_digits text)) ≡ true → is_named us name ≡ true
amount_named (in_first u {us = us} some sum) units name is =
    let (named, others) = and_both (is_name u.name) (not (is_named us u.name) && are_units us) units in
    first_named us u name (sum_named sum (rw named refl) name is)
amount_named (in_later u {us = us} amount) units name is =
    let (named, others) = and_both (is_name u.name) (not (is_named us u.name) && are_units us) units in
    or_second (bytes_eq name u.name) (is_named us name) (amount_named amount (and_both (not (is_named us u.name)) (are_units us) others).1 name is)

pub some_amount : {us : List Measure} {text : List ℕ} {n : ℕ} → IsAmount us text n → 0 < length text
some_amount (in_first u some sum) = some
some_amount (in_later u amount) = some_amount amount

ones_not : (b : Bool) → b ≡ true → not b ≡ true → ⊥
ones_not true is not_it = false≢true not_it
ones_not false is not_it = false≢true is

no_sum : (text : List ℕ) → 0 < length text → sum_of [] text ≡ None
unfolding sum_of
no_sum [] some = absurd (omega arith)
no_sum (c ∷ cs) some = refl

-- no part of this unit stands in front
not_here : (u : Measure) (text : List ℕ) → 0 < length text → (b : Bool) → begins_with u text ≡ b → (begins_with u text ≡ true → ⊥) → comes_to (u ∷ []) 0 text ≡ None
not_here u text some true is never = absurd (never is)
not_here u text some false is never = sym (passes [] u 0 text is) ∙ rw (no_sum text some) refl

pub reads_amount : {us : List Measure} {text : List ℕ} {n : ℕ} → IsAmount us text n → are_units us ≡ true → n < 2 ^ 64 → amount_of us text ≡ Some n
unfolding amount_of
reads_amount (in_first u {us = us} {text = text} {n = n} some sum) units small =
    let (named, others) = and_both (is_name u.name) (not (is_named us u.name) && are_units us) units in
    ap (λ o. or_else o (amount_of us text)) (comes_of (u ∷ []) text n sum (rw named refl) small)
reads_amount (in_later u {us = us} {text = text} amount) units small =
    let (named, others) = and_both (is_name u.name) (not (is_named us u.name) && are_units us) units in
    let (apart, same) = and_both (not (is_named us u.name)) (are_units us) others in
    ap (λ o. or_else o (amount_of us text)) (not_here u text (some_amount amount) (begins_with u text) refl (λ is. ones_not (is_named us u.name) (amount_named amount same u.name is) apart)) ∙ reads_amount amount same small

-- ---- what is written is an amount

divides : (n k : ℕ) → 0 < k → 0 < n → n < k → n % k ≡ 0 → ⊥
divides n k positive some small whole =
    let less : n / k < 1 = div_below n k 1 positive (omega (arith, small)) in
    let none_whole : n / k ≡ 0 = omega (arith, less) in
    let sum : n / k * k + n % k ≡ n = divided n k positive in
    let zero_sum : 0 * k + 0 ≡ n = rw (none_whole, whole) at sum in
    omega (arith, some, zero_sum)

not_zero : (n : ℕ) → 0 < n → (n == 0) ≡ false
not_zero n some = grind (arith, nat_tests, some)

is_zero : (n : ℕ) → (n == 0) ≡ true → n ≡ 0
is_zero n is = grind (arith, nat_tests, is)

-- a whole number of this unit
whole_sum : (u : Measure) (n : ℕ) → 0 < u.size → 0 < n → n < 2 ^ 64 → n % u.size ≡ 0 → IsSum (u ∷ []) (parts_text (u ∷ []) n) n
whole_sum u n positive some small whole = one_more u [] n positive small (λ less. absurd (divides n u.size positive some less whole)) (none (n % u.size) whole)

pub written_amount : (us : List Measure) (n : ℕ) → ends_in_one us ≡ true → 0 < n → n < 2 ^ 64 → IsAmount us (amount_text us n) n
unfolding amount_text
written_amount [] n last some small = absurd (cc)
written_amount (u ∷ []) n last some small =
    let one : u.size ≡ 1 = grind (arith, nat_tests, last) in
    let positive : 0 < u.size = omega (arith, one) in
    let rest : n % u.size ≡ 0 = omega (arith, one, mod_below n u.size positive) in
    let whole : (n % u.size == 0) ≡ true = grind (arith, nat_tests, rest) in
    let sum = whole_sum u n positive some small rest in
    rw whole (in_first u (some_text sum (not_zero n some)) sum)
written_amount (u ∷ v ∷ us) n last some small =
    let (counts, others) = and_both (nat_lt 0 u.size) (ends_in_one (v ∷ us)) last in
    by (n % u.size == 0) refl (below 0 u.size counts) (written_amount (v ∷ us) n others some small)
  where
    by : (b : Bool) → (n % u.size == 0) ≡ b → 0 < u.size → IsAmount (v ∷ us) (amount_text (v ∷ us) n) n → IsAmount (u ∷ v ∷ us) (if b then parts_text (u ∷ []) n else amount_text (v ∷ us) n) n
    by true whole positive later = let sum = whole_sum u n positive some small (is_zero (n % u.size) whole) in in_first u (some_text sum (not_zero n some)) sum
    by false part_too positive later = in_later u later

-- ---- it is ASCII

pub amount_ascii : (us : List Measure) (n : ℕ) → are_plain us ≡ true → n < 2 ^ 64 → IsAscii (amount_text us n)
unfolding amount_text
amount_ascii [] n plain small = IsAscii-nil
amount_ascii (u ∷ us) n plain small =
    let (this, others) = and_both (nat_lt 0 u.size && is_plain u.name) (are_plain us) plain in
    by (n % u.size == 0) (parts_ascii (u ∷ []) n (rw this refl) small) (amount_ascii us n others small)
  where
    by : (b : Bool) → IsAscii (parts_text (u ∷ []) n) → IsAscii (amount_text us n) → IsAscii (if b then parts_text (u ∷ []) n else amount_text us n)
    by true here later = here
    by false here later = later
