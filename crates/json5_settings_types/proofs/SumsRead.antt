-- Sums that are read part by part.
use Rattle.std.proofs.Common.{◌≡◌, ◌∙◌, ◌+◌, ◌*◌, ◌<◌, ◌≤◌, ◌^◌, ◌&&◌, ℕ, suc, subst, Bool, true, false, List, [], ◌∷◌, Option, Some, None, Result, Ok, Err, length, get_or, take, drop, refl, sym, ap, arith, rules, tests}
use Rattle.std.specs.Prelude.{nat_lt}
use Rattle.std.specs.List.{prefix_len}
use Rattle.std.specs.Char.{is_ascii_digit}
use Rattle.std.specs.Int.{IsInRange}
use Rattle.std.specs.Str.{IsUtf8, bytes_eq}
use Rattle.std.specs.Option.{SomeIff}
use Rattle.std.specs.Result.{OkIff, result_ok}
use Rattle.std.specs.Str.Parse.{AllDigits, IsNumeral, ParsesUnsigned, digits_value}
use Rattle.std.proofs.lemmas.Fmt.{IsAscii-from_digits}
use Rattle.std.proofs.lemmas.Str.{IsUtf8-from_ascii}
use Rattle.std.proofs.lemmas.Str.Parse.{numerals_by_value, parse_digits, tells_digits}
use Rattle.std.proofs.lemmas.Bool.Decides.{nat_tests}
use Rattle.std.proofs.Math.Seq.{drop-cons}
use Rattle.json5_settings_types.specs.declared.units.Unit.{Unit}
use Rattle.json5_settings_types.specs.Sums.{IsCut, Measure, after_digits, after_word, begins_with, comes_to, front_digits, if_below, is_no_digit, is_part_of, plus, sum_of}

plus-plus : (a b : ℕ) (o : Option ℕ) → plus a (plus b o) ≡ plus (a + b) o
plus-plus a b None = refl
plus-plus a b (Some m) = let e : a + (b + m) ≡ a + b + m = omega arith in ap (λ n. Some n) e

too_large : (a : ℕ) (o : Option ℕ) → 2 ^ 64 ≤ a → if_below (2 ^ 64) (plus a o) ≡ None
too_large a None much = refl
too_large a (Some m) much = let no : nat_lt (a + m) (2 ^ 64) ≡ false = grind (arith, nat_tests) in rw no refl

module _ (us : List Measure) (u : Measure) (total : ℕ) (text : List ℕ) where
  -- no part of this unit stands in front
  pub passes : begins_with u text ≡ false → comes_to us total text ≡ comes_to (u ∷ us) total text
  unfolding sum_of
  passes none = rw none refl

  -- one does
  pub takes : begins_with u text ≡ true → comes_to us (total + digits_value 10 (front_digits text) * u.size) (after_word (after_digits text)) ≡ comes_to (u ∷ us) total text
  unfolding sum_of
  takes is = rw (is, plus-plus total (digits_value 10 (front_digits text) * u.size) (sum_of us (after_word (after_digits text)))) refl

  -- and it is too large
  pub overflows : begins_with u text ≡ true → 2 ^ 64 ≤ total + digits_value 10 (front_digits text) * u.size → None ≡ comes_to (u ∷ us) total text
  overflows is much = sym (too_large (total + digits_value 10 (front_digits text) * u.size) (sum_of us (after_word (after_digits text))) much) ∙ takes is

-- ---- digits

in_range : (c : ℕ) → is_ascii_digit c ≡ true → IsInRange 48 57 c
in_range c is = search (rules, tests)

first_digit : (c : ℕ) (cs : List ℕ) → is_ascii_digit c ≡ true → front_digits (c ∷ cs) ≡ c ∷ front_digits cs
first_digit c cs is = let e : 1 + prefix_len is_ascii_digit cs ≡ suc (prefix_len is_ascii_digit cs) = omega arith in rw (is, e) refl

-- the digits in front are digits
pub digits_in_front : (text : List ℕ) → AllDigits 10 (front_digits text)
digits_in_front [] = search rules
digits_in_front (c ∷ cs) = by (is_ascii_digit c) refl (digits_in_front cs)
  where
    by : (b : Bool) → is_ascii_digit c ≡ b → AllDigits 10 (front_digits cs) → AllDigits 10 (front_digits (c ∷ cs))
    by true is others = let e : front_digits (c ∷ cs) ≡ c ∷ front_digits cs = first_digit c cs is in subst (AllDigits 10) (sym e) (tells_digits.more c (front_digits cs) (in_range c is) others)
    by false is others = rw is tt

pub utf8_of_digits : (digits : List ℕ) → IsNumeral 10 digits → IsUtf8 digits
utf8_of_digits digits is = IsUtf8-from_ascii digits (IsAscii-from_digits digits is.1)

-- what `parse` says of digits, as an option
pub some_of_parsed : {E : Type 0} (bs : List ℕ) (r : Result ℕ E) → ParsesUnsigned 64 10 bs r → IsNumeral 10 bs → SomeIff (result_ok r) (digits_value 10 bs < 2 ^ 64) (digits_value 10 bs)
some_of_parsed {E} bs r parsed is = by r (parse_digits (numerals_by_value (AllDigits 10) tells_digits) 64 bs r parsed is.1)
  where
    by : (r : Result ℕ E) → OkIff r ((0 < length bs) × (digits_value 10 bs < 2 ^ 64)) (digits_value 10 bs) → SomeIff (result_ok r) (digits_value 10 bs < 2 ^ 64) (digits_value 10 bs)
    by (Ok n) (fits, same) = (fits.1, same)
    by (Err e) refused = λ small. refused (is.0, small)

-- ---- the end of a text

pub ends : (total : ℕ) (text : List ℕ) → length text ≡ 0 → total < 2 ^ 64 → Some total ≡ comes_to [] total text
unfolding sum_of
ends total [] none small = let same : total + 0 ≡ total = omega arith in let yes : nat_lt total (2 ^ 64) ≡ true = grind (arith, nat_tests) in rw (same, yes) refl
ends total (c ∷ cs) none small = absurd (omega arith)

pub goes_past : (total : ℕ) (text : List ℕ) → 0 < length text → None ≡ comes_to [] total text
unfolding sum_of
goes_past total [] some = absurd (omega arith)
goes_past total (c ∷ cs) some = refl

-- ---- the parts that are cut off

pub cut : (text digits after word rest : List ℕ) (n m : ℕ) → n ≡ prefix_len is_ascii_digit text → digits ≡ take n text → after ≡ drop n text → m ≡ prefix_len is_no_digit after → word ≡ take m after → rest ≡ drop m after → IsCut text digits word rest
cut text digits after word rest n m counted front back letters unit last = record {
  digits_are = cc;
  word_is = cc;
  rest_is = cc;
}

module _ {text digits word rest : List ℕ} (parts : IsCut text digits word rest) (us : List Measure) (name : List ℕ) (size total : ℕ) where
  pub cut_passes : is_part_of name digits word ≡ false → comes_to us total text ≡ comes_to (record { name = name; size = size } ∷ us) total text
  cut_passes none = passes us (record { name = name; size = size }) total text (rw (parts.digits_are, parts.word_is) at none)

  pub cut_takes : is_part_of name digits word ≡ true → comes_to us (total + digits_value 10 digits * size) rest ≡ comes_to (record { name = name; size = size } ∷ us) total text
  cut_takes is = rw (parts.digits_are, parts.rest_is) (takes us (record { name = name; size = size }) total text (rw (parts.digits_are, parts.word_is) at is))

  pub cut_overflows : is_part_of name digits word ≡ true → 2 ^ 64 ≤ total + digits_value 10 digits * size → None ≡ comes_to (record { name = name; size = size } ∷ us) total text
  cut_overflows is much = overflows us (record { name = name; size = size }) total text (rw (parts.digits_are, parts.word_is) at is) (rw parts.digits_are at much)

pub some_digit : (digits : List ℕ) (b : Bool) → nat_lt 0 (length digits) && b ≡ true → 0 < length digits
some_digit digits b is = grind (arith, nat_tests)

pub cut_numeral : {text digits word rest : List ℕ} (name : List ℕ) → IsCut text digits word rest → is_part_of name digits word ≡ true → IsNumeral 10 digits
cut_numeral {text} {digits} {word} name parts is = (some_digit digits (bytes_eq word name) is, subst (AllDigits 10) (sym parts.digits_are) (digits_in_front text))

-- ---- the loop over the units

pub next_unit : (units : List Unit) (i : ℕ) (x : Unit) → i < length units → x ≡ get_or units i x → drop i units ≡ x ∷ drop (i + 1) units
next_unit units i x inside is = let next : i + 1 ≡ suc i = omega arith in drop-cons units i x inside ∙ rw (next, sym is) refl
