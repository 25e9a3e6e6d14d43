-- The index that a part of a pointer writes.
use Rattle.std.proofs.Common.{◌≡◌, ◌≢◌, ℕ, ◌^◌, ◌<◌, Bool, true, false, ◌&&◌, List, [], ◌∷◌, length, get_or, Result, Ok, Err, refl, ap, arith, rules}
use Rattle.std.specs.Prelude.{nat_lt, if◌then◌else◌, Some, None}
use Rattle.std.specs.List.{list_all}
use Rattle.std.specs.Result.{OkIff, result_ok}
use Rattle.std.specs.Str.Parse.{ParsesUnsigned, digits_value}
use Rattle.std.proofs.lemmas.Bool.Decides.{nat_tests}
use Rattle.std.proofs.lemmas.Str.Parse.{IsNumeralModel, numerals_by_value, parse_plain}
use Rattle.json5_grammar.specs.Language.Characters.{is_digit}
use Rattle.json5_types.specs.Pointers.{begins_index, index_in}

own : IsNumeralModel (λ ds. list_all is_digit ds ≡ true) (digits_value 10)
own = numerals_by_value _ (search rules)

not_plus : (part : List ℕ) → begins_index part ≡ true → get_or part 0 0 ≢ 43
not_plus [] h e = absurd (cc)
not_plus (c ∷ s) h e = absurd (grind (arith, nat_tests))

is_some_part : (part : List ℕ) → begins_index part ≡ true → 0 < length part
is_some_part [] h = absurd (cc)
is_some_part (c ∷ s) h = omega arith

by_parse : {E : Type 0} (part : List ℕ) (r : Result ℕ E) → 0 < length part → OkIff r ((list_all is_digit part ≡ true) × (0 < length part) × (digits_value 10 part < 2 ^ 64)) (digits_value 10 part)
    → result_ok r ≡ (if list_all is_digit part && nat_lt (digits_value 10 part) (2 ^ 64) then Some (digits_value 10 part) else None)
by_parse part (Ok n) some h = let less : nat_lt (digits_value 10 part) (2 ^ 64) ≡ true = grind (arith, nat_tests) in rw (h.0.0, less) (ap Some h.1)
by_parse part (Err e) some h = split (list_all is_digit part) refl (nat_lt (digits_value 10 part) (2 ^ 64)) refl
  where
    split : (a : Bool) → list_all is_digit part ≡ a → (b : Bool) → nat_lt (digits_value 10 part) (2 ^ 64) ≡ b → None ≡ (if list_all is_digit part && nat_lt (digits_value 10 part) (2 ^ 64) then Some (digits_value 10 part) else None)
    split true i true j = absurd (h (i, some, grind (arith, nat_tests)))
    split true i false j = rw (i, j) refl
    split false i b j = rw i refl

pub index_read : {E : Type 0} (part : List ℕ) (r : Result ℕ E) → begins_index part ≡ true → ParsesUnsigned 64 10 part r → result_ok r ≡ index_in part
index_read part r h p = rw h (by_parse part r (is_some_part part h) (parse_plain own 64 part r p (not_plus part h)))
