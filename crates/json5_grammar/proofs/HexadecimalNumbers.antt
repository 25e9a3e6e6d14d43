-- How the digits of a hexadecimal number are read.
use Rattle.std.proofs.Common.{◌≡◌, ℕ, ◌+◌, ◌*◌, ◌^◌, ◌<◌, ◌≤◌, true, List, [], ◌∷◌, ◌++◌, refl, arith}
use Rattle.std.specs.Prelude.{nat_lt}
use Rattle.std.specs.Char.{digit_value}
use Rattle.std.proofs.lemmas.Bool.Decides.{nat_tests}
use Rattle.json5_grammar.specs.Language.Characters.{is_hex_digit, NotBegun, Each, no_char, char}
use Rattle.json5_grammar.specs.Language.Numbers.{spelled}
use Rattle.json5_grammar.specs.Model.Reading.{got}
use Rattle.json5_grammar.specs.Model.ReadNumbers.{hex_digits}

pub spelled_grows : (n : ℕ) (h : List ℕ) → n ≤ spelled 16 n h
spelled_grows n [] = omega arith
spelled_grows n (c ∷ h) = let k = spelled_grows (n * 16 + digit_value c) h in omega arith

pub spelled-append : (b n : ℕ) (s t : List ℕ) → spelled b n (s ++ t) ≡ spelled b (spelled b n s) t
spelled-append b n [] t = refl
spelled-append b n (c ∷ s) t = spelled-append b (n * b + digit_value c) s t

lt_true : (a b : ℕ) → a < b → nat_lt a b ≡ true
lt_true a b h = grind (arith, nat_tests)

pub hex_stop : (n : ℕ) (r : List ℕ) → NotBegun is_hex_digit r → hex_digits n r ≡ got n r
unfolding hex_digits
hex_stop n [] h = refl
hex_stop n (c ∷ r) h = rw h

pub hex_over : {h : List ℕ} (n : ℕ) (y : List ℕ) → Each is_hex_digit h → spelled 16 n h < 2 ^ 128 → hex_digits n (h ++ y) ≡ hex_digits (spelled 16 n h) y
unfolding hex_digits
hex_over n y no_char l = refl
hex_over n y (char {c = c} {s = h} k e) l =
    let small : nat_lt (n * 16 + digit_value c) (2 ^ 128) ≡ true = lt_true (n * 16 + digit_value c) (2 ^ 128) (omega (arith, spelled_grows (n * 16 + digit_value c) h)) in
    rw (k, small) (hex_over (n * 16 + digit_value c) y e l)
