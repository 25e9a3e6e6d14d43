-- How a number is written: a whole number as its digits, a decimal as digits with a point and without an exponent.
-- A promise rests on this.
use Rattle.std.specs.Prelude.{◌≡◌, ℕ, suc, ◌-◌, cond, nat_lt, List, [], ◌∷◌, ◌++◌, length, take, drop, replicate, ℤ, pos, negsuc, ⊤}
use Rattle.std.specs.Fmt.{sign_text, signed_decimal}
use lib.Chars.{codes}
use Rattle.json5_grammar.specs.Language.Characters.{point_sign, digit_zero, is_digit, Each}
use Rattle.json5_grammar.specs.Language.Numbers.{Decimal, Number, without_zeros, InExponents, InWhole, infinite, nan, finite, whole, decimal}

abbrev pub zeros : ℕ → List ℕ
zeros n = replicate n digit_zero

-- the digits with a point before the last j of them, after zeros if they are fewer
abbrev pub pointed : List ℕ → ℕ → List ℕ
pointed ds j = cond (nat_lt j (length ds)) (take (length ds - j) ds ++ point_sign ∷ drop (length ds - j) ds) (digit_zero ∷ point_sign ∷ (zeros (j - length ds) ++ ds))

abbrev pub digits_text : List ℕ → ℤ → List ℕ
digits_text [] e = codes "0.0"
digits_text (d ∷ ds) (pos e) = ((d ∷ ds) ++ zeros e) ++ codes ".0"
digits_text (d ∷ ds) (negsuc j) = pointed (d ∷ ds) (suc j)

abbrev pub decimal_text : Decimal → List ℕ
decimal_text (infinite m) = sign_text m ++ codes "Infinity"
decimal_text (nan m) = sign_text m ++ codes "NaN"
decimal_text (finite m ds e) = sign_text m ++ digits_text ds e

-- digits without outer zeros, an exponent in range, and 0 for zero
pub record IsNormal (ds : List ℕ) (e : ℤ) : Type 0 where
  pub digits : Each is_digit ds
  pub bare : without_zeros ds ≡ ds
  pub in_range : InExponents e
  pub zero : ds ≡ [] → e ≡ pos 0

abbrev pub Normal : Decimal → Type 0
Normal (infinite m) = ⊤
Normal (nan m) = ⊤
Normal (finite m ds e) = IsNormal ds e

-- a number that can be written: a whole one in range, a decimal in normal form
abbrev pub IsNumber : Number → Type 0
IsNumber (whole z) = InWhole z
IsNumber (decimal d) = Normal d

abbrev pub number_text : Number → List ℕ
number_text (whole z) = signed_decimal z
number_text (decimal d) = decimal_text d
