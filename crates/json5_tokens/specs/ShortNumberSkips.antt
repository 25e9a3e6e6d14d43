-- What the short way past numbers finds: a sign, a mantissa and an exponent, which together surely mean a number.
-- A promise rests on this.
use Rattle.std.specs.Prelude.{◌≡◌, ℕ, ◌≤◌, Bool, true, false, List, ◌∷◌, ◌++◌, length, ℤ, pos, neg_ℤ, ◌≤ℤ◌, Option}
use Rattle.std.specs.Str.{IsUtf8, chars}
use Rattle.json5_grammar.specs.Language.Characters.{is_digit, Each}
use Rattle.json5_grammar.specs.Language.Numbers.{Number, Sign, Mantissa, Exponent, all_digits, spelled, written}
use Rattle.json5_tokens.specs.Cursor.{Cursor}
use Rattle.json5_tokens.specs.ShortWays.{TookNumber}

-- this follows a sign in front, if there is one
pub record FollowsSign (text rest : List ℕ) : Type 0 where
  pub sign : List ℕ
  pub negative : Bool
  pub is_sign : Sign sign negative
  pub split : chars text ≡ sign ++ chars rest

-- this follows a mantissa in front, which has few digits
pub record FollowsMantissa (text rest : List ℕ) : Type 0 where
  pub mantissa : List ℕ
  pub before : List ℕ
  pub after : Option (List ℕ)
  pub is_mantissa : Mantissa mantissa before after
  pub few : length (all_digits before after) ≤ 2000
  pub split : chars text ≡ mantissa ++ chars rest
  pub text_rest : IsUtf8 rest

-- this follows a sign, if there is one, and digits in front, which are a small number
pub record FollowsPower (text rest : List ℕ) : Type 0 where
  pub sign : List ℕ
  pub negative : Bool
  pub first : ℕ
  pub others : List ℕ
  pub is_sign : Sign sign negative
  pub digits : Each is_digit (first ∷ others)
  pub small : spelled 10 0 (first ∷ others) ≤ 10000
  pub split : chars text ≡ (sign ++ first ∷ others) ++ chars rest
  pub text_rest : IsUtf8 rest

-- this follows an exponent in front, if there is one, which is small
pub record FollowsExponent (text rest : List ℕ) : Type 0 where
  pub exponent : List ℕ
  pub raised : Option ℤ
  pub is_exponent : Exponent exponent raised
  pub low : neg_ℤ (pos 10000) ≤ℤ written raised
  pub high : written raised ≤ℤ pos 10000
  pub split : chars text ≡ exponent ++ chars rest
  pub text_rest : IsUtf8 rest

-- a number is taken, or nothing
abbrev pub TakesShortNumber : Cursor → Cursor → Bool → Type 0
TakesShortNumber old new true = (n : Number) × TookNumber old new n
TakesShortNumber old new false = new ≡ old
