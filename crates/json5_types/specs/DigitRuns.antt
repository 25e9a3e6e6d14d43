-- Decimal digits in front of a text.
-- A promise rests on this.
use Rattle.std.specs.Prelude.{◌≡◌, ◌++◌, ◌||◌, nat_lt, ℕ, Bool, List, take}
use Rattle.std.specs.List.{prefix_len}
use Rattle.std.specs.Str.{IsUtf8, chars}
use Rattle.json5_grammar.specs.Language.Characters.{is_digit, Each}
use Rattle.json5_grammar.specs.Language.Numbers.{without_front_zeros}
use Rattle.json5_grammar.specs.Model.ReadNumbers.{front_of, rest_of}

abbrev pub is_no_digit : ℕ → Bool
is_no_digit x = nat_lt x 48 || nat_lt 57 x

-- the digits in front and what follows them, of the characters and of the bytes
pub record SplitsDigits (whole start after : List ℕ) : Type 0 where
  pub front : start ≡ front_of is_digit (chars whole)
  pub digits : Each is_digit start
  pub rest : chars after ≡ rest_of is_digit (chars whole)
  pub front_bytes : start ≡ front_of is_digit whole
  pub rest_bytes : after ≡ rest_of is_digit whole
  pub text : IsUtf8 after

-- the new digits are the old ones and these, without the zeros in front of all
abbrev pub Gathers : (old new more : List ℕ) → Type 0
Gathers old new more = (seen : List ℕ) → old ≡ without_front_zeros seen → new ≡ without_front_zeros (seen ++ more)

-- the digits in front of the bytes are gathered, and they are so many
pub record Pushed (old new bytes : List ℕ) (count : ℕ) : Type 0 where
  pub all : count ≡ prefix_len is_digit bytes
  pub gathered : Gathers old new (take count bytes)
