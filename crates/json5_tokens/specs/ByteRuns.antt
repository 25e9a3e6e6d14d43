-- Runs of bytes that a search passes over. Private clauses and proofs alone cite it.
-- A promise rests on this.
use Rattle.std.specs.Prelude.{◌≡◌, ◌<◌, ◌≤◌, ◌+◌, ◌^◌, ℕ, Bool, true, not, ◌&&◌, ◌||◌, ◌==◌, nat_lt, List, drop, length, slice_index}
use Rattle.std.specs.List.{prefix_len}
use Rattle.std.specs.Prelude.{◌++◌}
use Rattle.std.specs.Str.{IsUtf8, chars}
use Rattle.json5_grammar.specs.Language.Characters.{is_in, is_digit, NotBegun}
use Rattle.json5_grammar.specs.Language.Numbers.{spelled, hex_start, Integer, in_run}
use Rattle.json5_grammar.specs.Model.ReadNumbers.{is_integer, front_of}
use Rattle.json5_tokens.specs.declared.numbers.short.FewDigits.{FewDigits}

-- a byte at which a run of a string in the quotes q ends
abbrev pub ends_raw : ℕ → ℕ → Bool
ends_raw q x = (x == q) || ((x == 92) || ((x == 10) || (x == 13)))

-- an ASCII blank
abbrev pub is_ascii_blank : ℕ → Bool
is_ascii_blank x = (x == 32) || is_in 9 13 x

abbrev pub is_no_blank : ℕ → Bool
is_no_blank x = not (x == 32) && (nat_lt x 9 || nat_lt 13 x)

-- a byte that is neither LF nor CR and begins no character from U+2000 to U+2FFF
abbrev pub is_in_line : ℕ → Bool
is_in_line x = not (x == 10) && (not (x == 13) && not (x == 226))

-- a character of which is_in_line holds of each byte
abbrev pub is_line_part : ℕ → Bool
is_line_part c = not (c == 10) && (not (c == 13) && not (is_in 0x2000 0x2FFF c))

abbrev pub is_no_star : ℕ → Bool
is_no_star x = not (x == 42)

-- an ASCII character that may begin a name
abbrev pub is_ascii_start : ℕ → Bool
is_ascii_start x = (x == 36) || ((x == 95) || (is_in 65 90 x || is_in 97 122 x))

-- an ASCII character that may continue one
abbrev pub is_ascii_part : ℕ → Bool
is_ascii_part x = is_ascii_start x || is_digit x

-- an ASCII character that begins no escape
abbrev pub is_plain_ascii : ℕ → Bool
is_plain_ascii x = nat_lt x 128 && not (x == 92)

-- a name of so many ASCII characters is in front, and an ASCII character after it begins no escape
pub record IsAsciiName (bytes : List ℕ) (len : ℕ) : Type 0 where
  pub some : 0 < length bytes
  pub first : is_ascii_start (slice_index bytes 0) ≡ true
  pub counted : len ≡ prefix_len is_ascii_part bytes
  pub inside : len < length bytes
  pub stops : is_plain_ascii (slice_index bytes len) ≡ true

-- may continue a number after its digits
abbrev pub lengthens_digits : ℕ → Bool
lengthens_digits c = in_run c || hex_start c

-- so many digits in front are this number
pub record SpellsFront (bytes : List ℕ) (found : FewDigits) : Type 0 where
  pub counted : prefix_len is_digit bytes ≡ found.len + prefix_len is_digit (drop found.len bytes)
  pub value : spelled 10 0 (front_of is_digit bytes) ≡ spelled 10 found.value (front_of is_digit (drop found.len bytes))
  pub inside : found.len ≤ length bytes
  pub small : found.value < 10 ^ 19

-- the first of several isn't zero
abbrev pub IsUnpadded : List ℕ → ℕ → Type 0
IsUnpadded bytes len = 1 < len → slice_index bytes 0 ≡ 48 → ⊥

-- the digits in front are this whole number, and nothing continues it
pub record IsFewDigits (bytes : List ℕ) (found : FewDigits) : Type 0 where
  pub counted : found.len ≡ prefix_len is_digit bytes
  pub value : found.value ≡ spelled 10 0 (front_of is_digit bytes)
  pub integer : is_integer (front_of is_digit bytes) ≡ true
  pub stops : NotBegun lengthens_digits (drop found.len bytes)
  pub small : found.value < 10 ^ 19

-- the digits in front are this number, and nothing in the rest continues it
pub record SpellsFewDigits (text : List ℕ) (value : ℕ) (rest : List ℕ) : Type 0 where
  pub digits : List ℕ
  pub split : chars text ≡ digits ++ chars rest
  pub integer : Integer digits
  pub value_is : value ≡ spelled 10 0 digits
  pub ends : NotBegun lengthens_digits (chars rest)
  pub text_rest : IsUtf8 rest
  pub small : value < 10 ^ 19

-- a character from `!` to `~` is in front that is no slash
pub record BeginsSolid (bytes : List ℕ) : Type 0 where
  pub some : 0 < length bytes
  pub low : 32 < slice_index bytes 0
  pub high : slice_index bytes 0 ≤ 126
  pub no_slash : slice_index bytes 0 ≡ 47 → ⊥
