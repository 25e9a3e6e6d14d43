-- Whether a text matches a pattern: as Rust's regex crate reads it, but that `\d` and `\w` are of ASCII, as in ECMA-262.
-- A promise rests on this.
use Rattle.std.specs.Prelude.{ℕ, ◌<◌, ◌≡◌, Bool, true, false, nat_eq, if◌then◌else◌, List, [], ◌∷◌, ◌++◌, Option, Some, None, is_some, get_or}
use Rattle.std.specs.Str.{chars, encode_utf8_all}
use lib.Chars.{codes}
use Rattle.regex_syntax.specs.Brackets.{Nested}
use Rattle.regex_syntax.specs.Grammar.{Names, read}
use Rattle.regex.specs.Patterns.{Re, find_str, default_config}

-- what stands for a backslash and this byte
abbrev pub escape : ℕ → List ℕ
escape c =
    if nat_eq c 0x64 then codes "[0-9]" else
    if nat_eq c 0x44 then codes "[^0-9]" else
    if nat_eq c 0x77 then codes "[0-9A-Za-z_]" else
    if nat_eq c 0x57 then codes "[^0-9A-Za-z_]" else
    0x5C ∷ c ∷ []

-- the pattern in Rust's words; behind a backslash, or not
abbrev pub in_rust : Bool → List ℕ → List ℕ
in_rust true [] = 0x5C ∷ []
in_rust false [] = []
in_rust true (c ∷ cs) = escape c ++ in_rust false cs
in_rust false (c ∷ cs) = if nat_eq c 0x5C then in_rust true cs else c ∷ in_rust false cs

abbrev pub has_match : Option (Nested Re × Names) → List ℕ → Bool
has_match None bytes = false
has_match (Some found) bytes = is_some (find_str found.0.value bytes 0)

-- somewhere in the text; what is no pattern matches nothing
unfoldable pub matches : List ℕ → List ℕ → Bool
matches pattern bytes = has_match (read default_config (chars (in_rust false pattern))) bytes

-- the same by characters
abbrev pub fits : List ℕ → List ℕ → Bool
fits pattern u = matches (encode_utf8_all pattern) (encode_utf8_all u)

-- this is the pattern's meaning, in each list of bytes
abbrev pub Means : Re → List ℕ → Type 0
Means re pattern = (bytes : List ℕ) → ((k : ℕ) → get_or bytes k 0 < 256) → matches pattern bytes ≡ is_some (find_str re bytes 0)
