-- What a value has at a JSON pointer (RFC 6901): the bytes of its text are split at the slashes, and each part is a step.
-- A promise rests on this.
use Rattle.std.specs.Prelude.{ℕ, ◌^◌, Bool, false, ◌&&◌, ◌||◌, ◌==◌, nat_eq, nat_lt, if◌then◌else◌, List, [], ◌∷◌, ◌++◌, Option, Some, None, option_and_then}
use Rattle.std.specs.List.{list_all}
use Rattle.std.specs.Str.{encode_utf8_all}
use Rattle.std.specs.Str.Parse.{digits_value}
use Rattle.std.specs.Cmp.Lexicographic.{pointwise}
use lib.Chars.{codes}
use Rattle.json5_grammar.specs.Language.Characters.{slash_sign, digit_zero, digit_one, digit_nine, is_in, is_digit}
use Rattle.json5_grammar.specs.Language.Numbers.{is_empty}
use Rattle.json5_types.specs.ValueLookups.{or_else, item_at}
use Rattle.json5_types.specs.ValueMeanings.{Datum, array, object, Fields, no_field, field}

abbrev pub tilde : ℕ
tilde = 0x7E

-- ---- a step

-- a key in a pointer has `~0` for `~`, and `~1` for `/`
abbrev pub escaped_byte : ℕ → List ℕ
escaped_byte c = if c == tilde then codes "~0" else if c == slash_sign then codes "~1" else c ∷ []

abbrev pub escaped_key : List ℕ → List ℕ
escaped_key [] = []
escaped_key (c ∷ s) = escaped_byte c ++ escaped_key s

-- the value of the last member whose key is written so
abbrev pub member_written : List ℕ → Fields → Option Datum
member_written part no_field = None
member_written part (field u x fs) = or_else (member_written part fs) (if pointwise nat_eq (escaped_key (encode_utf8_all u)) part then Some x else None)

-- `0` alone, or a first digit from 1 to 9
abbrev pub begins_index : List ℕ → Bool
begins_index [] = false
begins_index (c ∷ s) = ((c == digit_zero) && is_empty s) || is_in digit_one digit_nine c

-- an index is decimal digits without zeros in front, and below 2^64
abbrev pub index_in : List ℕ → Option ℕ
index_in part = if begins_index part && (list_all is_digit part && nat_lt (digits_value 10 part) (2 ^ 64)) then Some (digits_value 10 part) else None

abbrev pub step_from : List ℕ → Datum → Option Datum
step_from part (array xs) = option_and_then (λ n. item_at n xs) (index_in part)
step_from part (object fs) = member_written part fs
step_from part _ = None

-- ---- all steps

abbrev pub steps_from : List (List ℕ) → Datum → Option Datum
steps_from [] x = Some x
steps_from (part ∷ parts) x = option_and_then (steps_from parts) (step_from part x)

-- the byte in front of the first part
abbrev pub in_front : ℕ → List (List ℕ) → List (List ℕ)
in_front c [] = (c ∷ []) ∷ []
in_front c (part ∷ parts) = (c ∷ part) ∷ parts

-- the parts between slashes; a text without a slash is one part
abbrev pub parts_of : List ℕ → List (List ℕ)
parts_of [] = [] ∷ []
parts_of (c ∷ s) = if c == slash_sign then [] ∷ parts_of s else in_front c (parts_of s)

-- the whole value at the empty pointer; any other begins with a slash
abbrev pub pointed : List ℕ → Datum → Option Datum
pointed [] x = Some x
pointed (c ∷ s) x = if c == slash_sign then steps_from (parts_of s) x else None
