-- What each type takes of a tree: at most one content.
-- A promise rests on this.
use Rattle.std.specs.Prelude.{◌≤◌, ◌≤ℤ◌, ◌-ℤ◌, neg_ℤ, ℕ, Bool, true, false, if◌then◌else◌, nat_lt, List, [], ◌∷◌, map, ℤ, pos, negsuc, nat_abs, Option, Some, None}
use Rattle.std.specs.Fmt as numerals
use Rattle.std.specs.Borrow.{Bor}
use Rattle.std.specs.List.{position}
use Rattle.std.specs.Result.{result_ok}
use Rattle.std.specs.Str.{bytes_eq, encode_utf8_all}
use Rattle.hex.specs.Hex.{decode_of}
use Rattle.json5_grammar.specs.Language.Numbers.{Number, Decimal, whole, decimal, finite, without_zeros, normal_exponent}
use Rattle.json5_grammar.specs.Language.Trees.{Tree, null, boolean, number, text}
use Rattle.json5_types.specs.ValueMeanings.{Datum}
pub use Rattle.json5_read.specs.TreeMeanings.{datum_of, items_of, fields_of}

-- null
abbrev pub unit_of : Tree → Option (Unit {0})
unit_of null = Some tt
unit_of _ = None

-- a boolean
abbrev pub bool_of : Tree → Option Bool
bool_of (boolean b) = Some b
bool_of _ = None

-- ---- numbers

-- a number that converts
abbrev pub as_number : {C : Type 0} → (Number → Option C) → Tree → Option C
as_number f (number n) = f n
as_number f _ = None

-- a whole number that converts
abbrev pub as_whole : {C : Type 0} → (ℤ → Option C) → Number → Option C
as_whole f (whole z) = f z
as_whole f (decimal d) = None

-- from 0 to below the bound
abbrev pub natural_below : ℕ → ℤ → Option ℕ
natural_below bound (pos n) = if nat_lt n bound then Some n else None
natural_below bound (negsuc n) = None

-- from the bound's negative to below the bound
abbrev pub integer_below : ℕ → ℤ → Option ℤ
integer_below bound (pos n) = if nat_lt n bound then Some (pos n) else None
integer_below bound (negsuc n) = if nat_lt n bound then Some (negsuc n) else None

-- at most `max`; and from `-max - 1` to `max`
abbrev pub IsUpTo : ℕ → ℕ → Type 0
IsUpTo max n = n ≤ max

abbrev pub IsWithin : ℤ → ℤ → Type 0
IsWithin max n = ((neg_ℤ max -ℤ pos 1) ≤ℤ n) × (n ≤ℤ max)

abbrev pub unsigned_below : ℕ → Tree → Option ℕ
unsigned_below bound = as_number (as_whole (natural_below bound))

abbrev pub signed_below : ℕ → Tree → Option ℤ
signed_below bound = as_number (as_whole (integer_below bound))

abbrev pub is_minus : ℤ → Bool
is_minus (pos n) = false
is_minus (negsuc n) = true

-- the decimal of the same number; zero has no sign
abbrev pub same_decimal : Number → Decimal
same_decimal (whole z) = let digits = numerals.decimal (nat_abs z) in finite (is_minus z) (without_zeros digits) (normal_exponent digits (pos 0))
same_decimal (decimal d) = d

abbrev pub every_decimal : Number → Option Decimal
every_decimal n = Some (same_decimal n)

abbrev pub decimal_of : Tree → Option Decimal
decimal_of = as_number every_decimal

-- ---- strings

-- a string whose text converts; the Bool is true if it is escape-free
abbrev pub as_text : {C : Type 0} → (List ℕ → Bool → Option C) → Tree → Option C
as_text f (text u escape_free) = f u escape_free
as_text f _ = None

-- any text, by its bytes
abbrev pub every_text : List ℕ → Bool → Option (List ℕ)
every_text u escape_free = Some (encode_utf8_all u)

abbrev pub text_of : Tree → Option (List ℕ)
text_of = as_text every_text

-- a text spelled without a backslash, by its bytes
abbrev pub if_escape_free : List ℕ → Bool → Option (List ℕ)
if_escape_free u true = Some (encode_utf8_all u)
if_escape_free u false = None

abbrev pub escape_free_of : Tree → Option (List ℕ)
escape_free_of = as_text if_escape_free

-- any text by its bytes, and whether it is escape-free
abbrev pub every_cow : List ℕ → Bool → Option (List ℕ × Bool)
every_cow u escape_free = Some (encode_utf8_all u, escape_free)

abbrev pub cow_of : Tree → Option (List ℕ × Bool)
cow_of = as_text every_cow

-- a text of one character
abbrev pub one_character : List ℕ → Bool → Option ℕ
one_character [] escape_free = None
one_character (c ∷ []) escape_free = Some c
one_character (c ∷ d ∷ u) escape_free = None

-- the bytes of these names
abbrev pub names_bytes : List (Bor (List ℕ)) → List (List ℕ)
names_bytes names = map (λ name. name.now) names

-- a text that is one of these names, as its first index among them
abbrev pub index_of : List (List ℕ) → List ℕ → Bool → Option ℕ
index_of names u escape_free = position (λ name. bytes_eq name (encode_utf8_all u)) names

abbrev pub variant_of : List (List ℕ) → Tree → Option ℕ
variant_of names = as_text (index_of names)

abbrev pub char_of : Tree → Option ℕ
char_of = as_text one_character

-- the bytes of a text of hexadecimal digits in either case, two a byte; no other text converts
abbrev pub digits_bytes : List ℕ → Bool → Option (List ℕ)
digits_bytes u escape_free = result_ok (decode_of (encode_utf8_all u))

abbrev pub byte_buf_of : Tree → Option (List ℕ)
byte_buf_of = as_text digits_bytes

-- ---- values of any kind

abbrev pub every_datum : Tree → Option Datum
every_datum t = Some (datum_of t)
