-- Characters by their codes, and the character classes.
-- A promise rests on this.
-- JSON5 section 8 (white space), ECMAScript 5.1 sections 7.3 (line terminators) and 7.6 (identifier names).
use Rattle.std.specs.Prelude.{◌≡◌, ℕ, Bool, true, false, ◌&&◌, ◌||◌, ◌==◌, nat_le, List, [], ◌∷◌, ⊤}
use Rattle.unicode.specs.GeneralCategory.{general_category}
use Rattle.ucd_category.specs.declared.GeneralCategory.{GeneralCategory}
use Rattle.ucd_category.specs.declared.GeneralCategory.TheVariants as category

-- ---- characters by name

abbrev pub backspace : ℕ
backspace = 0x08

abbrev pub tab : ℕ
tab = 0x09

abbrev pub line_feed : ℕ
line_feed = 0x0A

abbrev pub vertical_tab : ℕ
vertical_tab = 0x0B

abbrev pub form_feed : ℕ
form_feed = 0x0C

abbrev pub carriage_return : ℕ
carriage_return = 0x0D

abbrev pub space : ℕ
space = 0x20

abbrev pub double_quote : ℕ
double_quote = 0x22

abbrev pub dollar_sign : ℕ
dollar_sign = 0x24

abbrev pub single_quote : ℕ
single_quote = 0x27

abbrev pub star_sign : ℕ
star_sign = 0x2A

abbrev pub plus_sign : ℕ
plus_sign = 0x2B

abbrev pub comma_sign : ℕ
comma_sign = 0x2C

abbrev pub minus_sign : ℕ
minus_sign = 0x2D

abbrev pub point_sign : ℕ
point_sign = 0x2E

abbrev pub slash_sign : ℕ
slash_sign = 0x2F

abbrev pub digit_zero : ℕ
digit_zero = 0x30

abbrev pub digit_one : ℕ
digit_one = 0x31

abbrev pub digit_nine : ℕ
digit_nine = 0x39

abbrev pub colon_sign : ℕ
colon_sign = 0x3A

abbrev pub capital_a : ℕ
capital_a = 0x41

abbrev pub capital_e : ℕ
capital_e = 0x45

abbrev pub capital_f : ℕ
capital_f = 0x46

abbrev pub capital_i : ℕ
capital_i = 0x49

abbrev pub capital_n : ℕ
capital_n = 0x4E

abbrev pub capital_x : ℕ
capital_x = 0x58

abbrev pub left_bracket : ℕ
left_bracket = 0x5B

abbrev pub backslash : ℕ
backslash = 0x5C

abbrev pub right_bracket : ℕ
right_bracket = 0x5D

abbrev pub low_line : ℕ
low_line = 0x5F

abbrev pub letter_a : ℕ
letter_a = 0x61

abbrev pub letter_b : ℕ
letter_b = 0x62

abbrev pub letter_e : ℕ
letter_e = 0x65

abbrev pub letter_f : ℕ
letter_f = 0x66

abbrev pub letter_n : ℕ
letter_n = 0x6E

abbrev pub letter_r : ℕ
letter_r = 0x72

abbrev pub letter_t : ℕ
letter_t = 0x74

abbrev pub letter_u : ℕ
letter_u = 0x75

abbrev pub letter_v : ℕ
letter_v = 0x76

abbrev pub letter_x : ℕ
letter_x = 0x78

abbrev pub left_brace : ℕ
left_brace = 0x7B

abbrev pub right_brace : ℕ
right_brace = 0x7D

abbrev pub no_break_space : ℕ
no_break_space = 0xA0

abbrev pub zero_width_non_joiner : ℕ
zero_width_non_joiner = 0x200C

abbrev pub zero_width_joiner : ℕ
zero_width_joiner = 0x200D

abbrev pub line_separator : ℕ
line_separator = 0x2028

abbrev pub paragraph_separator : ℕ
paragraph_separator = 0x2029

abbrev pub first_high_surrogate : ℕ
first_high_surrogate = 0xD800

abbrev pub last_high_surrogate : ℕ
last_high_surrogate = 0xDBFF

abbrev pub first_low_surrogate : ℕ
first_low_surrogate = 0xDC00

abbrev pub last_low_surrogate : ℕ
last_low_surrogate = 0xDFFF

abbrev pub byte_order_mark : ℕ
byte_order_mark = 0xFEFF

-- ---- classes

abbrev pub is_in : ℕ → ℕ → ℕ → Bool
is_in low high c = nat_le low c && nat_le c high

-- Zs
abbrev pub is_space_category : GeneralCategory → Bool
is_space_category category.SpaceSeparator = true
is_space_category _ = false

-- Lu, Ll, Lt, Lm, Lo, Nl
abbrev pub is_start_category : GeneralCategory → Bool
is_start_category category.UppercaseLetter = true
is_start_category category.LowercaseLetter = true
is_start_category category.TitlecaseLetter = true
is_start_category category.ModifierLetter = true
is_start_category category.OtherLetter = true
is_start_category category.LetterNumber = true
is_start_category _ = false

-- Mn, Mc, Nd, Pc
abbrev pub is_part_category : GeneralCategory → Bool
is_part_category category.NonspacingMark = true
is_part_category category.SpacingMark = true
is_part_category category.DecimalNumber = true
is_part_category category.ConnectorPunctuation = true
is_part_category _ = false

unfoldable pub is_space_separator : ℕ → Bool
is_space_separator c = is_space_category (general_category c)

-- a line terminator: LF, CR, U+2028 or U+2029
abbrev pub is_terminator : ℕ → Bool
is_terminator c = (c == line_feed) || ((c == carriage_return) || ((c == line_separator) || (c == paragraph_separator)))

-- white space and line terminators: U+0009 to U+000D, U+0020, U+00A0, U+2028, U+2029, U+FEFF and Zs
abbrev pub is_blank : ℕ → Bool
is_blank c = is_in tab carriage_return c || ((c == space) || ((c == no_break_space) || ((c == line_separator) || ((c == paragraph_separator) || ((c == byte_order_mark) || is_space_separator c)))))

-- `$`, `_` and the letters
unfoldable pub is_identifier_start : ℕ → Bool
is_identifier_start c = (c == dollar_sign) || ((c == low_line) || is_start_category (general_category c))

-- a start, U+200C, U+200D, marks, digits and connectors
unfoldable pub is_identifier_part : ℕ → Bool
is_identifier_part c = is_identifier_start c || (is_in zero_width_non_joiner zero_width_joiner c || is_part_category (general_category c))

abbrev pub is_digit : ℕ → Bool
is_digit c = is_in digit_zero digit_nine c

abbrev pub is_hex_digit : ℕ → Bool
is_hex_digit c = is_digit c || (is_in capital_a capital_f c || is_in letter_a letter_f c)

-- ---- the first character of a list, and all of them

abbrev pub Begun : (ℕ → Bool) → List ℕ → Type 0
Begun p [] = ⊥
Begun p (c ∷ s) = p c ≡ true

-- the list is empty, or its first character fails the test
abbrev pub NotBegun : (ℕ → Bool) → List ℕ → Type 0
NotBegun p [] = ⊤
NotBegun p (c ∷ s) = p c ≡ false

-- each character passes the test
pub data Each (p : ℕ → Bool) : List ℕ → Type 0 where
  no_char : Each p []
  char : {c : ℕ} {s : List ℕ} → p c ≡ true → Each p s → Each p (c ∷ s)
