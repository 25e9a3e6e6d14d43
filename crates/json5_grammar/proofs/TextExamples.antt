-- Examples: strings and names that are read and refused.
use Rattle.std.proofs.Common.{◌≡◌, true, false, [], ◌∷◌, ◌++◌, refl, Some, None}
use lib.Chars.{codes}
use Rattle.ucd_category.specs.GeneralCategory.{general_category}
use Rattle.ucd_table.specs.Rows.{value_in}
use Rattle.ucd_category.specs.GeneralCategoryRows.{general_category_rows}
use Rattle.json5_grammar.specs.Language.Characters.{is_identifier_start, is_identifier_part}
use Rattle.json5_grammar.specs.Faults.Codes.{EofParsingEscapeSequence, EofParsingString, EofParsingIdentifier, ExpectedIdentifier, InvalidEscapeSequence, LineTerminatorInString}
use Rattle.json5_grammar.specs.Written.Quoting.{quoted_text}
use Rattle.json5_grammar.specs.Model.Reading.{got, bad, here, inner}
use Rattle.json5_grammar.specs.Model.ReadTexts.{string, items, escape_at, unicode_at, hex, identifier, parts, name_escape}

escape_free_string : string (codes "'a\"b' x") ≡ got (codes "a\"b", true) (codes " x")
unfolding string items escape_at
escape_free_string = refl

escapes : string (codes "\"\\n\\x41\\u0042\\0\\q\\ud83D\\uDe00\"") ≡ got (10 ∷ 65 ∷ 66 ∷ 0 ∷ 113 ∷ 0x1F600 ∷ [], false) []
unfolding string items escape_at unicode_at hex
escapes = refl

-- CR LF after a backslash gives nothing
line_end : string (34 ∷ 92 ∷ 13 ∷ 10 ∷ 97 ∷ 34 ∷ []) ≡ got (97 ∷ [], false) []
unfolding string items escape_at
line_end = refl

raw_line : string (34 ∷ 97 ∷ 13 ∷ 34 ∷ []) ≡ bad (Some LineTerminatorInString) (here (13 ∷ 34 ∷ []))
unfolding string items escape_at
raw_line = refl

unended : string (codes "\"ab'") ≡ bad (Some EofParsingString) inner
unfolding string items escape_at
unended = refl

nul_digit : string (codes "\"a\\01\"") ≡ bad (Some InvalidEscapeSequence) (here (codes "\\01\""))
unfolding string items escape_at
nul_digit = refl

one_digit : string (codes "\"a\\1\"") ≡ bad (Some InvalidEscapeSequence) (here (codes "\\1\""))
unfolding string items escape_at
one_digit = refl

-- a second escape's digits are blamed on the first backslash
second_digits : string (codes "\"\\uD800\\uDCg0\"") ≡ bad (Some InvalidEscapeSequence) (here (codes "\\uD800\\uDCg0\""))
unfolding string items escape_at unicode_at hex
second_digits = refl

lone_surrogate : string (codes "\"\\uD800x\"") ≡ bad (Some InvalidEscapeSequence) (here (codes "x\""))
unfolding string items escape_at unicode_at hex
lone_surrogate = refl

no_member : string (codes "\"\\uD800\\u0041\"") ≡ bad None (here (codes "\\uD800\\u0041\""))
unfolding string items escape_at unicode_at hex
no_member = refl

cut_escape : string (codes "\"\\uD800\\u00") ≡ bad (Some EofParsingEscapeSequence) inner
unfolding string items escape_at unicode_at hex
cut_escape = refl

a_name : identifier (codes "a\\u0062_: 1") ≡ got (codes "ab_", false) (codes ": 1")
unfolding identifier parts name_escape unicode_at hex is_identifier_part is_identifier_start general_category value_in general_category_rows
a_name = refl

misfit : identifier (codes "\\u0031a:") ≡ bad (Some ExpectedIdentifier) (here (codes "\\u0031a:"))
unfolding identifier parts name_escape unicode_at hex is_identifier_part is_identifier_start general_category value_in general_category_rows
misfit = refl

no_u : identifier (codes "a\\x:") ≡ bad (Some InvalidEscapeSequence) (here (codes "x:"))
unfolding identifier parts name_escape unicode_at hex is_identifier_part is_identifier_start general_category value_in general_category_rows
no_u = refl

name_end : identifier (codes "ab") ≡ bad (Some EofParsingIdentifier) inner
unfolding identifier parts name_escape unicode_at hex is_identifier_part is_identifier_start general_category value_in general_category_rows
name_end = refl

name_backslash_end : identifier (codes "ab\\") ≡ bad (Some EofParsingIdentifier) inner
unfolding identifier parts name_escape unicode_at hex is_identifier_part is_identifier_start general_category value_in general_category_rows
name_backslash_end = refl

name_escape_end : identifier (codes "ab\\u") ≡ bad (Some EofParsingEscapeSequence) inner
unfolding identifier parts name_escape unicode_at hex is_identifier_part is_identifier_start general_category value_in general_category_rows
name_escape_end = refl

written : quoted_text (codes "a\"b'\\" ++ 10 ∷ 0x2028 ∷ []) ≡ codes "\"a\\\"b'\\\\\\n\\u2028\""
written = refl
