-- How a string is written as JSON: between double quotes, with the escapes that it has to have (RFC 8259 section 7).
-- A promise rests on this.
use Rattle.std.specs.Prelude.{ℕ, ◌/◌, ◌%◌, ◌==◌, nat_lt, if◌then◌else◌, List, [], ◌∷◌, ◌++◌, Bool, true, false, ◌&&◌}
use Rattle.std.specs.Char.{digit_char}
use lib.Chars.{codes}
use Rattle.json5_grammar.specs.Language.Characters.{backspace, tab, line_feed, form_feed, carriage_return, space, double_quote, backslash}
use Rattle.json5_grammar.specs.Language.Numbers.{Number, whole, decimal, infinite, nan, finite}
use Rattle.json5_types.specs.ValueMeanings.{Datum, number, array, object, Items, no_item, item, Fields, no_field, field}

-- the code of a character below 32
abbrev pub control_code : ℕ → List ℕ
control_code c = codes "\\u00" ++ digit_char (c / 16) ∷ digit_char (c % 16) ∷ []

-- a character of a string
abbrev pub json_escaped : ℕ → List ℕ
json_escaped c = if c == double_quote then codes "\\\"" else if c == backslash then codes "\\\\" else if c == backspace then codes "\\b" else if c == form_feed then codes "\\f" else if c == line_feed then codes "\\n" else if c == carriage_return then codes "\\r" else if c == tab then codes "\\t" else if nat_lt c space then control_code c else c ∷ []

abbrev pub json_escaped_all : List ℕ → List ℕ
json_escaped_all [] = []
json_escaped_all (c ∷ s) = json_escaped c ++ json_escaped_all s

abbrev pub json_string : List ℕ → List ℕ
json_string u = double_quote ∷ json_escaped_all u ++ double_quote ∷ []

-- ---- what JSON has: no infinity and no not-a-number

abbrev pub is_json_number : Number → Bool
is_json_number (whole z) = true
is_json_number (decimal (infinite m)) = false
is_json_number (decimal (nan m)) = false
is_json_number (decimal (finite m ds e)) = true

abbrev mutual
  pub is_json : Datum → Bool
  is_json (number n) = is_json_number n
  is_json (array xs) = items_are_json xs
  is_json (object fs) = fields_are_json fs
  is_json _ = true

  pub items_are_json : Items → Bool
  items_are_json no_item = true
  items_are_json (item x xs) = is_json x && items_are_json xs

  pub fields_are_json : Fields → Bool
  fields_are_json no_field = true
  fields_are_json (field u x fs) = is_json x && fields_are_json fs
