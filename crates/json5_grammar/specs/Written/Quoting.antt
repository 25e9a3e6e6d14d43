-- How a string is written: between quotes; as a key bare, if it is an identifier.
-- A promise rests on this.
use Rattle.std.specs.Prelude.{ℕ, Bool, false, if◌then◌else◌, ◌&&◌, not, ◌==◌, List, [], ◌∷◌, ◌++◌}
use Rattle.std.specs.List.{list_any, list_all}
use lib.Chars.{codes}
use Rattle.json5_grammar.specs.Language.Characters.{line_feed, carriage_return, double_quote, single_quote, backslash, is_identifier_start, is_identifier_part, line_separator, paragraph_separator}

-- a character between the quotes q
abbrev pub escaped : ℕ → ℕ → List ℕ
escaped q c = if c == q then backslash ∷ c ∷ [] else if c == backslash then codes "\\\\" else if c == line_feed then codes "\\n" else if c == carriage_return then codes "\\r" else if c == line_separator then codes "\\u2028" else if c == paragraph_separator then codes "\\u2029" else c ∷ []

abbrev pub escaped_all : ℕ → List ℕ → List ℕ
escaped_all q [] = []
escaped_all q (c ∷ s) = escaped q c ++ escaped_all q s

-- `'` if the string has `"` and no `'`
abbrev pub quote_for : List ℕ → ℕ
quote_for u = if list_any (λ c. c == double_quote) u && not (list_any (λ c. c == single_quote) u) then single_quote else double_quote

abbrev pub quoted_text : List ℕ → List ℕ
quoted_text u = quote_for u ∷ escaped_all (quote_for u) u ++ quote_for u ∷ []

abbrev pub is_name : List ℕ → Bool
is_name [] = false
is_name (c ∷ s) = is_identifier_start c && list_all is_identifier_part s

abbrev pub key_text : List ℕ → List ℕ
key_text u = if is_name u then u else quoted_text u
