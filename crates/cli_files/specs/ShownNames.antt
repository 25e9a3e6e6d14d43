-- Names as messages show them.
-- A promise rests on this.
use Rattle.std.specs.Prelude.{ℕ, ◌/◌, ◌%◌, List, [], ◌∷◌, ◌++◌, if◌then◌else◌}
use Rattle.std.specs.Char.{digit_char, encode_utf8, is_control}
use Rattle.std.specs.Str.{chars}
use lib.Chars.{codes}

-- a control character by its code in hexadecimal, any other as it is
abbrev pub shown_char : ℕ → List ℕ
shown_char c = if is_control c then codes "\\x" ++ digit_char (c / 16) ∷ digit_char (c % 16) ∷ [] else encode_utf8 c

abbrev pub shown_chars : List ℕ → List ℕ
shown_chars [] = []
shown_chars (c ∷ cs) = shown_char c ++ shown_chars cs

-- no character of it can move a cursor, end a line or begin a command of a terminal
abbrev pub shown_name : List ℕ → List ℕ
shown_name name = shown_chars (chars name)
