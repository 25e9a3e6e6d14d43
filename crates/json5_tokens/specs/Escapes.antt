-- What is written for a character between two delimiters.
-- A promise rests on this.
use Rattle.std.specs.Prelude.{ℕ, if◌then◌else◌, List}
use Rattle.json5_grammar.specs.Language.Characters.{backslash}
use Rattle.json5_grammar.specs.Language.Strings.{is_quote}
use Rattle.json5_grammar.specs.Written.Quoting.{escaped}

-- a delimiter that is no quote needs no escape itself: the backslash, which always needs one, takes its part
abbrev pub escape_of : ℕ → ℕ → List ℕ
escape_of delimiter c = if is_quote delimiter then escaped delimiter c else escaped backslash c
