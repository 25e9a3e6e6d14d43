-- How the program is called.
-- A promise rests on this.
use Rattle.std.specs.Prelude.{ℕ, List, [], ◌∷◌, ◌++◌}
use lib.Chars.{codes}
use Rattle.json5_grammar.specs.Language.Characters.{line_feed}

abbrev pub usage_line : List ℕ
usage_line = codes "usage: json5_fmt [check FILE... or print FILE...]" ++ line_feed ∷ []
