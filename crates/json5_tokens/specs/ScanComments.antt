-- What private clauses say of comments.
-- Private.
use Rattle.std.specs.Prelude.{◌≡◌, ◌≤◌, List, ℕ, length, Some}
use Rattle.std.specs.Str.{chars}
use Rattle.json5_grammar.specs.declared.error_code.ErrorCode.TheVariants.{EofParsingComment}
use Rattle.json5_grammar.specs.Model.Reading.{bad, inner}
use Rattle.json5_grammar.specs.Model.ReadBlanks.{Mode, skip, between}

-- to skip the text in this mode is to skip the rest between tokens
pub record Continues (mode : Mode) (text rest : List ℕ) : Type 0 where
  pub passed : skip mode (chars text) ≡ skip between (chars rest)
  pub shorter : length rest ≤ length text

-- the input ends in a comment that `/*` began
abbrev pub IsUnclosed : List ℕ → Type 0
IsUnclosed text = skip Mode.block text ≡ bad (Some EofParsingComment) inner
