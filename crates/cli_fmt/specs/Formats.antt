-- What the formatter promises of the bytes of an input.
-- A promise rests on this.
use Rattle.std.specs.Prelude.{ℕ, List}
use Rattle.std.specs.Str.{chars}
use Rattle.json5_format.specs.Formatted.{IsFormatted}

-- the input is a document, and this is written of it
abbrev pub Formats : List ℕ → List ℕ → Type 0
Formats text output = IsFormatted (chars text) output
