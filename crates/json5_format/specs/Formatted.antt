-- What the formatter gives.
-- A promise rests on this.
use Rattle.std.specs.Prelude.{◌≡◌, ℕ, List}
use Rattle.std.specs.Str.{chars}
use Rattle.json5_grammar.specs.Language.Trees.{Tree}
use Rattle.json5_grammar.specs.Language.Documents.{Doc, max_depth}
use Rattle.json5_write.specs.Out.{text_within}
use Rattle.json5_write.specs.EscapeFreeMarks.{unmarked}
use Rattle.json5_write.specs.WholeOutputs.{IsText}

-- the bytes are the output of the tree without its marks
abbrev pub WritesUnmarked : ℕ → Tree → List ℕ → Type 0
WritesUnmarked limit t bytes = IsText (text_within limit (unmarked t)) bytes

-- x is a document within the limit, the bytes are the output of its tree without marks, and they are again a document of
-- that tree
pub record IsFormattedWithin (limit : ℕ) (x bytes : List ℕ) : Type 0 where
  pub tree : Tree
  pub document : Doc limit x tree
  pub written : WritesUnmarked limit tree bytes
  pub again : Tree
  pub reads_back : Doc limit (chars bytes) again
  pub same : unmarked again ≡ unmarked tree

-- the same at the full limit
abbrev pub IsFormatted : List ℕ → List ℕ → Type 0
IsFormatted = IsFormattedWithin max_depth
