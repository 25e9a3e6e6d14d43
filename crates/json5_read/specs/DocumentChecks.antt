-- How a whole input is checked, and why it is refused.
-- A promise rests on this.
use Rattle.std.specs.Prelude.{ℕ, List, Result, IfOk, IfErr}
use Rattle.json5_grammar.specs.Language.Documents.{Doc}
use Rattle.json5_grammar.specs.Language.Trees.{Tree}
use Rattle.json5_types.specs.declared.error.Error.{Error}
use Rattle.json5_tokens.specs.Cursor.{IsOutOfMemory}
use Rattle.json5_read.specs.DocumentReads.{IsRefusedWithin}

-- Ok exactly when x is a document within the limit, unless memory runs out
pub record ChecksText (limit : ℕ) (x : List ℕ) (result : Result (Unit {0}) Error) : Type 0 where
  pub sound : IfOk result (λ u. (t : Tree) × Doc limit x t)
  pub complete : (t : Tree) → Doc limit x t → IfErr result IsOutOfMemory
  pub refused : IfErr result (IsRefusedWithin limit x)
