-- How a whole input is read as a value of any kind, and why it is refused.
-- A promise rests on this.
use Rattle.std.specs.Prelude.{◌≡◌, ◌⊎◌, ℕ, List, Option, Result, IfOk, IfErr, MatchResult}
use Rattle.json5_grammar.specs.declared.error_code.ErrorCode.{ErrorCode}
use Rattle.json5_grammar.specs.Language.Documents.{Doc, max_depth}
use Rattle.json5_grammar.specs.Faults.Refusals.{BlamesText}
use Rattle.json5_grammar.specs.Language.Trees.{Tree}
use Rattle.json5_types.specs.declared.error.Error.{Error}
use Rattle.json5_types.specs.declared.value.Value.{Value}
use Rattle.json5_tokens.specs.Cursor.{Cursor, Refused, IsOutOfMemory}
use Rattle.json5_types.specs.ValueMeanings.{value_of}
use Rattle.json5_read.specs.TreeMeanings.{datum_of}
use Rattle.json5_read.specs.ModelSteps.{IsUnprompted}

-- the input's fault within the limit, with what can be read before it
abbrev pub FaultyDocument : ℕ → List ℕ → Option ErrorCode → Option (List ℕ) → Type 0
FaultyDocument = BlamesText

-- nothing of the input was read
abbrev pub unread_text : List ℕ → Cursor
unread_text x = record { input = x; unread = x }

-- x is refused with its fault within the limit, or because memory ran out
pub record IsRefusedWithin (limit : ℕ) (x : List ℕ) (e : Error) : Type 0 where
  pub cause : IsOutOfMemory e ⊎ Refused (FaultyDocument limit) (unread_text x) e
  pub unprompted : IsUnprompted e

-- the same at the full limit
abbrev pub IsRefused : List ℕ → Error → Type 0
IsRefused = IsRefusedWithin max_depth

-- Ok(v) exactly when x is a document within the limit, and then v is what its tree means; unless memory runs out
pub record ReadsText (limit : ℕ) (x : List ℕ) (result : Result Value Error) : Type 0 where
  pub sound : IfOk result (λ v. (t : Tree) × Doc limit x t × (value_of v ≡ datum_of t))
  pub complete : (t : Tree) → Doc limit x t → MatchResult result (λ v. value_of v ≡ datum_of t) IsOutOfMemory
  pub refused : IfErr result (IsRefusedWithin limit x)
