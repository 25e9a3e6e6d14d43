-- How a whole input is read as a value of any kind, and why it is refused.
-- A promise rests on this.
use Rattle.std.specs.Prelude.{◌≡◌, ℕ, ◌≤◌, List, Option, Result}
use Rattle.json5_grammar.specs.declared.error_code.ErrorCode.{ErrorCode}
use Rattle.json5_grammar.specs.Language.Documents.{Doc, max_depth}
use Rattle.json5_grammar.specs.Language.Trees.{Tree}
use Rattle.json5_types.specs.declared.error.Error.{Error}
use Rattle.json5_types.specs.declared.value.Value.{Value}
use Rattle.json5_types.specs.ValueMeanings.{Datum, value_of}
use Rattle.json5_read.specs.EntryFaults.{FaultRelation}
use Rattle.json5_de.specs.State.{State}
use Rattle.json5_de.specs.WholeInputs.{ReadsWholeText}
pub use Rattle.json5_read.specs.DocumentReads.{FaultyDocument, unread_text, IsRefused, IsRefusedWithin, ReadsText}

-- an input has at most one fault of the relation, within each limit
abbrev pub IsOneFault : (ℕ → FaultRelation) → Type 0
IsOneFault F = (limit : ℕ) (x : List ℕ) (reason other : Option ErrorCode) (place there : Option (List ℕ)) → F limit x reason place → F limit x other there → (reason ≡ other) × (place ≡ there)

-- an input with such a fault is no document
abbrev pub IsNoDocument : (ℕ → FaultRelation) → Type 0
IsNoDocument F = (limit : ℕ) (x : List ℕ) (t : Tree) (reason : Option ErrorCode) (place : Option (List ℕ)) → Doc limit x t → F limit x reason place → ⊥

-- If a type at `Value` has this conversion and these refusals, each result that the clauses of `from_str_within` allow is one that `ReadsText` allows.
abbrev pub ReadsEachText : (Tree → Option Datum) → (State → Error → State → Type 0) → Type 0
ReadsEachText convert refuses =
    (limit : ℕ) (x : List ℕ) (result : Result Value Error) → limit ≤ max_depth → ReadsWholeText value_of convert refuses limit x result → ReadsText limit x result
