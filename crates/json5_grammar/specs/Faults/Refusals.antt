-- What a refusal says of an input: its one fault, what begins a document and what doesn't, and where the faulty part is.
-- A promise rests on this.
use Rattle.std.specs.Prelude.{◌≡◌, ℕ, List, ◌++◌, Option}
use Rattle.json5_grammar.specs.Faults.Blames.{StandsIn, Shows}
use Rattle.json5_grammar.specs.Faults.Codes.{ErrorCode, Shown, by_char}
use Rattle.json5_grammar.specs.Language.Documents.{Begins}
use Rattle.json5_grammar.specs.Faults.{FaultWhere, Fault, Anywhere, InValue}
use Rattle.json5_grammar.specs.Faults.Fronts.{Expects}
use Rattle.json5_grammar.specs.Faults.Parts.{Part}

-- x has a fault of this code (None: custom) at this position (what comes before it; None: no position), and no other one
pub record Blames (Where : Expects → Type 0) (limit : ℕ) (x : List ℕ) (code : Option ErrorCode) (place : Option (List ℕ)) : Type 0 where
  pub before : List ℕ
  pub part : List ℕ
  pub shown : Shown
  pub found : FaultWhere Where limit x code place before part shown
  pub only : (other : Option ErrorCode) (there : Option (List ℕ)) (b p : List ℕ) (how : Shown) → Fault limit x other there b p how
      → (other ≡ code) × (there ≡ place)
  -- what comes before the part begins a document, and through the character that shows the fault nothing does
  pub begins : Begins limit before
  pub through : shown ≡ by_char → Begins limit (before ++ part) → ⊥
  -- the part is one of the table's, it is in x, and the position is in it
  pub is_part : Part part
  pub inside : StandsIn x before part shown
  pub at : shown ≡ by_char → Shows before part place

-- the fault of an input that is no document, and that of the value in front
abbrev pub BlamesText : ℕ → List ℕ → Option ErrorCode → Option (List ℕ) → Type 0
BlamesText = Blames Anywhere

abbrev pub BlamesValue : ℕ → List ℕ → Option ErrorCode → Option (List ℕ) → Type 0
BlamesValue = Blames InValue
