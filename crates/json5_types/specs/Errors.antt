-- What contracts see of a fault.
-- A promise rests on this.
use Rattle.std.specs.Prelude.{◌≡◌, ◌++◌, ◌+◌, ℕ, List, Option, Some, None, string_bytes, decimal}
use lib.Chars.{codes}
use Rattle.json5_grammar.specs.declared.error_code.ErrorCode.{ErrorCode}
use Rattle.json5_grammar.specs.declared.error_code.ErrorCode.TheVariants.{OutOfMemory}
use Rattle.json5_grammar.specs.Faults.CodeTexts.{code_text}
use Rattle.json5_grammar.specs.declared.position.Position.{Position}
use Rattle.json5_types.specs.declared.error.Error.{Error}
use Rattle.json5_types.specs.declared.error.Content.{Content}
use Rattle.json5_types.specs.declared.error.Content.TheVariants as content

-- what a fault says: a code, a custom message (its bytes), or that a write failed
pub data FaultKind : Type 0 where
  code : ErrorCode → FaultKind
  custom : List ℕ → FaultKind
  failed_write : FaultKind

abbrev pub kind_of_content : Content → FaultKind
kind_of_content (content.Code c) = code c
kind_of_content (content.Custom s) = custom (string_bytes s)
kind_of_content content.FailedWrite = failed_write

abbrev pub kind_of : Error → FaultKind
kind_of e = kind_of_content e.content

-- the position of a fault
abbrev pub error_position : Error → Option Position
error_position e = e.position

abbrev pub known_code : FaultKind → Option ErrorCode
known_code (code c) = Some c
known_code (custom s) = None
known_code failed_write = None

-- a position that the fault has already stays
abbrev pub or_position : Option Position → Position → Option Position
or_position None p = Some p
or_position (Some q) p = Some q

-- the fault says this, and has this position
pub record SaysAt (what : FaultKind) (there : Option Position) (e : Error) : Type 0 where
  pub kind : kind_of e ≡ what
  pub place : error_position e ≡ there

-- the fault has a custom message and this position
pub record IsCustomAt (there : Option Position) (e : Error) : Type 0 where
  pub kind : (text : List ℕ) × (kind_of e ≡ custom text)
  pub place : error_position e ≡ there

-- memory was refused, which has no position
pub record LacksMemory (e : Error) : Type 0 where
  pub kind : kind_of e ≡ code OutOfMemory
  pub place : error_position e ≡ None

-- ---- what is printed

abbrev pub kind_text : FaultKind → List ℕ
kind_text (code c) = code_text c
kind_text (custom text) = text
kind_text failed_write = codes "failed write"

abbrev pub position_text : Position → List ℕ
position_text p = codes "line " ++ decimal (p.line + 1) ++ codes " column " ++ decimal (p.column + 1)

abbrev pub positioned_text : List ℕ → Option Position → List ℕ
positioned_text text None = text
positioned_text text (Some p) = text ++ (codes " at " ++ position_text p)

-- what the fault says, and ` at ` and its position if it has one
abbrev pub error_text : Error → List ℕ
error_text e = positioned_text (kind_text (kind_of e)) (error_position e)
