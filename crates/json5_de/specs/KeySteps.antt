-- The steps of a read of a key.
-- Private.
use Rattle.std.specs.Prelude.{◌≡◌, ℕ, Bool, true, false, List, Some}
use Rattle.json5_grammar.specs.declared.error_code.ErrorCode.TheVariants as codes
use Rattle.json5_grammar.specs.declared.position.Position.{Position}
use Rattle.json5_types.specs.declared.error.Error.{Error}
use Rattle.json5_tokens.specs.Cursor.{IsPositionOf}
use Rattle.json5_types.specs.Errors.{FaultKind, LacksMemory, SaysAt, code, kind_of}

abbrev pub is_out_of_memory : FaultKind → Bool
is_out_of_memory (code codes.OutOfMemory) = true
is_out_of_memory _ = false

-- the fault of a key whose text, read as a document, has this fault: memory ran out, without a position, or the same at this offset
pub data IsTextFault (input : List ℕ) (offset : ℕ) (own e : Error) : Type 0 where
  no_memory : is_out_of_memory (kind_of own) ≡ true → LacksMemory e → IsTextFault input offset own e
  at_key : is_out_of_memory (kind_of own) ≡ false → (there : Position) → IsPositionOf input offset there → SaysAt (kind_of own) (Some there) e → IsTextFault input offset own e
