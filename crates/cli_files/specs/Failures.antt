-- How a fault of the input ends the program.
-- A promise rests on this.
use Rattle.std.specs.Prelude.{⊤}
use Rattle.json5_grammar.specs.declared.error_code.ErrorCode.TheVariants as codes
use Rattle.json5_types.specs.declared.error.Error.{Error}
use Rattle.json5_types.specs.Errors.{FaultKind, code, custom, failed_write, kind_of}
use Rattle.json5_tokens.specs.Cursor.{IsOutOfMemory}
use Rattle.cli_files.specs.declared.failure.Failure.{Failure}
use Rattle.cli_files.specs.declared.failure.Failure.TheVariants as failure

abbrev pub failure_of_kind : FaultKind → Error → Failure
failure_of_kind (code codes.OutOfMemory) e = failure.NoMemory
failure_of_kind (code _) e = failure.Text e
failure_of_kind (custom text) e = failure.Text e
failure_of_kind failed_write e = failure.Text e

-- that memory ran out is no fault of the input
abbrev pub failure_at : Error → Failure
failure_at e = failure_of_kind (kind_of e) e

-- if memory ran out, the cause says so, and no input is blamed
abbrev pub NamesMemory : Failure → Type 0
NamesMemory failure.NotUtf8 = ⊤
NamesMemory (failure.Text e) = ¬ (IsOutOfMemory e)
NamesMemory failure.NoMemory = ⊤
NamesMemory failure.Read = ⊤
NamesMemory failure.Write = ⊤
