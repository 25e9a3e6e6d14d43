-- Why a text is no document.
use Rattle.std.proofs.Common.{◌≡◌, ℕ, List, Option, refl}
use Rattle.std.specs.Prelude.{IfSome}
use Rattle.json5_types.specs.declared.error.Error.{Error}
use Rattle.json5_types.specs.Errors.{kind_of}
use Rattle.cli_files.specs.Failures.{failure_at}
use Rattle.cli_files.specs.Inputs.{RefusesInput, ReadFailure}
use Rattle.cli_files.proofs.Refusals.{refused_input, refused_read}

-- the input's text is refused so
pub refused_text : (input : Option (List ℕ)) (text : List ℕ) (e : Error) → IfSome input (λ bytes. text ≡ bytes) → RefusesInput e text → ReadFailure input (failure_at e)
refused_text input text e is refused = refused_read input (kind_of e) e refl (refused_input input text e is refused)
