-- How a refused input ends a run.
use Rattle.std.proofs.Common.{◌≡◌, ℕ, List, sym, ◌∙◌, subst, Option, Some, None}
use Rattle.std.specs.Prelude.{IfSome}
use Rattle.json5_grammar.specs.declared.error_code.ErrorCode.TheVariants as codes
use Rattle.json5_types.specs.declared.error.Error.{Error}
use Rattle.json5_types.specs.Errors.{FaultKind, code, custom, failed_write, kind_of}
use Rattle.cli_files.specs.Inputs.{RefusesInput, ReadFailure}
use Rattle.cli_files.specs.Failures.{failure_of_kind}

-- what was read is the input that is refused
pub refused_input : (input : Option (List ℕ)) (text : List ℕ) (e : Error) → IfSome input (λ bytes. text ≡ bytes) → RefusesInput e text → IfSome input (RefusesInput e)
refused_input None text e is refused = tt
refused_input (Some bytes) text e is refused = subst (RefusesInput e) is refused

-- an input that is refused because memory ran out isn't blamed
pub refused_read : (input : Option (List ℕ)) (k : FaultKind) (e : Error) → kind_of e ≡ k → IfSome input (RefusesInput e) → ReadFailure input (failure_of_kind k e)
refused_read input (code codes.OutOfMemory) e is refused = tt
refused_read input (code c) e is refused = (λ m. let same : code c ≡ code codes.OutOfMemory = sym is ∙ m in absurd (cc), refused)
refused_read input (custom text) e is refused = (λ m. let same : custom text ≡ code codes.OutOfMemory = sym is ∙ m in absurd (cc), refused)
refused_read input failed_write e is refused = (λ m. let same : failed_write ≡ code codes.OutOfMemory = sym is ∙ m in absurd (cc), refused)
