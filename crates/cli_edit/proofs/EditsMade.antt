-- What an edit returned, as the work's own.
use Rattle.std.proofs.Common.{◌≡◌, ℕ, List}
use Rattle.std.specs.declared.alloc.Global.{Global}
use Rattle.std.specs.Prelude.{IfOk, Result, Ok, Err, String, string_bytes}
use Rattle.json5_edit.specs.declared.faults.EditError.{EditError}
use Rattle.json5_edit.specs.declared.paths.Step.{Step}
use Rattle.cli_edit.specs.declared.requests.Command.{Command}
use Rattle.cli_edit.specs.declared.trouble.TextTrouble.{TextTrouble}
use Rattle.cli_edit.specs.Makes.{Makes, edited}

pub made_by : (w t : Command) (text : List ℕ) (steps : List Step) (value : List ℕ) (r : Result (String Global) EditError) (e : Result (String Global) TextTrouble) → t ≡ w → e ≡ edited r
    → IfOk r (λ made. Makes w text steps value (string_bytes made)) → IfOk e (λ made. Makes t text steps value (string_bytes made))
made_by w t text steps value (Ok made) e is same k = rw (is, same) k
made_by w t text steps value (Err x) e is same k = rw same tt
