use Rattle.std.proofs.Common.{rules, ◌≡◌, [], ◌∷◌, subst}
use Rattle.std.specs.Prelude.{string_bytes}
use Rattle.json5_edit.specs.Changes.{ChangesBy}
use Rattle.json5_edit_values.specs.Patches.{Patches}
use Rattle.cli_edit.proofs.ValuesMoved.{one_operation}
use Rattle.cli_edit.proofs.patches.performed.Goals as goal

pub returns-in-Ok : goal.returns-in-Ok
returns-in-Ok c =
    let one : c.push.new.self.items ≡ c.args.operation ∷ [] = search rules in
    one_operation c.args.operation c.args.text.now (string_bytes c.in-Ok.made) (subst (λ z. ChangesBy (Patches z) c.args.text.now (string_bytes c.in-Ok.made)) one c.in-Ok.ensures)
