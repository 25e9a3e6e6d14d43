use Rattle.json5_edit.proofs.Placed.{ok_then}
use Rattle.cli_edit.proofs.patches.copied.Goals as goal

pub returns : goal.returns
returns c = ok_then c.performed.result (λ made k. (c.in_ok-from.from.tokens.items, c.in_ok-from.ensures, (c.in_ok-path.path.tokens.items, k))) c.performed.ensures
