use Rattle.std.proofs.Common.{◌∙◌, sym}
use Rattle.json5_read.proofs.OpenBrackets.{innermost_apart}
use Rattle.json5_read.proofs.brackets.OpenBrackets.pop.Goals as goal

pub returns-clause-items : goal.returns-clause-items
returns-clause-items c =
    sym c.self.view_is ∙ innermost_apart c.pop.new.self.items c.self.inside.kinds.items c.pop-2.new.self.items c.self.inside.starts.items (record { kind = c.in_ok-kind.kind; start = c.in_ok-start.start })
    c.in_ok-kind.ensures.items c.in_ok-start.ensures.items c.self.invariant
