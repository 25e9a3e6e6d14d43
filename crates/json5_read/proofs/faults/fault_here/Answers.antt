use Rattle.std.proofs.Common.{Some, ap, sym, ◌∙◌}
use Rattle.std.proofs.lemmas.List.{append-nil}
use Rattle.json5_grammar.specs.Faults.Positions.{position_after}
use Rattle.json5_read.proofs.ModelSteps.{counted_before}
use Rattle.json5_read.proofs.faults.fault_here.Goals as goal

pub returns-clause-placed : goal.returns-clause-placed
returns-clause-placed g c = λ before whole.
    c.new_at.ensures.place
    ∙ ap Some (c.position_of.ensures.inside before c.args.scanner.now.unread whole (counted_before c.args.scanner.now before c.offset-offset.result c.offset-offset.ensures.counted whole) ∙ ap position_after (sym (append-nil before)))
