use Rattle.std.proofs.Common.{sym, ◌∙◌}
use Rattle.json5_read.proofs.FaultPositions.{place_kept, place_given}
use Rattle.json5_read.proofs.faults.with_position_at.Goals as goal

pub returns-in-Some : goal.returns-in-Some
returns-in-Some g c = place_kept c.args.scanner.now.input c.args.start c.args.error _ (sym c.position.ensures ∙ c.in-Some.is)

pub returns-in-None : goal.returns-in-None
returns-in-None g c =
    place_given c.args.scanner.now.input c.args.start c.args.error c.at.result c.position_of.result (sym c.position.ensures ∙ c.in-None.is) c.at.ensures.kind c.at.ensures.place c.position_of.ensures.inside
