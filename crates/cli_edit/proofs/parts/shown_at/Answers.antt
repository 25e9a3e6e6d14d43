use Rattle.cli_edit.proofs.PartsRead.{part_fits, shown_err, shown_ok}
use Rattle.cli_edit.proofs.parts.shown_at.Goals as goal

pub shown-requires : goal.shown-requires
shown-requires c = part_fits c.args.text.now c.in-Ok.part.now c.args.steps.now c.utf8.text c.in-Ok.ensures

pub returns-in-Ok-clause-shown : goal.returns-in-Ok-clause-shown
returns-in-Ok-clause-shown c = shown_ok c.args.text.now c.in-Ok.part.now c.args.steps.now c.utf8.text c.in-Ok.ensures c.args.view c.shown.result c.shown.ensures.shown

pub returns-in-Ok-clause-refused : goal.returns-in-Ok-clause-refused
returns-in-Ok-clause-refused c = shown_err c.args.text.now c.in-Ok.part.now c.args.steps.now c.utf8.text c.in-Ok.ensures c.args.view c.shown.result c.shown.ensures.refused
