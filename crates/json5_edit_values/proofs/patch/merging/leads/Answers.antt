use Rattle.json5_edit_values.proofs.MergesMade.{leads_so}
use Rattle.json5_edit_values.proofs.patch.merging.leads.Goals as goal

pub returns-in-Ok : goal.returns-in-Ok
returns-in-Ok c = leads_so c.args.text.now c.args.steps.now c.in-Ok.span c.is_some.result c.in-Ok.ensures.found c.is_some.ensures
