use Rattle.std.proofs.Common.{refl}
use Rattle.json5_edit.proofs.TakenApart.{belongs}
use Rattle.json5_edit.proofs.belongings.check_gone.Goals as goal

pub returns : goal.returns
returns c = belongs c.args.leads c.args.before.now c.args.gone.now c.args.after.now c.in_ok-lead.lead.now c.in_ok-lead.rest.now c.in_ok-_entry._entry.now c.in_ok-_entry.trail.now c.in_ok-lead.ensures.split c.in_ok-_entry.ensures.split (c.if-not-is_lead.ensures refl) (c.in_ok-_entry.ensures.entry c.in_ok-lead.ensures.solid) (c.if-not-is_trail.ensures refl) (c.if-not-may_go.ensures refl)
