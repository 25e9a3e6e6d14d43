use Rattle.json5_types.specs.ValueMeanings.{value_of}
use Rattle.json5_schema.proofs.Refusing.{leads_once}
use Rattle.json5_schema.proofs.references.leads_to.Goals as goal

pub returns-then-refers : goal.returns-then-refers
returns-then-refers c =
    let w = c.in-Some in
    λ e. leads_once (value_of c.args.root.now) c.args.from.now c.args.to.now (value_of w.schema.now) (rw w.is at c.target_by.ensures) (c.refers.ensures c.if-refers.true) (c.leads_on.ensures e)
