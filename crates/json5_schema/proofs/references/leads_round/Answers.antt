use Rattle.std.proofs.Common.{rules}
use Rattle.json5_types.specs.ValueMeanings.{value_of}
use Rattle.json5_schema.proofs.Refusing.{led_back, led_on}
use Rattle.json5_schema.proofs.references.leads_round.Goals as goal

pub loop-next-preserved : goal.loop-next-preserved
loop-next-preserved c =
    let l = c.loop-next in
    (search rules, led_on (value_of c.args.root.now) c.args.first.now l.last.now _ l.invariant.1 (c.leads_to.ensures c.if-not-leads_to.false))

pub returns : goal.returns
returns c =
    let l = c.loop-next in
    λ yes. led_back (value_of c.args.root.now) c.args.first.now l.last.now l.invariant.1 (c.leads_to-2.ensures yes)
