use Rattle.json5_types.specs.ValueMeanings.{value_of, items_view}
use Rattle.json5_schema.proofs.Distinct.{form_new, form_seen}
use Rattle.json5_schema.proofs.equal.is_new.Goals as goal

pub returns-then-branch-clause-value : goal.returns-then-branch-clause-value
returns-then-branch-clause-value c =
    let made = c.in_ok-canonical_form in
    form_new c.args.seen.now made.field-0 (value_of c.args.value.now) (items_view c.args.after.now) c.in_ok-insert.field-0 made.ensures c.in_ok-insert.ensures.added c.if-branch.true c.requires

pub returns-then-branch-clause-seen : goal.returns-then-branch-clause-seen
returns-then-branch-clause-seen c =
    let made = c.in_ok-canonical_form in
    form_seen c.args.seen.now c.insert.new.self made.field-0 (value_of c.args.value.now) (items_view c.args.after.now) made.ensures c.in_ok-insert.ensures.keys c.in_ok-insert.ensures.updates.1 c.requires

pub returns-clause-seen : goal.returns-clause-seen
returns-clause-seen c =
    let made = c.in_ok-canonical_form in
    form_seen c.args.seen.now c.insert.new.self made.field-0 (value_of c.args.value.now) (items_view c.args.after.now) made.ensures c.in_ok-insert.ensures.keys c.in_ok-insert.ensures.updates.1 c.requires
