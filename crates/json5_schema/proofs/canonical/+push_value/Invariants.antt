use Rattle.std.proofs.Common.{drop}
use Rattle.json5_types.specs.ValueMeanings.{items_view, fields_view}
use Rattle.json5_schema.proofs.FormSteps.{ItemsLeft, MembersLeft}
use Rattle.json5_schema.proofs.canonical.+push_value.Given as goal

abbrev pub invariant-push_items-loop-item : goal.invariant-push_items-loop-item
invariant-push_items-loop-item l = ItemsLeft l.fn.form.items l.form.items (items_view (drop l.item-index l.items)) (items_view l.items)

abbrev pub invariant-forms_by_name-loop-name : goal.invariant-forms_by_name-loop-name
invariant-forms_by_name-loop-name l = MembersLeft l.forms.entries (fields_view (drop l.name-index l.members)) (fields_view l.members)
