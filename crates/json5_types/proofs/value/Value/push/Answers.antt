use Rattle.std.proofs.Common.{Some, sym, ap, ◌∙◌}
use Rattle.json5_types.specs.ValueMeanings.{array, value_of, items_view}
use Rattle.json5_types.proofs.MembersPlaced.{pushed_last}
use Rattle.json5_types.proofs.ValuesChanged.{array_from}
use Rattle.json5_types.proofs.ValuesCompared.{view-Array}
use Rattle.json5_types.proofs.value.Value.push.Goals as goal

pub returns-in_ok-push-in-Some : goal.returns-in_ok-push-in-Some
returns-in_ok-push-in-Some c =
    let items = c.in-Some.items.now.items in
    rw (array_from (value_of c.args.self.now) (items_view items) c.in-Some.ensures.value, view-Array c.push.new.self)
    (ap (λ xs. Some (array xs)) (sym (ap items_view c.in_ok-push-in-Some.ensures.items ∙ pushed_last items c.args.value)))
