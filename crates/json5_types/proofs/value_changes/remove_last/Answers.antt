use Rattle.std.proofs.Common.{sym, ap, ◌∙◌}
use Rattle.std.specs.Str.{chars}
use Rattle.json5_types.specs.ValueMeanings.{fields_view}
use Rattle.json5_types.specs.ValueChanges.{without_named}
use Rattle.json5_types.proofs.MembersPlaced.{found_there, without_there}
use Rattle.json5_types.proofs.value_changes.remove_last.Goals as goal

pub returns-clause-found : goal.returns-clause-found
returns-clause-found c =
    let last = rw c.deref.ensures.value at c.in_ok-place.ensures in
    sym (found_there (chars c.args.key.now) c.args.fields.now.items c.in_ok-place.place c.remove-value.result last c.remove-value.ensures.value)

pub returns-clause-others : goal.returns-clause-others
returns-clause-others c =
    let last = rw c.deref.ensures.value at c.in_ok-place.ensures in
    ap (λ fs. without_named (chars c.args.key.now) (fields_view fs)) c.remove-value.ensures.items ∙ without_there (chars c.args.key.now) c.args.fields.now.items c.in_ok-place.place last
