use Rattle.std.proofs.Common.{ap, ◌∙◌}
use Rattle.std.specs.Str.{chars}
use Rattle.json5_types.specs.ValueMeanings.{value_of, fields_view}
use Rattle.json5_macro.specs.Literals.{fields_then}
use Rattle.json5_macro.proofs.PartsAdded.{field_last}
use Rattle.json5_macro.proofs.parts.object_put.Goals as goal

pub returns-clause-added : goal.returns-clause-added
returns-clause-added c =
    let fields = c.args.fields.now.items in
    ap fields_view c.in_ok-push.ensures.items ∙ field_last fields (c.in_ok-name.name, c.args.value)
    ∙ ap (λ k. fields_then (fields_view fields) (chars k) (value_of c.args.value)) c.in_ok-name.ensures.ok
