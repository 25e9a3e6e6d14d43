use Rattle.std.proofs.Common.{◌≡◌, ◌∙◌, List, String, rules, true, ap}
use Rattle.std.specs.declared.alloc.Global.{Global}
use Rattle.json5_types.specs.declared.value.Value.{Value, the_lemmas}
use Rattle.json5_types.specs.declared.value.Value as value
use Rattle.json5_types.specs.ValueMeanings.{boolean, object, value_of, fields_view}
use Rattle.json5_types.proofs.ValuesCompared.{view-Object}
use Rattle.json5_schema.proofs.FormatsKnown.{vocabulary_made}
use Rattle.json5_schema.proofs.formats.vocabularies.Goals as goal

pub returns : goal.returns
returns c =
    let empty = view-Object c.new.result ∙ ap (λ (xs : List (String Global × Value)). object (fields_view xs)) c.new.ensures.items in
    let yes : value_of (value.Bool true) ≡ boolean true = search (rules, the_lemmas) in
    vocabulary_made _ _ _ _ c.in_ok-insert.ensures.change empty yes c.in_ok-from_str.ensures.ok
