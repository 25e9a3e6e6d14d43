use Rattle.std.proofs.Common.{List, String, sym, ap, ◌∙◌}
use Rattle.std.specs.declared.alloc.Global.{Global}
use Rattle.json5_types.specs.declared.value.Value.{Value}
use Rattle.json5_types.specs.ValueMeanings.{object, value_of, fields_view}
use Rattle.json5_types.proofs.ValuesCompared.{view-Object}
use Rattle.json5_schema.specs.Views.{pairs_view}
use Rattle.json5_schema.proofs.Parts.{dependents_asked}
use Rattle.json5_schema.proofs.asked.dependent_on.Goals as goal

pub returns-in_ok-dependent_schemas-in-Object-Object : goal.returns-in_ok-dependent_schemas-in-Object-Object
returns-in_ok-dependent_schemas-in-Object-Object c =
    let w = c.in-Object-Object in
    let ss = c.deref.result.now in
    let fs = c.deref-in-Object-Object.result.now in
    let found = c.in_ok-dependent_schemas-in-Object-Object in
    let schemas = ap value_of w.is-0 ∙ (view-Object w.schemas ∙ ap (λ (xs : List (String Global × Value)). object (fields_view xs)) (sym c.deref.ensures.value)) in
    let value = ap value_of w.is-1 ∙ (view-Object w.members ∙ ap (λ (xs : List (String Global × Value)). object (fields_view xs)) (sym c.deref-in-Object-Object.ensures.value)) in
    c.all_of.ensures ∙ dependents_asked (value_of c.args.schemas.now) (value_of c.args.value.now) (fields_view ss) (fields_view fs) (pairs_view found.field-0.items) schemas value found.ensures
