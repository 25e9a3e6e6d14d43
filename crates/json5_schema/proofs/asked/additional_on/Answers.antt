use Rattle.std.proofs.Common.{◌∙◌, ap, sym}
use Rattle.json5_types.specs.ValueMeanings.{fields_view, value_of}
use Rattle.json5_types.proofs.ValuesCompared.{view-Object}
use Rattle.json5_schema.specs.Conformance.{all_on}
use Rattle.json5_schema.specs.Views.{pairs_view}
use Rattle.json5_schema.proofs.Additional.{none_additional}
use Rattle.json5_schema.proofs.asked.additional_on.Goals as goal

pub returns-then-not-branch : goal.returns-then-not-branch
returns-then-not-branch c =
    let w = c.in-Object in
    let none = none_additional (value_of c.args.schema.now) (fields_view c.args.keywords.now) (fields_view c.deref.result.now) (sym c.in_ok-has_additional-in-Object.ensures ∙ c.if-not-branch.true) in
    rw (w.is, view-Object w.members, ← c.deref.ensures.value) (c.all_of.ensures ∙ (ap (λ ps. all_on (pairs_view ps)) c.new.ensures.items ∙ sym (ap all_on none)))
