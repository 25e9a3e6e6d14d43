use Rattle.std.proofs.Common.{take, rules, ap, ◌∙◌}
use Rattle.std.proofs.lemmas.List.{take_more}
use Rattle.json5_types.specs.ValueMeanings.{object, fields_view}
use Rattle.json5_types.proofs.ValuesCompared.{view-Object}
use Rattle.json5_types.proofs.ValuesCopied.{one_more_field}
use Rattle.json5_types.proofs.value_clone.+copy.Goals as goal

pub copy-returns-in_ok-copy_fields-in-Object : goal.copy-returns-in_ok-copy_fields-in-Object
copy-returns-in_ok-copy_fields-in-Object t c =
    rw (c.in-Object.is, view-Object c.in-Object.fields, view-Object c.in_ok-copy_fields-in-Object.field-0, ← c.deref-in-Object.ensures.value) (ap object c.in_ok-copy_fields-in-Object.ensures)

pub copy_fields-loop-key-preserved : goal.copy_fields-loop-key-preserved
copy_fields-loop-key-preserved t c =
    let l = c.loop-key in
    let one = one_more_field l.copies.items (take l.key-index c.args.fields.now) c.in_ok-key.key c.in_ok-copy.field-0 c.loop-key-item.result l.invariant (c.in_ok-key.ensures.ok ∙ c.as_str.ensures.value) c.in_ok-copy.ensures in
    ap fields_view c.in_ok-push.ensures.items ∙ one ∙ ap fields_view (search (rules, take_more, c.loop-key-item.is))
