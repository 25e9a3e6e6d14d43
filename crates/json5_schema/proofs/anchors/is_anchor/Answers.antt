use Rattle.std.proofs.Common.{◌≡◌, ◌∙◌}
use Rattle.json5_types.specs.declared.value.Value as value
use Rattle.json5_schema.proofs.Anchoring.{text_anchor}
use Rattle.json5_schema.proofs.anchors.is_anchor.Goals as goal

pub returns-in-Some-String : goal.returns-in-Some-String
returns-in-Some-String c =
    let w = c.in-Some-String in
    let inner : w.field-0.now ≡ value.String w.text = rw w.is at w.field-0-is in
    rw w.is (c.eq.ensures ∙ text_anchor w.field-0.now w.text c.as_str.result.now c.args.name.now inner c.as_str.ensures.value c.as_str.utf8)
