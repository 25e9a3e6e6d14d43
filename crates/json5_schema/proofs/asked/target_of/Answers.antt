use Rattle.std.proofs.Common.{◌∙◌, sym}
use Rattle.json5_types.specs.ValueMeanings.{value_of}
use Rattle.json5_schema.proofs.Parts.{target_text}
use Rattle.json5_schema.proofs.asked.target_of.Goals as goal

pub returns-in-String : goal.returns-in-String
returns-in-String c =
    c.target_by.ensures ∙ sym (target_text c.args.reference.now c.in-String.text c.as_str.result.now (value_of c.args.root.now) c.in-String.is c.as_str.ensures.value c.as_str.utf8)
