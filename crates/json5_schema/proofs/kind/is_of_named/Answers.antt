use Rattle.std.proofs.Common.{◌∙◌, refl}
use Rattle.json5_types.specs.ValueMeanings.{value_of}
use Rattle.json5_schema.specs.Keywords.{kind_named}
use Rattle.json5_schema.proofs.Parts.{named_text}
use Rattle.json5_schema.proofs.kind.is_of_named.Goals as goal

pub returns-in-String : goal.returns-in-String
returns-in-String c = c.is_called.ensures ∙ named_text c.args.name.now c.in-String.name c.as_str.result.now (kind_named c.as_str.result.now) (value_of c.args.value.now) c.in-String.is c.as_str.ensures.value c.as_str.utf8 refl
