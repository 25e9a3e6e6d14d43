use Rattle.std.proofs.Common.{◌∙◌}
use Rattle.json5_schema.proofs.Shaping.{named_kind}
use Rattle.json5_schema.proofs.shape.is_kind.Goals as goal

pub returns-in-String : goal.returns-in-String
returns-in-String c = c.is_known.ensures ∙ named_kind c.args.name.now c.in-String.name c.as_str.result.now c.kind_named.result c.in-String.is c.as_str.ensures.value c.as_str.utf8 c.kind_named.ensures
