use Rattle.std.proofs.Common.{◌∙◌}
use Rattle.json5_schema.proofs.Refusing.{signed_text}
use Rattle.json5_schema.proofs.looking.is_signed.Goals as goal

pub returns-in-String : goal.returns-in-String
returns-in-String c = c.begins_with_sign.ensures ∙ signed_text c.args.argument.now c.in-String.text c.as_str.result.now c.in-String.is c.as_str.ensures.value c.as_str.utf8
