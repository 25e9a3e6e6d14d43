use Rattle.std.proofs.Common.{◌∙◌, arith}
use Rattle.std.proofs.lemmas.Bool.Decides.{nat_tests}
use Rattle.json5_settings_types.proofs.SizeTexts.{of_some}
use Rattle.json5_settings_types.proofs.sizes.bytes_of.Goals as goal

pub returns : goal.returns
returns c = c.amount.ensures ∙ of_some c.args.text.now (grind (arith, nat_tests, c.if-is_empty.ensures))
