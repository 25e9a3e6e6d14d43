use Rattle.std.proofs.Common.{◌∙◌, arith}
use Rattle.json5_settings_types.proofs.SizeTexts.{in_units}
use Rattle.json5_settings_types.proofs.sizes.Size.written.Goals as goal

pub returns : goal.returns
returns c = c.in_one_unit.ensures ∙ in_units c.args.self.bytes (omega (arith, c.if-self-eq0.false))
