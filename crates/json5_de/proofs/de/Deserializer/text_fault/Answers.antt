use Rattle.std.proofs.Common.{sym, ◌∙◌}
use Rattle.json5_de.specs.KeySteps.{at_key}
use Rattle.json5_de.proofs.de.Deserializer.text_fault.Goals as goal

pub returns : goal.returns
returns g c = at_key (sym c.is_out_of_memory.ensures ∙ c.if-is_out_of_memory.false) c.position_of.result c.position_of.ensures.inside c.at.ensures
