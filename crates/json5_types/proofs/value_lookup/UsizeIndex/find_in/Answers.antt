use Rattle.std.proofs.Common.{◌∙◌, sym}
use Rattle.json5_types.proofs.LookedUp.{element_found, elements_in}
use Rattle.json5_types.proofs.value_lookup.UsizeIndex.find_in.Goals as goal

pub returns : goal.returns
returns c = element_found c.in_ok-as_array.field-0.now c.args.self.now c.get.result c.get.ensures.lookup.0 c.get.ensures.lookup.1 ∙ elements_in _ _ c.args.self.now (sym c.in_ok-as_array.ensures)
