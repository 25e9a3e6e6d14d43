use Rattle.std.proofs.Common.{◌∙◌, sym}
use Rattle.json5_types.proofs.LookedUp.{element_lent, elements_in}
use Rattle.json5_types.proofs.value_lookup.UsizeIndex.find_in_mut.Goals as goal

pub returns : goal.returns
returns c = element_lent c.in_ok-as_array_mut.field-0.now.items c.args.self.now _ c.get_mut.result c.in_ok-as_array_mut.field-0.now.ok.0 c.get_mut.ensures.variant c.get_mut.ensures.value ∙ elements_in _ _ c.args.self.now (sym c.in_ok-as_array_mut.ensures.value)
