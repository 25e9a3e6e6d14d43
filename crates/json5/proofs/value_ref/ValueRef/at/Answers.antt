use Rattle.std.proofs.Common.{◌∙◌, sym}
use Rattle.json5_types.proofs.LookedUp.{elements_in}
use Rattle.json5.specs.ValueRefs.{ref_of, refs_view}
use Rattle.json5.proofs.RefsFound.{element_found}
use Rattle.json5.proofs.value_ref.ValueRef.at.Goals as goal

pub returns : goal.returns
returns c =
    let items = c.in_ok-as_array.field-0.now in
    element_found items c.args.index c.get.result c.get.ensures.lookup.0 c.get.ensures.lookup.1 ∙ elements_in (ref_of c.args.self.now) (refs_view items) c.args.index (sym c.in_ok-as_array.ensures)
