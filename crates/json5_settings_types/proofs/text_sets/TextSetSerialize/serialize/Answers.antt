use Rattle.std.proofs.Common.{[], ◌∷◌, rules, sym}
use Rattle.json5_ser.proofs.CollectionsWritten.{element_on, element_refused, in_loop, list_begun, list_ended}
use Rattle.json5_ser.specs.WrittenTrees.{elements_of}
use Rattle.json5_settings_types.proofs.SetsWritten.{by_name, list_refused, same_texts, text_tree}
use Rattle.json5_settings_types.proofs.text_sets.TextSetSerialize.serialize.Goals as goal

pub returns-in_err-list : goal.returns-in_err-list
returns-in_err-list g c = list_refused (elements_of text_tree c.args.self.now.values.keys) _ _ _ _ (rw c.in_err-list.was at c.serialize_seq.follows.holds-at-none) c.from_residual.ensures.1

pub loop-text-init : goal.loop-text-init
loop-text-init g c =
    same_texts c.args.self.now.values.keys c.into_iter-text-iterator.result (sym c.into_iter-text-iterator.ensures.into_iter_gives.0) (in_loop (list_begun (elements_of text_tree c.args.self.now.values.keys) c.in_ok-list.ensures.begun))

pub serialize_element-requires : goal.serialize_element-requires
serialize_element-requires g c = record { list = c.loop-text.invariant.list }

pub loop-text-preserved : goal.loop-text-preserved
loop-text-preserved g c =
    element_on (same_texts c.loop-text.text-iterator (c.in-Some.text.now ∷ c.next.new.self) c.in-Some.ensures.steps c.loop-text.invariant) c.in_ok-serialize_element.ensures

pub returns-in_err-serialize_element : goal.returns-in_err-serialize_element
returns-in_err-serialize_element g c =
    let rest = same_texts c.loop-text.text-iterator (c.in-Some.text.now ∷ c.next.new.self) c.in-Some.ensures.steps c.loop-text.invariant in
    element_refused _ (by_name (c.in-Some.text.now ∷ c.next.new.self) c.in_ok-list.ensures.begun.same_reference rest) c.in_err-serialize_element.ensures c.from_residual-in_err-serialize_element.ensures.1 c.drop-list.ensures (search rules)

pub end-requires : goal.end-requires
end-requires g c = c.loop-text.invariant.pending

pub returns : goal.returns
returns g c =
    let none = same_texts c.loop-text.text-iterator [] c.in-None.ensures.steps.0 c.loop-text.invariant in
    list_ended _ _ (by_name [] c.in_ok-list.ensures.begun.same_reference none) c.end.ensures (search rules)
