use Rattle.json5.specs.ValueRefs.{ref_of}
use Rattle.json5.proofs.RefsRead.{item_at, on_ok, whole}
use Rattle.json5.proofs.value_ref_walks.walked.Goals as goal

pub returns : goal.returns
returns c =
    whole c.args.text.now c.args.limit (ref_of c.in_ok-value.value) c.new-walk.result c.take_value.new.walk c.utf8.text c.new-walk.ensures
    (item_at c.in_ok-take_value.field-0 c.in_ok-value.value c.in_ok-value.was c.in_ok-take_value.ensures) (on_ok c.finish.result c.in_ok-ok.field-0 c.in_ok-ok.ensures.value c.finish.ensures.walked)
