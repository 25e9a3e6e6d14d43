use Rattle.std.proofs.Common.{◌∙◌, ◌-◌, List, not, sym, ap, arith}
use Rattle.json5_types.specs.declared.value.Value.{Value}
use Rattle.json5_types.specs.ValueMeanings.{value_of, items_view}
use Rattle.json5_schema.specs.Conformance.{is_among}
use Rattle.json5_schema.proofs.Distinct.{one_more, tail_differs, behind_is}
use Rattle.json5_schema.proofs.equal.are_distinct.Goals as goal

pub returns-then-not-branch : goal.returns-then-not-branch
returns-then-not-branch c =
    let l = c.loop-index in
    let xs = c.args.items.now in
    let x = c.index-items-index.result in
    let step = one_more xs (l.index - 1) l.index x c.in_ok-is_new.field-0 (omega arith) (omega arith) c.index-items-index.is
    (c.in_ok-is_new.ensures.value ∙ ap (λ (ys : List Value). not (is_among (value_of x) (items_view ys))) (behind_is xs (l.index - 1) l.index (omega arith))) l.invariant.1 in
    sym (tail_differs xs (l.index - 1) (step ∙ c.if-not-branch.true))
