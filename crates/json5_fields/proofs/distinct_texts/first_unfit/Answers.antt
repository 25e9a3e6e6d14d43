use Rattle.std.proofs.Common.{sym, ap, refl, ◌∙◌, ◌-◌, length, take, arith}
use Rattle.std.proofs.lemmas.List.{length-take-le}
use Rattle.json5_fields.specs.Distinct.{texts, may_follow}
use Rattle.json5_fields.proofs.TextsThatDiffer.{judged_none, judged_all, judged_unfit, judged_more}
use Rattle.json5_fields.proofs.distinct_texts.first_unfit.Goals as goal

pub loop-item-init : goal.loop-item-init
loop-item-init c = judged_none c.args.rule.most c.args.rule.longest c.args.list.now

pub slice_bounds-may_stand-end : goal.slice_bounds-may_stand-end
slice_bounds-may_stand-end c = sym (length-take-le (length c.args.list.now - length c.loop-item.rest.now) c.args.list.now (omega arith))

pub returns-then-not-may_stand : goal.returns-then-not-may_stand
returns-then-not-may_stand c = judged_unfit c.args.rule.most c.args.rule.longest c.loop-item.invariant c.in-Some.ensures.cases.0 _ refl
    (ap (may_follow c.args.rule.most c.args.rule.longest (texts (take (length c.args.list.now - length c.loop-item.rest.now) c.args.list.now))) (sym c.as_str.ensures.value) ∙ sym c.may_stand.ensures ∙ c.if-not-may_stand.true)

pub loop-item-preserved : goal.loop-item-preserved
loop-item-preserved c = judged_more c.args.rule.most c.args.rule.longest c.loop-item.invariant c.in-Some.ensures.cases.0 _ refl
    (ap (may_follow c.args.rule.most c.args.rule.longest (texts (take (length c.args.list.now - length c.loop-item.rest.now) c.args.list.now))) (sym c.as_str.ensures.value) ∙ sym c.may_stand.ensures ∙ c.if-not-may_stand.false)

pub returns : goal.returns
returns c = judged_all c.args.rule.most c.args.rule.longest c.loop-item.invariant c.in_default.ensures.cases
