use Rattle.std.proofs.Common.{[], ◌+◌, take, true, subst}
use Rattle.std.proofs.lemmas.List.{take_all}
use Rattle.json5_edit.proofs.Changed.{not_edited}
use Rattle.json5_edit_values.specs.News.{LeadsSo}
use Rattle.json5_edit_values.proofs.PathsPut.{EndsAfter, all_added, leads_none, leads_not, leads_there, path_refused, put_refused}
use Rattle.json5_edit_values.proofs.putting.add_missing.Goals as goal

pub loop-count-preserved : goal.loop-count-preserved
loop-count-preserved c = leads_there c.args.text.now (take (c.loop-count.count + 1) c.args.path.now) _ _ c.in-Ok-Some.field-0-is c.in-Ok-Some.ensures.found

pub returns-in-Ok-None : goal.returns-in-Ok-None
returns-in-Ok-None c =
    let n = c.loop-count.count in
    let ends : EndsAfter c.args.text.now c.args.path.now n = (c.loop-count-test.true, c.loop-count.invariant, leads_none c.args.text.now (take (n + 1) c.args.path.now) _ c.in-Ok-None.field-0-is c.in-Ok-None.ensures.found) in
    record {
      made = all_added c.args.text.now c.args.value.now c.args.path.now n ends c.requires c.add_along.result c.add_along.ensures.made;
      plain = c.add_along.ensures.plain;
      refused = put_refused c.args.text.now c.args.value.now c.args.path.now n ends c.add_along.result c.add_along.ensures.refused;
    }

pub returns-in-Err : goal.returns-in-Err
returns-in-Err c = not_edited (path_refused c.args.text.now c.args.value.now c.args.path.now c.of_text.result (c.of_text.ensures c.args.text.now [] c.in-Err.ensures.refused))

pub unreachable-requires : goal.unreachable-requires
unreachable-requires c =
    leads_not c.args.text.now c.args.path.now (subst (LeadsSo true c.args.text.now) (take_all c.loop-count.count c.args.path.now c.loop-count-test.false) c.loop-count.invariant) c.requires
