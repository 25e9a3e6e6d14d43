use Rattle.std.proofs.Common.{◌≤◌, ◌∙◌, ap, rules, sym}
use Rattle.json5_types.proofs.LookedUp.{element_found}
use Rattle.json5_types.proofs.ValuesCompared.{view-Object}
use Rattle.json5_types.specs.ValueLookups.{item_at, items_depth}
use Rattle.json5_types.specs.ValueMeanings.{value_of, fields_view, items_view, object}
use Rattle.json5_settings.specs.Follows.{followed, members_followed, value_in}
use Rattle.json5_settings.proofs.Followed.{all_elements, followed_objects, one_element}
use Rattle.json5_settings.proofs.follow.+follow.Goals as goal

pub changed-returns-in_ok-follow_members-in-Object-Object-Object : goal.changed-returns-in_ok-follow_members-in-Object-Object-Object
changed-returns-in_ok-follow_members-in-Object-Object-Object t c =
    let w = c.in-Object-Object-Object in
    let old = ap value_of w.is-0 ∙ view-Object w.olds ∙ ap (λ fs. object (fields_view fs)) (sym c.as_slice-in-Object-Object-Object.ensures.value) in
    let new = ap value_of w.is-1 ∙ view-Object w.news ∙ ap (λ fs. object (fields_view fs)) (sym c.as_slice.ensures.value) in
    let before = ap value_of w.is-2 ∙ view-Object w.field-0-2 in
    followed_objects (fields_view c.as_slice-in-Object-Object-Object.result.now) (fields_view c.as_slice.result.now) (fields_view w.field-0-2.items) (value_of c.args.old.now) (value_of c.args.new.now) (value_of c.args.before.now) (value_of c.follow_members.new.value) (value_of c.drop_members.new.value) old new before c.requires (c.in_ok-follow_members-in-Object-Object-Object.ensures ∙ ap (members_followed (value_of c.args.old.now) (fields_view c.as_slice.result.now)) c.in_ok-value-in-Object-Object-Object.ensures.1) c.drop_members.ensures

pub follow_elements-loop-new-preserved : goal.follow_elements-loop-new-preserved
follow_elements-loop-new-preserved t c =
    let l = c.loop-new in
    let os = items_view c.args.olds.now in
    let bs = items_view c.args.befores.now in
    let n = value_of c.in-Some.new.now in
    let i = c.len-index.result in
    let old = element_found c.args.olds.now i c.get.result c.get.ensures.lookup.0 c.get.ensures.lookup.1 in
    let before = element_found c.args.befores.now i c.get-in-Some.result c.get-in-Some.ensures.lookup.0 c.get-in-Some.ensures.lookup.1 in
    let so = c.in_ok-followed.ensures ∙ ap (λ o. followed o n (value_in c.get-in-Some.result)) old ∙ ap (followed (item_at i os) n) before ∙ ap (λ k. followed (item_at k os) n (item_at k bs)) (c.len-index.ensures ∙ c.loop-new.values.ok.0) in
    let inside : items_depth (items_view c.in-Some.behind.now) ≤ items_depth (items_view c.args.news.now) = search rules in
    record {
      whole = one_element l.values.items c.push.new.self.items l.rest.now c.in-Some.behind.now c.in_ok-followed.field-0 c.in-Some.new.now os bs _ c.in_ok-push.ensures.items c.in-Some.ensures.cases.0 so l.invariant.whole;
      inside = inside;
    }

pub follow_elements-returns : goal.follow_elements-returns
follow_elements-returns t c = all_elements c.loop-new.values.items c.loop-new.rest.now (items_view c.args.olds.now) (items_view c.args.befores.now) _ c.in_default.ensures.cases c.loop-new.invariant.whole
