use Rattle.std.proofs.Common.{◌≡◌, ◌≤◌, ◌+◌, ◌*◌, length}
use Rattle.json5_types.specs.ValueMeanings.{value_of, fields_view, items_view}
use Rattle.json5_types.specs.ValueLookups.{datum_depth, fields_depth, items_depth}
use Rattle.json5_read.specs.BuildSteps.{elements_before}
use Rattle.json5_settings.specs.Follows.{elements_followed, members_followed}
use Rattle.json5_settings.proofs.follow.+follow.Given as goal

abbrev pub decreases-followed : goal.decreases-followed
decreases-followed l = 4 * datum_depth (value_of l.new.now) + 1

abbrev pub decreases-changed : goal.decreases-changed
decreases-changed l = 4 * datum_depth (value_of l.new.now)

abbrev pub decreases-follow_elements : goal.decreases-follow_elements
decreases-follow_elements l = 4 * items_depth (items_view l.news.now) + 2

abbrev pub decreases-follow_members : goal.decreases-follow_members
decreases-follow_members l = 4 * fields_depth (fields_view l.news.now) + 3

abbrev pub decreases-follow_member : goal.decreases-follow_member
decreases-follow_member l = 4 * datum_depth (value_of l.new.now) + 2

-- changing what is left gives the whole
abbrev pub invariant-follow_members-loop-key : goal.invariant-follow_members-loop-key
invariant-follow_members-loop-key l = record {
  whole : members_followed (value_of l.fn.old) (fields_view l.rest) (value_of l.value) ≡ members_followed (value_of l.fn.old) (fields_view l.fn.news) (value_of l.fn.value);
  inside : fields_depth (fields_view l.rest) ≤ fields_depth (fields_view l.fn.news);
}

abbrev pub decreases-follow_members-loop-key : goal.decreases-follow_members-loop-key
decreases-follow_members-loop-key l = length l.rest

-- the elements so far, and what is left of them changed, are the whole
abbrev pub invariant-follow_elements-loop-new : goal.invariant-follow_elements-loop-new
invariant-follow_elements-loop-new l = record {
  whole : elements_before l.values.items (elements_followed (length l.values.items) (items_view l.fn.olds) (items_view l.rest) (items_view l.fn.befores)) ≡ elements_followed 0 (items_view l.fn.olds) (items_view l.fn.news) (items_view l.fn.befores);
  inside : items_depth (items_view l.rest) ≤ items_depth (items_view l.fn.news);
}

abbrev pub decreases-follow_elements-loop-new : goal.decreases-follow_elements-loop-new
decreases-follow_elements-loop-new l = length l.rest
