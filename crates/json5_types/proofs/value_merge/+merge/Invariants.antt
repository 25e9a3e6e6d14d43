use Rattle.std.proofs.Common.{◌≡◌, ◌≤◌, ◌+◌, ◌*◌, suc, length, reverse}
use Rattle.json5_types.specs.ValueMeanings.{value_of, fields_view}
use Rattle.json5_types.specs.ValueLookups.{datum_depth, fields_depth}
use Rattle.json5_types.specs.ValueChanges.{fields_merged}
use Rattle.json5_types.specs.MemberSpots.{keys_in, spots_of}
use Rattle.json5_types.proofs.value_merge.+merge.Given as goal

abbrev pub decreases-merge_value : goal.decreases-merge_value
decreases-merge_value l = 4 * datum_depth (value_of l.other) + 3

abbrev pub decreases-merge_object : goal.decreases-merge_object
decreases-merge_object l = 4 * suc (fields_depth (fields_view l.others.items)) + 2

abbrev pub decreases-merge_members : goal.decreases-merge_members
decreases-merge_members l = 4 * suc (fields_depth (fields_view l.others.items)) + 1

abbrev pub decreases-merge_member : goal.decreases-merge_member
decreases-merge_member l = 4 * datum_depth (value_of l.value) + 4

-- merging what is left, from its last on, gives the whole
abbrev pub invariant-merge_members-loop-key : goal.invariant-merge_members-loop-key
invariant-merge_members-loop-key l = record {
  whole : fields_merged (fields_view l.fields.items) (fields_view (reverse l.rest.items)) ≡ fields_merged (fields_view l.fn.fields.items) (fields_view l.fn.others.items);
  inside : fields_depth (fields_view (reverse l.rest.items)) ≤ fields_depth (fields_view l.fn.others.items);
  spotted : reverse l.spots.items ≡ spots_of (keys_in (reverse l.rest.items)) (keys_in l.fields.items);
}

abbrev pub decreases-merge_members-loop-key : goal.decreases-merge_members-loop-key
decreases-merge_members-loop-key l = length l.rest.items
