use Rattle.std.proofs.Common.{◌+◌, ◌*◌, suc, true, take}
use Rattle.json5_types.specs.ValueLookups.{datum_depth, fields_depth}
use Rattle.json5_types.specs.ValueMeanings.{fields_view, value_of}
use Rattle.json5_edit.specs.Changes.{ChangesBy}
use Rattle.std.specs.Prelude.{string_bytes}
use Rattle.json5_edit_values.specs.News.{LeadsSo, MergesFieldsInto}
use Rattle.json5_edit_values.proofs.patch.merging.+merged.Given as goal

abbrev pub decreases-merged : goal.decreases-merged
decreases-merged l = 4 * datum_depth (value_of l.patch.now) + 2

abbrev pub decreases-merged_fields : goal.decreases-merged_fields
decreases-merged_fields l = 4 * suc (fields_depth (fields_view l.fields.now))

abbrev pub decreases-merged_field : goal.decreases-merged_field
decreases-merged_field l = 4 * datum_depth (value_of l.value.now) + 3

abbrev pub decreases-joined : goal.decreases-joined
decreases-joined l = 4 * datum_depth (value_of l.value.now) + 2

abbrev pub decreases-merged_anew : goal.decreases-merged_anew
decreases-merged_anew l = 4 * suc (fields_depth (fields_view l.fields.now)) + 1

-- the members so far were merged
abbrev pub invariant-merged_fields-loop-key : goal.invariant-merged_fields-loop-key
invariant-merged_fields-loop-key l = LeadsSo true l.text l.steps → ChangesBy (MergesFieldsInto (take l.key-index l.fields) l.steps) l.text (string_bytes l.made)
