use Rattle.std.proofs.Common.{◌≡◌, ◌≤◌, None, drop, length}
use Rattle.std.specs.Str.{chars}
use Rattle.json5_types.specs.ValueMeanings.{fields_view}
use Rattle.json5_types.specs.ValueLookups.{last_named}
use Rattle.json5_schema.proofs.members.find.Given as goal

-- none from there on has the key
abbrev pub invariant-loop-index : goal.invariant-loop-index
invariant-loop-index l = (l.index ≤ length l.members) × (last_named (chars l.key) (fields_view (drop l.index l.members)) ≡ None)

abbrev pub decreases-loop-index : goal.decreases-loop-index
decreases-loop-index l = l.index
