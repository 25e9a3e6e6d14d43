use Rattle.std.proofs.Common.{◌≡◌, ◌≤◌, length, drop, None}
use Rattle.std.specs.Str.{chars}
use Rattle.json5_types.specs.ValueMeanings.{fields_view}
use Rattle.json5_types.specs.ValueLookups.{last_named}
use Rattle.json5_types.proofs.value_changes.last_place.Given as goal

-- no member from there on has the key
abbrev pub invariant-loop-end : goal.invariant-loop-end
invariant-loop-end l = (l.end ≤ length l.fields) × (last_named (chars l.fn.key) (fields_view (drop l.end l.fields)) ≡ None)

abbrev pub decreases-loop-end : goal.decreases-loop-end
decreases-loop-end l = l.end
