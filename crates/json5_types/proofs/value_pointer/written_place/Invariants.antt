use Rattle.std.proofs.Common.{◌≡◌, ◌≤◌, length, drop, None}
use Rattle.json5_types.specs.ValueMeanings.{fields_view}
use Rattle.json5_types.specs.Pointers.{member_written}
use Rattle.json5_types.proofs.value_pointer.written_place.Given as goal

-- no member from there on is written so
abbrev pub invariant-loop-end : goal.invariant-loop-end
invariant-loop-end l = (l.end ≤ length l.fields) × (member_written l.fn.part (fields_view (drop l.end l.fields)) ≡ None)

abbrev pub decreases-loop-end : goal.decreases-loop-end
decreases-loop-end l = l.end
