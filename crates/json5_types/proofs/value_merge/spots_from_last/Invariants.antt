use Rattle.std.proofs.Common.{◌≡◌, ◌≤◌, length, drop, reverse}
use Rattle.json5_types.specs.MemberSpots.{keys_in, spots_of}
use Rattle.json5_types.proofs.value_merge.spots_from_last.Given as goal

-- the spots of the members from there on
abbrev pub invariant-loop-left : goal.invariant-loop-left
invariant-loop-left l = (l.left ≤ length l.others) × (reverse l.spots.items ≡ spots_of (keys_in (drop l.left l.others)) (keys_in l.fields))

abbrev pub decreases-loop-left : goal.decreases-loop-left
decreases-loop-left l = l.left
