use Rattle.std.proofs.Common.{take}
use Rattle.json5_types.specs.MemberSpots.{FindsPlaces}
use Rattle.json5_types.proofs.value_merge.last_places.Given as goal

-- the places of the members so far
abbrev pub invariant-loop-place : goal.invariant-loop-place
invariant-loop-place l = FindsPlaces (take l.place l.fields) l.places
