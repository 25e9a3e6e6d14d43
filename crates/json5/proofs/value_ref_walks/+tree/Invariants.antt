use Rattle.std.proofs.Common.{◌*◌, ◌+◌}
use Rattle.json5_walk.specs.Walks.{Moved}
use Rattle.json5.specs.ValueRefs.{refs_view, members_view}
use Rattle.json5.specs.ValueRefWalks.{TakesElements, TakesMembers}
use Rattle.json5.proofs.value_ref_walks.+tree.Given as goal

-- each call takes a step down, and a collection within takes one from the room
abbrev pub decreases-take_value : goal.decreases-take_value
decreases-take_value l = 2 * l.room + 1

abbrev pub decreases-take_elements : goal.decreases-take_elements
decreases-take_elements l = 2 * l.room + 2

abbrev pub decreases-take_members : goal.decreases-take_members
decreases-take_members l = 2 * l.room + 2

abbrev pub invariant-take_elements-loop : goal.invariant-take_elements-loop
invariant-take_elements-loop l = Moved (TakesElements (refs_view l.items.items)) l.fn.walk l.walk

abbrev pub invariant-take_members-loop : goal.invariant-take_members-loop
invariant-take_members-loop l = Moved (TakesMembers (members_view l.members.items)) l.fn.walk l.walk
