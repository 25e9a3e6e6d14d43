use Rattle.std.proofs.Common.{◌≡◌, drop, option_map}
use Rattle.json5.specs.ValueRefs.{ref_of, members_view}
use Rattle.json5_types.specs.Pointers.{member_written}
use Rattle.json5_types.specs.ValueLookups.{or_else}
use Rattle.json5.proofs.value_ref_pointer.member_written.Given as goal

-- what is found in the rest, or else what was found so far
abbrev pub invariant-loop-name : goal.invariant-loop-name
invariant-loop-name l = or_else (member_written l.fn.part (members_view (drop l.name-index l.members))) (option_map (λ v. ref_of v.now) l.found) ≡ member_written l.fn.part (members_view l.members)
