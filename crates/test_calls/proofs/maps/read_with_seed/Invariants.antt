use Rattle.std.proofs.Common.{◌≡◌, false, length}
use Rattle.json5_de.specs.Lending.{map_state_of}
use Rattle.test_calls.proofs.maps.read_with_seed.Given as goal

abbrev pub invariant-loop-map : goal.invariant-loop-map
invariant-loop-map l = (map_state_of l.pairs).pending ≡ false

abbrev pub decreases-loop-map : goal.decreases-loop-map
decreases-loop-map l = length (map_state_of l.pairs).at.reader.unread
