use Rattle.std.proofs.Common.{◌≡◌, ◌≤◌, length, drop}
use Rattle.std.specs.Prelude.{reverse}
use Rattle.json5_types.specs.ValueMeanings.{fields_view}
use Rattle.json5_schema.specs.Conformance.{latest}
use Rattle.json5_schema.specs.Views.{members_view}
use Rattle.json5_schema.proofs.Latest.{Sees}
use Rattle.json5_schema.proofs.members.latest_first.Given as goal

-- those from there on
abbrev pub invariant-loop-index : goal.invariant-loop-index
invariant-loop-index l = (l.index ≤ length l.members) × (members_view (reverse l.found.items) ≡ latest (fields_view (drop l.index l.members))) × Sees l.seen (fields_view (drop l.index l.members))

abbrev pub decreases-loop-index : goal.decreases-loop-index
decreases-loop-index l = l.index
