use Rattle.std.proofs.Common.{◌≡◌, ◌≤◌, length, drop, true}
use Rattle.json5_types.specs.ValueMeanings.{items_view}
use Rattle.json5_schema.specs.Conformance.{are_distinct}
use Rattle.json5_schema.specs.CanonicalForms.{SeesForms}
use Rattle.json5_schema.proofs.equal.are_distinct.Given as goal

-- those from there on
abbrev pub invariant-loop-index : goal.invariant-loop-index
invariant-loop-index l = (l.index ≤ length l.items) × (are_distinct (items_view (drop l.index l.items)) ≡ true) × SeesForms l.seen (items_view (drop l.index l.items))

abbrev pub decreases-loop-index : goal.decreases-loop-index
decreases-loop-index l = l.index
