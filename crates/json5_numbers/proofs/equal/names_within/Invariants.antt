use Rattle.std.proofs.Common.{◌≡◌, drop}
use Rattle.json5_types.specs.ValueMeanings.{fields_view}
use Rattle.json5_numbers.specs.Sameness.{names_within}
use Rattle.json5_numbers.proofs.equal.names_within.Given as goal

abbrev pub invariant-loop-name : goal.invariant-loop-name
invariant-loop-name l = names_within (fields_view (drop l.name-index l.members)) (fields_view l.others) ≡ names_within (fields_view l.members) (fields_view l.others)
