use Rattle.std.proofs.Common.{◌≡◌, drop, option_map}
use Rattle.std.specs.Str.{chars}
use Rattle.json5_types.specs.ValueMeanings.{value_of, fields_view}
use Rattle.json5_types.specs.ValueLookups.{or_else, last_named}
use Rattle.json5_numbers.proofs.members.find.Given as goal

-- what is found in the rest, or else what was found so far
abbrev pub invariant-loop-name : goal.invariant-loop-name
invariant-loop-name l = or_else (last_named (chars l.fn.key) (fields_view (drop l.name-index l.members))) (option_map (λ v. value_of v.now) l.found) ≡ last_named (chars l.fn.key) (fields_view l.members)
