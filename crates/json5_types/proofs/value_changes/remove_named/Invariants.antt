use Rattle.std.proofs.Common.{◌≡◌}
use Rattle.std.specs.Str.{chars}
use Rattle.json5_types.specs.ValueMeanings.{fields_view}
use Rattle.json5_types.specs.ValueChanges.{without_named}
use Rattle.json5_types.proofs.value_changes.remove_named.Given as goal

-- the members with other keys stay
abbrev pub invariant-loop : goal.invariant-loop
invariant-loop l = without_named (chars l.fn.key) (fields_view l.fields.items) ≡ without_named (chars l.fn.key) (fields_view l.fn.fields.items)

abbrev pub decreases-loop : goal.decreases-loop
decreases-loop l = l.fields.len
