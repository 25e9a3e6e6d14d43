use Rattle.std.proofs.Common.{◌≡◌, length}
use Rattle.std.specs.Str.{chars}
use Rattle.json5_types.specs.ValueMeanings.{fields_view}
use Rattle.json5_types.specs.ValueChanges.{has_key}
use Rattle.json5_settings.proofs.follow.has_key.Given as goal

abbrev pub invariant-loop-name : goal.invariant-loop-name
invariant-loop-name l = has_key (chars l.fn.key) (fields_view l.rest) ≡ has_key (chars l.fn.key) (fields_view l.fn.fields)

abbrev pub decreases-loop-name : goal.decreases-loop-name
decreases-loop-name l = length l.rest
