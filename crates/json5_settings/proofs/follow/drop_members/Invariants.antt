use Rattle.std.proofs.Common.{◌≡◌, length}
use Rattle.json5_types.specs.ValueMeanings.{value_of, fields_view}
use Rattle.json5_settings.specs.Follows.{without_gone}
use Rattle.json5_settings.proofs.follow.drop_members.Given as goal

-- taking out what is left gives the whole
abbrev pub invariant-loop-key : goal.invariant-loop-key
invariant-loop-key l = without_gone (fields_view l.rest) (value_of l.fn.new) (value_of l.value) ≡ without_gone (fields_view l.fn.olds) (value_of l.fn.new) (value_of l.fn.value)

abbrev pub decreases-loop-key : goal.decreases-loop-key
decreases-loop-key l = length l.rest
