use Rattle.json5_settings_types.specs.TextSets.{IsSetOf}
use Rattle.json5_settings_types.proofs.text_sets.gathered.Given as goal

abbrev pub invariant-loop-text : goal.invariant-loop-text
invariant-loop-text l = IsSetOf l.set.keys l.yielded
