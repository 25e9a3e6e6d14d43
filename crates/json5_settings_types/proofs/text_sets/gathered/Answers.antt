use Rattle.json5_settings_types.proofs.TextsGathered.{one_gathered}
use Rattle.json5_settings_types.proofs.text_sets.gathered.Goals as goal

pub loop-text-preserved : goal.loop-text-preserved
loop-text-preserved c = one_gathered c.loop-text.set.keys c.insert.new.self.keys c.loop-text.yielded c.in-Some.text c.in_ok-insert.ensures.keys c.loop-text.invariant
