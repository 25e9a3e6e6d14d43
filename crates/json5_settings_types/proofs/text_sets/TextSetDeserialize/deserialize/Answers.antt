use Rattle.json5_settings_types.proofs.TextsGathered.{set_for_memory, set_read}
use Rattle.json5_settings_types.proofs.text_sets.TextSetDeserialize.deserialize.Goals as goal

pub returns-in-Err-clause-complete : goal.returns-in-Err-clause-complete
returns-in-Err-clause-complete g c = set_for_memory c.args.de.now c.in-Err.e c.in-Err.ensures.complete

pub returns-in-Ok-gathered-clause-sound : goal.returns-in-Ok-gathered-clause-sound
returns-in-Ok-gathered-clause-sound g c =
    let (t, took, is) = c.in-Ok.ensures.sound in
    (t, took, set_read t c.in-Ok-gathered.values.keys c.in-Ok.texts.items c.in-Ok-gathered.ensures is)
