use Rattle.json5_settings_types.proofs.DurationTexts.{is_duration, reads_back, reads_duration}
use Rattle.json5_settings_types.proofs.durations.durations_read_back.Goals as goal

pub returns : goal.returns
returns c = record { texts = λ text n. (is_duration text n, reads_duration text n); back = reads_back }
