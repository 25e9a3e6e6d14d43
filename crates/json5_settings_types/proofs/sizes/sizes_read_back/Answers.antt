use Rattle.json5_settings_types.proofs.SizeTexts.{is_size, reads_back, reads_size}
use Rattle.json5_settings_types.proofs.sizes.sizes_read_back.Goals as goal

pub returns : goal.returns
returns c = record { texts = λ text n. (is_size text n, reads_size text n); back = reads_back }
