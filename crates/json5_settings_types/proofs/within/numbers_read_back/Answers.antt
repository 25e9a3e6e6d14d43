use Rattle.json5_settings_types.proofs.ReadTypes.{integer_back}
use Rattle.json5_settings_types.proofs.within.numbers_read_back.Goals as goal

pub returns : goal.returns
returns c = integer_back
