use Rattle.json5.proofs.ValuesBack.{datum_back}
use Rattle.json5.proofs.laws.values_read_back.Goals as goal

pub returns : goal.returns
returns c = datum_back
