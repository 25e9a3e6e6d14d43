use Rattle.json5_types.specs.ValueMeanings.{value_of}
use Rattle.json5_write.proofs.ValueTexts.{datum_named}
use Rattle.json5_ser.proofs.laws.value_keys.Goals as goal

pub returns : goal.returns
returns c limit v h = datum_named limit (value_of v) 0 h
