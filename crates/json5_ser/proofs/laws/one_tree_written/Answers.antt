use Rattle.json5_write.proofs.ReadBack.{one_tree_written}
use Rattle.json5_write.proofs.ValueTexts.{one_value}
use Rattle.json5_ser.proofs.laws.one_tree_written.Goals as goal

pub returns : goal.returns
returns c = record { values = one_value; trees = one_tree_written }
