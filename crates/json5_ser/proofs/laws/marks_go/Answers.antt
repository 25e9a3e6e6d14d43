use Rattle.json5_write.proofs.Unmarked.{tree_again}
use Rattle.json5_ser.proofs.laws.marks_go.Goals as goal

pub returns : goal.returns
returns c limit d t h = tree_again limit t d h
