use Rattle.json5_write.proofs.WritableNumbers.{number_piece, number_whole}
use Rattle.json5_ser.proofs.laws.written_numbers.Goals as goal

pub returns : goal.returns
returns c = record { text = λ limit d n h. number_piece n h; numbers = λ limit d n h. number_whole n h }
