use Rattle.json5_write.specs.Out.{line, piece, key_out}
use Rattle.json5_write.proofs.OutputsJoined.{Reaches-first, Reaches-last}
use Rattle.json5_write.proofs.ShortWritesJoined.{Puts-exit}
use Rattle.json5_ser.proofs.ser.Serializer.write_key.Goals as goal

pub returns-in_err-start_line : goal.returns-in_err-start_line
returns-in_err-start_line g c = Puts-exit (piece (line c.args.self.now.depth)) (key_out (g.K.SerializeKey.as_key c.args.key.now)) _ _ _ _ c.from_residual.ensures.1 (rw c.self.view_is at c.in_err-start_line.ensures)

pub returns : goal.returns
returns g c =
    let k = key_out (g.K.SerializeKey.as_key c.args.key.now) in
    Reaches-last _ k _ _ _ _ (Reaches-first (piece (line c.args.self.now.depth)) k _ _ (rw c.self.view_is at c.in_ok-start_line.ensures)) c.serialize_key.ensures
