use Rattle.std.specs.Str.{chars}
use Rattle.json5_write.specs.Out.{line, piece, key_out}
use Rattle.json5_write.specs.WrittenTrees.{named}
use Rattle.json5_write.proofs.OutputsJoined.{Reaches-first}
use Rattle.json5_write.proofs.ShortWritesJoined.{Puts-stop, Reaches-end}
use Rattle.json5_ser.proofs.ser.Serializer.put_field_key.Goals as goal

pub returns-in_err-start_line : goal.returns-in_err-start_line
returns-in_err-start_line g c = Puts-stop (piece (line c.args.self.now.depth)) (key_out (named (chars c.args.name.now))) _ _ _ _ c.from_residual.ensures.1 (rw c.self.view_is at c.in_err-start_line.ensures)

pub returns : goal.returns
returns g c =
    let k = key_out (named (chars c.args.name.now)) in
    Reaches-end _ k _ _ _ _ (Reaches-first (piece (line c.args.self.now.depth)) k _ _ (rw c.self.view_is at c.in_ok-start_line.ensures)) c.put_key.ensures
