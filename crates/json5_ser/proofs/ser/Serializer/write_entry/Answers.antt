use Rattle.std.proofs.Common.{sym, subst}
use Rattle.json5_write.specs.Out.{out, key_part, value_part}
use Rattle.json5_write.specs.Writes.{Writes}
use Rattle.json5_write.proofs.OutputsJoined.{Reaches-first, Reaches-last}
use Rattle.json5_write.proofs.ShortWritesJoined.{Writes-returned, wrote_whole}
use Rattle.json5_ser.proofs.ser.Serializer.write_entry.Goals as goal

pub returns-then-is_err : goal.returns-then-is_err
returns-then-is_err g c =
    let d = c.args.self.now.depth in
    Writes-returned (key_part d (g.K.SerializeKey.as_key c.args.key.now)) (value_part (out c.args.self.now.limit (g.T.Serialize.tree c.args.value.now) d)) _ _ _ (sym c.if-is_err.ensures.value) c.write_key-written.ensures

pub returns : goal.returns
returns g c =
    let d = c.args.self.now.depth in
    let v = value_part (out c.args.self.now.limit (g.T.Serialize.tree c.args.value.now) d) in
    let key = wrote_whole _ _ _ _ (sym c.if-is_err.ensures.value) c.write_key-written.ensures in
    let value = subst (λ l. Writes (value_part (out l (g.T.Serialize.tree c.args.value.now) d)) c.write_key-written.new.self c.write_value.result c.write_value.new.self) key.limit (subst (λ k. Writes (value_part (out c.write_key-written.new.self.limit (g.T.Serialize.tree c.args.value.now) k)) c.write_key-written.new.self c.write_value.result c.write_value.new.self) key.depth c.write_value.ensures) in
    Reaches-last _ v _ _ _ _ (Reaches-first (key_part d (g.K.SerializeKey.as_key c.args.key.now)) v _ _ key) value
