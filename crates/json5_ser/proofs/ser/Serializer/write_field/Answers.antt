use Rattle.std.proofs.Common.{subst}
use Rattle.std.specs.Str.{chars}
use Rattle.json5_write.specs.Out.{out, key_part, value_part}
use Rattle.json5_write.specs.WrittenTrees.{named}
use Rattle.json5_write.specs.Writes.{Writes}
use Rattle.json5_write.proofs.OutputsJoined.{Reaches-first, Reaches-last}
use Rattle.json5_write.proofs.ShortWritesJoined.{Puts-exit}
use Rattle.json5_ser.proofs.ser.Serializer.write_field.Goals as goal

pub returns-in_err-put_field_key : goal.returns-in_err-put_field_key
returns-in_err-put_field_key g c =
    let d = c.args.self.now.depth in
    Puts-exit (key_part d (named (chars c.args.name.now))) (value_part (out c.args.self.now.limit (g.T.Serialize.tree c.args.value.now) d)) _ _ _ _ c.from_residual.ensures.1 c.in_err-put_field_key.ensures

pub returns : goal.returns
returns g c =
    let d = c.args.self.now.depth in
    let v = value_part (out c.args.self.now.limit (g.T.Serialize.tree c.args.value.now) d) in
    let key = c.in_ok-put_field_key.ensures in
    let value = subst (λ l. Writes (value_part (out l (g.T.Serialize.tree c.args.value.now) d)) c.put_field_key.new.self c.write_value.result c.write_value.new.self) key.limit (subst (λ k. Writes (value_part (out c.put_field_key.new.self.limit (g.T.Serialize.tree c.args.value.now) k)) c.put_field_key.new.self c.write_value.result c.write_value.new.self) key.depth c.write_value.ensures) in
    Reaches-last _ v _ _ _ _ (Reaches-first (key_part d (named (chars c.args.name.now))) v _ _ key) value
