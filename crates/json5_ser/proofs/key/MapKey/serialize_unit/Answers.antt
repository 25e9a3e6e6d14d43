use Rattle.std.proofs.Common.{subst, rules}
use Rattle.json5_write.specs.WrittenTrees.{named}
use Rattle.json5_ser.specs.KeyLending.{serializer_of_key}
use Rattle.json5_ser.specs.WrittenKeys.{WritesKey}
use Rattle.json5_write.proofs.PiecesWritten.{chars_null}
use Rattle.json5_ser.proofs.key.MapKey.serialize_unit.Goals as goal

pub returns : goal.returns
returns g c =
    let written = subst (λ u. WritesKey (named u) (serializer_of_key c.args.self) c.serialize_str.result c.serialize_str.new.self.0) chars_null c.serialize_str.ensures in
    search (rules, written)
