use Rattle.std.proofs.Common.{ap, ◌∙◌, subst, rules}
use Rattle.std.specs.Str.{chars}
use Rattle.json5_write.specs.WrittenTrees.{named}
use Rattle.json5_ser.specs.KeyLending.{serializer_of_key}
use Rattle.json5_ser.specs.WrittenKeys.{WritesKey}
use Rattle.json5_write.proofs.EscapesSplit.{one_char}
use Rattle.json5_ser.proofs.key.MapKey.serialize_char.Goals as goal

pub returns : goal.returns
returns g c =
    let written = subst (λ u. WritesKey (named u) (serializer_of_key c.args.self) c.serialize_str.result c.serialize_str.new.self.0) (ap chars c.encode_utf8.ensures.value ∙ one_char c.args.value c.ranges.value.0) c.serialize_str.ensures in
    search (rules, written)
