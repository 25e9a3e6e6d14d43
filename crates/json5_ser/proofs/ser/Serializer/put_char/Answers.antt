use Rattle.std.proofs.Common.{rules, ap, sym, ◌∙◌}
use Rattle.std.specs.Str.{chars}
use Rattle.json5_grammar.specs.Written.Quoting.{quoted_text}
use Rattle.json5_write.specs.Out.{piece}
use Rattle.json5_write.proofs.EscapesSplit.{one_char}
use Rattle.json5_write.proofs.ShortWritesJoined.{Puts-as}
use Rattle.json5_ser.proofs.ser.Serializer.put_char.Goals as goal

pub returns : goal.returns
returns g c =
    let text = ap chars c.encode_utf8.ensures.value ∙ one_char c.args.value c.ranges.value.0 in
    let written = Puts-as _ _ _ _ _ (ap (λ u. piece (quoted_text u)) (sym text)) c.put_str.ensures in
    search (rules, written)
