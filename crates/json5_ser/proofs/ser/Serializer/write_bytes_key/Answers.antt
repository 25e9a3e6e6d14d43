use Rattle.std.proofs.Common.{sym, ap, ◌∙◌}
use Rattle.hex.specs.Hex.{encode_lower}
use Rattle.json5_write.specs.Out.{piece}
use Rattle.json5_write.proofs.OutputsJoined.{Writes-as}
use Rattle.json5_ser.proofs.SpelledKeys.{bare_name, quoted_name}
use Rattle.json5_ser.proofs.ser.Serializer.write_bytes_key.Goals as goal

pub returns-then-is_hex_identifier : goal.returns-then-is_hex_identifier
returns-then-is_hex_identifier g c = Writes-as _ _ _ _ _ (ap piece (bare_name (encode_lower c.args.value.now) (sym c.is_hex_identifier.ensures ∙ c.if-is_hex_identifier.true))) c.write_hex_digits.ensures

pub returns : goal.returns
returns g c = Writes-as _ _ _ _ _ (ap piece (quoted_name (encode_lower c.args.value.now) (sym c.is_hex_identifier.ensures ∙ c.if-is_hex_identifier.false))) c.serialize_bytes.ensures
