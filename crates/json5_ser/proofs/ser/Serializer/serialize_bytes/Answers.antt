use Rattle.std.proofs.Common.{[], ◌∷◌, ap}
use Rattle.hex.specs.Hex.{encode_lower}
use Rattle.json5_write.specs.Out.{piece, ◌then◌}
use Rattle.json5_write.proofs.OutputsJoined.{Writes-as, Writes-exit, Reaches-first, Reaches-next, Reaches-exit, Reaches-last}
use Rattle.json5_write.proofs.PiecesWritten.{chars_double_quote}
use Rattle.json5_ser.proofs.HexPieces.{fits_bytes, hex_quoted}
use Rattle.json5_ser.proofs.ser.Serializer.serialize_bytes.Goals as goal

pub returns-in_err-put : goal.returns-in_err-put
returns-in_err-put g c =
    let t = encode_lower c.args.value.now in
    let quoted = hex_quoted c.args.value.now (fits_bytes c.args.value.now c.type_inv.value) in
    let quote = rw chars_double_quote at c.in_err-put.ensures in
    Writes-as _ _ _ _ _ (ap piece quoted) (Writes-exit (piece (34 ∷ [])) (piece t then piece (34 ∷ [])) _ _ _ _ c.from_residual.ensures.1 quote)

pub returns-in_err-write_hex_digits : goal.returns-in_err-write_hex_digits
returns-in_err-write_hex_digits g c =
    let t = encode_lower c.args.value.now in
    let quoted = hex_quoted c.args.value.now (fits_bytes c.args.value.now c.type_inv.value) in
    let quote = rw chars_double_quote at c.in_ok-put.ensures in
    Writes-as _ _ _ _ _ (ap piece quoted) (Reaches-exit _ (piece t) (piece (34 ∷ [])) _ _ _ _ _ (Reaches-first (piece (34 ∷ [])) (piece t then piece (34 ∷ [])) _ _ quote) c.from_residual-in_err-write_hex_digits.ensures.1 c.in_err-write_hex_digits.ensures)

pub returns : goal.returns
returns g c =
    let t = encode_lower c.args.value.now in
    let quoted = hex_quoted c.args.value.now (fits_bytes c.args.value.now c.type_inv.value) in
    let quote = rw chars_double_quote at c.in_ok-put.ensures in
    let last = rw chars_double_quote at c.put-2.ensures in
    Writes-as _ _ _ _ _ (ap piece quoted) (Reaches-last _ (piece (34 ∷ [])) _ _ _ _ (Reaches-next _ (piece t) (piece (34 ∷ [])) _ _ _ (Reaches-first (piece (34 ∷ [])) (piece t then piece (34 ∷ [])) _ _ quote) c.in_ok-write_hex_digits.ensures) last)
