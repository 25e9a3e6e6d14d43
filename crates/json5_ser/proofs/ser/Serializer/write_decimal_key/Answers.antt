use Rattle.std.proofs.Common.{[], ◌∷◌, ap, ◌∙◌, sym}
use Rattle.json5_grammar.specs.Written.NumberText.{decimal_text}
use Rattle.json5_write.specs.Out.{piece, ◌then◌}
use Rattle.json5_write.proofs.OutputsJoined.{Writes-as, Writes-exit, Reaches-first, Reaches-next, Reaches-exit, Reaches-last}
use Rattle.json5_write.proofs.PiecesWritten.{chars_double_quote}
use Rattle.json5_write.proofs.WritableNumbers.{Writes-decimal, decimal_wrote, decimal_refused}
use Rattle.json5_ser.proofs.SpelledKeys.{bare_key, quoted_key}
use Rattle.json5_ser.proofs.ser.Serializer.write_decimal_key.Goals as goal

pub returns-then-is_decimal_identifier : goal.returns-then-is_decimal_identifier
returns-then-is_decimal_identifier g c = Writes-as _ _ _ _ _ (ap piece (bare_key c.args.value.now (sym c.is_decimal_identifier.ensures.name ∙ c.if-is_decimal_identifier.true))) (Writes-decimal _ _ _ _ c.is_decimal_identifier.ensures.normal c.serialize_decimal.ensures)

pub returns-in_err-put : goal.returns-in_err-put
returns-in_err-put g c =
    let t = decimal_text c.args.value.now in
    let quoted = quoted_key c.args.value.now c.is_decimal_identifier.ensures.normal (sym c.is_decimal_identifier.ensures.name ∙ c.if-is_decimal_identifier.false) in
    let quote = rw chars_double_quote at c.in_err-put.ensures in
    Writes-as _ _ _ _ _ (ap piece quoted) (Writes-exit (piece (34 ∷ [])) (piece t then piece (34 ∷ [])) _ _ _ _ c.from_residual.ensures.1 quote)

pub returns-in_err-serialize_decimal : goal.returns-in_err-serialize_decimal
returns-in_err-serialize_decimal g c =
    let t = decimal_text c.args.value.now in
    let quoted = quoted_key c.args.value.now c.is_decimal_identifier.ensures.normal (sym c.is_decimal_identifier.ensures.name ∙ c.if-is_decimal_identifier.false) in
    let quote = rw chars_double_quote at c.in_ok-put.ensures in
    Writes-as _ _ _ _ _ (ap piece quoted) (Reaches-exit _ (piece t) (piece (34 ∷ [])) _ _ _ _ _ (Reaches-first (piece (34 ∷ [])) (piece t then piece (34 ∷ [])) _ _ quote) c.from_residual-in_err-serialize_decimal.ensures.1 (decimal_refused _ _ _ _ c.is_decimal_identifier.ensures.normal c.in_err-serialize_decimal.ensures))

pub returns : goal.returns
returns g c =
    let t = decimal_text c.args.value.now in
    let quoted = quoted_key c.args.value.now c.is_decimal_identifier.ensures.normal (sym c.is_decimal_identifier.ensures.name ∙ c.if-is_decimal_identifier.false) in
    let quote = rw chars_double_quote at c.in_ok-put.ensures in
    let last = rw chars_double_quote at c.put-2.ensures in
    Writes-as _ _ _ _ _ (ap piece quoted) (Reaches-last _ (piece (34 ∷ [])) _ _ _ _ (Reaches-next _ (piece t) (piece (34 ∷ [])) _ _ _ (Reaches-first (piece (34 ∷ [])) (piece t then piece (34 ∷ [])) _ _ quote) (decimal_wrote _ _ _ c.is_decimal_identifier.ensures.normal c.in_ok-serialize_decimal.ensures)) last)
