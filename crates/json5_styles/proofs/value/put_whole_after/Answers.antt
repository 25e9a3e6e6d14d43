use Rattle.std.proofs.Common.{[], ◌∷◌, arith}
use Rattle.json5_grammar.specs.Language.Numbers.{whole}
use Rattle.json5_grammar.specs.Written.NumberText.{number_text}
use Rattle.json5_write.specs.Brackets.{sign_of}
use Rattle.json5_write.proofs.WritableNumbers.{unsigned_whole}
use Rattle.json5_styles.proofs.PiecesPut.{stop_first, then_second, wrote_as, refused_as, number_put, number_had, on_ok}
use Rattle.json5_styles.proofs.value.put_whole_after.Goals as goal

pub returns-in-Some-clause-text : goal.returns-in-Some-clause-text
returns-in-Some-clause-text g c = rw (rw c.in-Some.is at c.as_u64.ensures) c.put_number_after.ensures

pub returns-in-Some-clause-numbers : goal.returns-in-Some-clause-numbers
returns-in-Some-clause-numbers g c = rw (rw c.in-Some.is at c.as_u64.ensures) (on_ok c.put_number_after.result (unsigned_whole c.in-Some.narrow (omega arith)))

pub returns-in_err-put_piece-clause-text : goal.returns-in_err-put_piece-clause-text
returns-in_err-put_piece-clause-text g c =
    stop_first (sign_of c.args.before ∷ []) (number_text (whole c.args.number)) _ _ _ _ c.from_residual.ensures.1 (refused_as _ _ _ _ _ c.text.ensures c.in_err-put_piece.ensures)

pub returns-clause-text : goal.returns-clause-text
returns-clause-text g c =
    let number = number_put (whole c.args.number) _ _ c.put_whole.result c.put_whole.ensures in
    then_second (sign_of c.args.before ∷ []) (number_text (whole c.args.number)) _ _ _ _ (wrote_as _ _ _ _ c.text.ensures c.in_ok-put_piece.ensures) number

pub returns-clause-numbers : goal.returns-clause-numbers
returns-clause-numbers g c = number_had (whole c.args.number) _ _ c.put_whole.result c.put_whole.ensures
