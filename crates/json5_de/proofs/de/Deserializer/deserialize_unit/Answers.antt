use Rattle.std.proofs.lemmas.Result.{err_from_is_err_and}
use Rattle.json5_de.proofs.TokenKinds.{lawful_null, not_begun, null_result}
use Rattle.json5_de.proofs.de.Deserializer.deserialize_unit.Goals as goal

pub returns-in_err-skip_blank : goal.returns-in_err-skip_blank
returns-in_err-skip_blank g c =
    let (y, is, from) = err_from_is_err_and c.from_residual.result c.from_residual.ensures.1 in
    rw (is, from) (not_begun lawful_null (λ _. tt) c.args.self.now c.skip_blank.new.self c.in_err-skip_blank.field-0.0 c.in_err-skip_blank.ensures.refused c.in_err-skip_blank.ensures.failed c.in_err-skip_blank.ensures.before)

pub returns : goal.returns
returns g c = null_result c.args.self.now c.skip_blank.new.self c.literal.new.self c.literal.result c.in_ok-skip_blank.ensures.passed c.literal.ensures
