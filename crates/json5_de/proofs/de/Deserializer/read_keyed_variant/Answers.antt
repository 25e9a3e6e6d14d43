use Rattle.std.proofs.lemmas.Result.{err_from_is_err_and}
use Rattle.json5_de.specs.Convert.{names_bytes}
use Rattle.json5_de.proofs.VariantNames.{not_opened_keyed, only_key_refused}
use Rattle.json5_de.proofs.de.Deserializer.read_keyed_variant.Goals as goal

pub returns-in_err-start : goal.returns-in_err-start
returns-in_err-start g c =
    let (y, is, from) = err_from_is_err_and c.from_residual.result c.from_residual.ensures.1 in
    rw (is, from) (not_opened_keyed (names_bytes c.args.variants.now) _ c.args.self.now c.open.new.self c.in_err-start.field-0.0 c.in_err-start.ensures.opens c.in_err-start.ensures.failed)

pub returns-in-Err : goal.returns-in-Err
returns-in-Err g c =
    only_key_refused (names_bytes c.args.variants.now) c.args.self.now c.open.new.self c.read_only_key.new.self c.in_ok-start.start c.in_ok-start.ensures.opens c.in-Err.e c.with_position_at.result c.in-Err.ensures c.with_position_at.ensures
