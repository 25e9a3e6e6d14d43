use Rattle.std.proofs.lemmas.Result.{err_from_is_err_and}
use Rattle.json5_types.specs.ValueMeanings.{value_of}
use Rattle.json5_de.specs.Convert.{every_datum}
use Rattle.json5_de.specs.TokenKinds.{no_tree}
use Rattle.json5_de.proofs.TreesRead.{tree_not_begun, datum_result}
use Rattle.json5_de.proofs.de.Deserializer.deserialize_any.Goals as goal

pub returns-in_err-skip_blank : goal.returns-in_err-skip_blank
returns-in_err-skip_blank g c =
    let (y, is, from) = err_from_is_err_and c.from_residual.result c.from_residual.ensures.1 in
    rw (is, from) (tree_not_begun value_of every_datum no_tree c.args.self.now c.skip_blank.new.self c.in_err-skip_blank.field-0.0 c.in_err-skip_blank.ensures.refused c.in_err-skip_blank.ensures.failed c.in_err-skip_blank.ensures.before c.in_err-skip_blank.ensures.unprompted)

pub returns : goal.returns
returns g c = datum_result c.args.self.now c.skip_blank.new.self c.read_value.new.self c.read_value.result c.in_ok-skip_blank.ensures.passed c.read_value.ensures
