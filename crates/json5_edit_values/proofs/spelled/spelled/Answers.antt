use Rattle.std.proofs.Common.{◌∙◌, string_bytes}
use Rattle.std.proofs.lemmas.Result.{err_from_is_err_and}
use Rattle.json5_write.specs.EscapeFreeMarks.{marks}
use Rattle.json5_write.specs.Out.{written_text}
use Rattle.json5_edit_values.proofs.ValuesSpelled.{same_again, text_value}
use Rattle.json5_edit_values.proofs.spelled.spelled.Goals as goal

pub returns-in-Err-clause-refused : goal.returns-in-Err-clause-refused
returns-in-Err-clause-refused g c = c.unwritten.ensures (written_text (g.T.Serialize.tree c.args.value.now)) c.in-Err.ensures.refused

pub returns-in_err-alike-clause-refused : goal.returns-in_err-alike-clause-refused
returns-in_err-alike-clause-refused g c =
    let (y, is, from) = err_from_is_err_and c.from_residual.result c.from_residual.ensures.1 in
    rw (is, from) tt

pub returns-clause-value : goal.returns-clause-value
returns-clause-value g c =
    let tree = g.T.Serialize.tree c.args.value.now in
    let whole = c.in-Ok.ensures.whole in
    let (u, spells, means, marked) = c.in_ok-alike.ensures (marks tree) (text_value tree (string_bytes c.in-Ok.written) whole) in
    (u, c.in_ok-laid_out.ensures u spells, (means ∙ same_again tree (string_bytes c.in-Ok.written) whole, marked))

pub returns-in_err-laid_out-clause-refused : goal.returns-in_err-laid_out-clause-refused
returns-in_err-laid_out-clause-refused g c =
    let (y, is, from) = err_from_is_err_and c.from_residual-in_err-laid_out.result c.from_residual-in_err-laid_out.ensures.1 in
    rw (is, from) tt
