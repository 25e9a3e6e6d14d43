use Rattle.std.specs.Str.{chars}
use Rattle.std.proofs.lemmas.Result.{err_from_is_err_and}
use Rattle.json5.proofs.RefsRead.{read_whole, unread}
use Rattle.json5.proofs.value_ref.ValueRef.from_str_within.Goals as goal

pub returns-in-Some : goal.returns-in-Some
returns-in-Some c = read_whole c.args.limit (chars c.args.text.now) c.in-Some.value c.in-Some.ensures

pub returns-in_err-read_document_within-in-None : goal.returns-in_err-read_document_within-in-None
returns-in_err-read_document_within-in-None c =
    let failed = c.in_err-read_document_within-in-None in
    let (y, is, from) = err_from_is_err_and c.from_residual.result c.from_residual.ensures.1 in
    rw (is, from) (unread c.args.limit (chars c.args.text.now) failed.field-0.0 failed.ensures)
