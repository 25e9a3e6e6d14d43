use Rattle.json5_edit.proofs.PathsRead.{index_is, index_read, some_from}
use Rattle.json5_edit.proofs.path_texts.dotted.read_index.Goals as goal

pub returns-in-Ok : goal.returns-in-Ok
returns-in-Ok c =
    let digits = c.split_digits.result.0.now in
    let is = index_is digits c.in-Ok.index c.parse.result c.split_digits.ensures.digits c.parse.ensures.value.0 c.in-Ok.is (some_from digits c.is_empty.result c.is_empty.ensures c.if-is_empty.false) in
    index_read c.args.inner.now digits c.split_digits.result.1.now c.in-Ok.index c.split_digits.ensures is
