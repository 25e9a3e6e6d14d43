use Rattle.std.proofs.lemmas.Result.{err_from_is_err_and}
use Rattle.json5_edit.proofs.KeysSpelled.{blanks_spare, key_spares, key_spans}
use Rattle.json5_edit.proofs.renaming.key_span.Goals as goal

pub returns-in_err-skip_blank-clause-refused : goal.returns-in_err-skip_blank-clause-refused
returns-in_err-skip_blank-clause-refused c =
    let (y, is, from) = err_from_is_err_and c.from_residual.result c.from_residual.ensures.1 in
    rw (is, from) (blanks_spare c.args.text.now _ _ c.new-scanner.ensures c.in_err-skip_blank.ensures.refused)

pub returns-in_err-key-clause-refused : goal.returns-in_err-key-clause-refused
returns-in_err-key-clause-refused c =
    let (y, is, from) = err_from_is_err_and c.from_residual-in_err-key.result c.from_residual-in_err-key.ensures.1 in
    rw (is, from) (key_spares c.args.text.now _ _ _ c.new-scanner.ensures c.in_ok-skip_blank.ensures.passed c.in_err-key.ensures.complete)

pub returns-clause-taken : goal.returns-clause-taken
returns-clause-taken c =
    let (s, u, e, took, k, is) = c.in_ok-key.ensures.taken in
    key_spans c.args.text.now _ _ _ c.offset-start.result c.offset-end.result s u e c.new-scanner.ensures c.in_ok-skip_blank.ensures.passed took k c.offset-start.ensures.counted c.offset-end.ensures.counted
