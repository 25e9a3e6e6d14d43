use Rattle.std.proofs.Common.{refl}
use Rattle.std.proofs.lemmas.Result.{err_from_is_err_and}
use Rattle.json5_edit.proofs.Measured.{comma_spanned, before_comma_spares, no_comma_spares, after_comma_spares}
use Rattle.json5_edit.proofs.plain.comma_span.Goals as goal

pub returns-clause-taken : goal.returns-clause-taken
returns-clause-taken c = comma_spanned c.args.text.now _ c.new-scanner.ensures c.in_ok-skip_blank.ensures.passed (c.if-not-eat.ensures.taken refl) c.in_ok-skip_blank-2.ensures.passed c.offset-start.ensures.counted c.offset-end.ensures.counted c.offset-next.ensures.counted

pub returns-in_err-skip_blank-clause-refused : goal.returns-in_err-skip_blank-clause-refused
returns-in_err-skip_blank-clause-refused c =
    let (y, is, from) = err_from_is_err_and c.from_residual.result c.from_residual.ensures.1 in
    rw (is, from) (before_comma_spares c.args.text.now c.new-scanner.ensures c.in_err-skip_blank.ensures.refused)

pub returns-then-not-eat-clause-refused : goal.returns-then-not-eat-clause-refused
returns-then-not-eat-clause-refused c = no_comma_spares c.args.text.now c.new-scanner.ensures c.in_ok-skip_blank.ensures.passed (c.if-not-eat.ensures.kept refl).1

pub returns-in_err-skip_blank-2-clause-refused : goal.returns-in_err-skip_blank-2-clause-refused
returns-in_err-skip_blank-2-clause-refused c =
    let (y, is, from) = err_from_is_err_and c.from_residual-in_err-skip_blank-2.result c.from_residual-in_err-skip_blank-2.ensures.1 in
    rw (is, from) (after_comma_spares c.args.text.now c.new-scanner.ensures c.in_ok-skip_blank.ensures.passed (c.if-not-eat.ensures.taken refl) c.in_err-skip_blank-2.ensures.refused)
