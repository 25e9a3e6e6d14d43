use Rattle.std.proofs.Common.{refl, ◌∙◌}
use Rattle.std.proofs.lemmas.Result.{err_from_is_err_and}
use Rattle.json5_edit.proofs.Measured.{with_comma, without_comma, past_blanks, goes_spare, value_refused, value_passed, starts_goes}
use Rattle.json5_edit.proofs.plain.entry_len.Goals as goal

pub returns-then-eat-clause-measured : goal.returns-then-eat-clause-measured
returns-then-eat-clause-measured c = with_comma c.args.kind c.args.room c.args.rest.now _ c.new-scanner.ensures c.in_ok-skip_blank.ensures.passed c.in_ok-pass_name.ensures.passed c.in_ok-pass_name.ensures.named (rw (c.from.ensures ∙ c.get.ensures.number) at c.in_ok-skip_value.ensures.given) c.in_ok-skip_blank-2.ensures.passed (c.if-eat.ensures.taken refl) c.offset-bare.ensures.counted c.offset-whole.ensures.counted

pub returns-clause-measured : goal.returns-clause-measured
returns-clause-measured c = without_comma c.args.kind c.args.room c.args.rest.now _ c.new-scanner.ensures c.in_ok-skip_blank.ensures.passed c.in_ok-pass_name.ensures.passed c.in_ok-pass_name.ensures.named (rw (c.from.ensures ∙ c.get.ensures.number) at c.in_ok-skip_value.ensures.given) c.in_ok-skip_blank-2.ensures.passed (c.if-eat.ensures.kept refl).1 c.offset-bare.ensures.counted c.offset-bare.ensures.counted

pub returns-in_err-skip_blank-clause-refused : goal.returns-in_err-skip_blank-clause-refused
returns-in_err-skip_blank-clause-refused c =
    let (y, is, from) = err_from_is_err_and c.from_residual.result c.from_residual.ensures.1 in
    rw (is, from) (λ u t r parts h d. goes_spare _ u (starts_goes c.args.rest.now u c.new-scanner.ensures h) c.in_err-skip_blank.ensures.refused)

pub returns-in_err-pass_name-clause-refused : goal.returns-in_err-pass_name-clause-refused
returns-in_err-pass_name-clause-refused c =
    let (y, is, from) = err_from_is_err_and c.from_residual-in_err-pass_name.result c.from_residual-in_err-pass_name.ensures.1 in
    rw (is, from) (λ u t r parts h d. c.in_err-pass_name.ensures.refused u t r parts c.in_ok-skip_blank.ensures.passed.3 (past_blanks _ u c.in_ok-skip_blank.ensures.passed (starts_goes c.args.rest.now u c.new-scanner.ensures h)))

pub returns-in_err-skip_value-clause-refused : goal.returns-in_err-skip_value-clause-refused
returns-in_err-skip_value-clause-refused c =
    let (y, is, from) = err_from_is_err_and c.from_residual-in_err-skip_value.result c.from_residual-in_err-skip_value.ensures.1 in
    rw (is, from) (λ u t r parts h d. value_refused c.args.room t r (c.in_ok-pass_name.ensures.solid c.in_ok-skip_blank.ensures.passed.3) d (c.in_ok-pass_name.ensures.named u t r parts (past_blanks _ u c.in_ok-skip_blank.ensures.passed (starts_goes c.args.rest.now u c.new-scanner.ensures h))) (rw (c.from.ensures ∙ c.get.ensures.number) at c.in_err-skip_value.ensures.refused))

pub returns-in_err-skip_blank-2-clause-refused : goal.returns-in_err-skip_blank-2-clause-refused
returns-in_err-skip_blank-2-clause-refused c =
    let (y, is, from) = err_from_is_err_and c.from_residual-in_err-skip_blank-2.result c.from_residual-in_err-skip_blank-2.ensures.1 in
    rw (is, from) (λ u t r parts h d. goes_spare _ r (value_passed c.args.room t r (rw (c.from.ensures ∙ c.get.ensures.number) at c.in_ok-skip_value.ensures.given) (c.in_ok-pass_name.ensures.named u t r parts (past_blanks _ u c.in_ok-skip_blank.ensures.passed (starts_goes c.args.rest.now u c.new-scanner.ensures h)))) c.in_err-skip_blank-2.ensures.refused)
