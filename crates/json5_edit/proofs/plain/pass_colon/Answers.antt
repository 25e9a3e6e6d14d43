use Rattle.std.proofs.Common.{refl}
use Rattle.std.proofs.lemmas.Result.{err_from_is_err_and}
use Rattle.json5_edit.proofs.Measured.{colon_before, colon_past_blanks, value_past_blanks, colon_left, colon_spares, no_colon, value_spares}
use Rattle.json5_edit.proofs.Refused.{err_then}
use Rattle.json5_walk.proofs.Entries.{on_then}
use Rattle.json5_edit.proofs.plain.pass_colon.Goals as goal

pub returns-clause-passed : goal.returns-clause-passed
returns-clause-passed c = on_then c.skip_blank-2.result c.skip_blank-2.ensures.passed (λ k. colon_before c.in_ok-skip_blank.ensures.passed (c.if-not-eat.ensures.taken refl) k)

pub returns-clause-parted : goal.returns-clause-parted
returns-clause-parted c = on_then c.skip_blank-2.result c.skip_blank-2.ensures.passed (λ k t r h. value_past_blanks t r k (colon_left _ _ t r (c.if-not-eat.ensures.taken refl).split (colon_past_blanks t r c.in_ok-skip_blank.ensures.passed h)))

pub returns-clause-solid : goal.returns-clause-solid
returns-clause-solid c = on_then c.skip_blank-2.result c.skip_blank-2.ensures.passed (λ k. k.3)

pub returns-in_err-skip_blank-clause-refused : goal.returns-in_err-skip_blank-clause-refused
returns-in_err-skip_blank-clause-refused c =
    let (y, is, from) = err_from_is_err_and c.from_residual.result c.from_residual.ensures.1 in
    rw (is, from) (λ t r h. colon_spares t r h c.in_err-skip_blank.ensures.refused)

pub returns-then-not-eat-clause-refused : goal.returns-then-not-eat-clause-refused
returns-then-not-eat-clause-refused c = λ t r h. no_colon _ t r c.in_ok-skip_blank.ensures.passed.3 (c.if-not-eat.ensures.kept refl).1 (colon_past_blanks t r c.in_ok-skip_blank.ensures.passed h)

pub returns-clause-refused : goal.returns-clause-refused
returns-clause-refused c = err_then c.skip_blank-2.result (λ e k t r h. value_spares t r (colon_left _ _ t r (c.if-not-eat.ensures.taken refl).split (colon_past_blanks t r c.in_ok-skip_blank.ensures.passed h)) k) c.skip_blank-2.ensures.refused
