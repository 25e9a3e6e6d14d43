use Rattle.std.proofs.Common.{refl}
use Rattle.std.proofs.lemmas.Result.{err_from_is_err_and}
use Rattle.json5_walk.proofs.Entries.{gap_needs, colon_needs, last_gap_needs, member_taken}
use Rattle.json5_walk.proofs.walk.Walk.member_key.Goals as goal

pub returns-in_err-gap-clause-refused : goal.returns-in_err-gap-clause-refused
returns-in_err-gap-clause-refused c =
    let (y, is, from) = err_from_is_err_and c.from_residual-in_err-gap.result c.from_residual-in_err-gap.ensures.1 in
    rw (is, from) (gap_needs c.in_ok-text.ensures.taken c.in_err-gap.ensures.refused)

pub returns-then-not-colon-clause-refused : goal.returns-then-not-colon-clause-refused
returns-then-not-colon-clause-refused c = colon_needs c.in_ok-text.ensures.taken c.in_ok-gap.ensures.taken c.in_ok-gap.ensures.solid (c.if-not-colon.ensures.refused refl)

pub returns-in_err-gap-2-clause-refused : goal.returns-in_err-gap-2-clause-refused
returns-in_err-gap-2-clause-refused c =
    let (y, is, from) = err_from_is_err_and c.from_residual-in_err-gap-2.result c.from_residual-in_err-gap-2.ensures.1 in
    rw (is, from) (last_gap_needs c.in_ok-text.ensures.taken c.in_ok-gap.ensures.taken (c.if-not-colon.ensures.taken refl) c.in_err-gap-2.ensures.refused)

pub returns-clause-taken : goal.returns-clause-taken
returns-clause-taken c = member_taken c.in_ok-text.ensures.taken _ c.in_ok-gap.ensures.taken (c.if-not-colon.ensures.taken refl) c.in_ok-gap-2.ensures.taken c.in_ok-gap-2.ensures.solid refl c.in_ok-text.ensures.spelled c.offset-start.ensures c.offset-end.ensures
