use Rattle.std.proofs.Common.{◌≤◌, length, ap, subst, ◌∙◌}
use Rattle.std.proofs.lemmas.Result.{err_from_is_err_and}
use Rattle.json5_edit.specs.Seeks.{is_sought}
use Rattle.json5_edit.proofs.Surveyed.{starts_passing, passed_one, passing_ends, entry_spares, skip_spares, too_many_entries}
use Rattle.json5_edit.proofs.survey.survey_entries.Goals as goal

pub loop-count-init : goal.loop-count-init
loop-count-init c = starts_passing c.args.step c.args.walk.now c.offset-end.result c.requires.inside c.offset-end.ensures

pub loop-count-preserved : goal.loop-count-preserved
loop-count-preserved c = passed_one c.in-Some.key _ c.loop-count.invariant (rw c.in-Some.is at c.in_ok-key.ensures.begun) c.requires.value (c.is_sought-same.ensures ∙ ap (is_sought c.args.step c.loop-count.count) c.as_str.ensures) c.latest-entry.ensures c.in_ok-skip.ensures.passed c.offset-end-in-loop-count.ensures

pub returns-in_default-clause-surveyed : goal.returns-in_default-clause-surveyed
returns-in_default-clause-surveyed c = passing_ends _ c.is_some.ensures c.loop-count.invariant c.requires.value (rw c.in_default.is at c.in_ok-key.ensures.begun)

pub returns-in_err-key-clause-refused : goal.returns-in_err-key-clause-refused
returns-in_err-key-clause-refused c =
    let (y, is, from) = err_from_is_err_and c.from_residual.result c.from_residual.ensures.1 in
    rw (is, from) (entry_spares c.loop-count.invariant c.requires.value c.in_err-key.ensures.refused)

pub returns-in_err-skip-clause-refused : goal.returns-in_err-skip-clause-refused
returns-in_err-skip-clause-refused c =
    let (y, is, from) = err_from_is_err_and c.from_residual-in_err-skip.result c.from_residual-in_err-skip.ensures.1 in
    rw (is, from) (skip_spares c.loop-count.invariant (rw c.in-Some.is at c.in_ok-key.ensures.begun) c.requires.value c.in_err-skip.ensures.refused)

pub returns-clause-refused : goal.returns-clause-refused
returns-clause-refused c = too_many_entries c.loop-count.invariant c.requires.inside.is_at.is_text c.requires.value (subst (λ x. length x ≤ c.loop-count.count) c.text-count-end.ensures c.loop-count-test.false)
