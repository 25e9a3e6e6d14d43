use Rattle.std.proofs.Common.{◌≤◌, Bool, true, false, length, refl, ap, subst, sym, ◌∙◌}
use Rattle.std.proofs.lemmas.Result.{err_from_is_err_and}
use Rattle.json5_walk.proofs.Entries.{hopeless_needs, on_then}
use Rattle.json5_walk.specs.Walks.{Walked}
use Rattle.json5_edit.specs.Seeks.{SeeksOrSkips, is_sought}
use Rattle.json5_edit.proofs.Seeks.{with_path, no_path, mark_seeks, skip_seeks_step, opened_seeks, starts_passed, passed_ends, passed_on}
use Rattle.json5_edit.proofs.Spared.{mark_spares, skip_spares, opened_spares, too_many, entry_spares, value_spares, on_err}
use Rattle.json5_edit.proofs.Refused.{err_then}
use Rattle.json5_edit.proofs.places.+seek.Goals as goal
use Rattle.json5_edit.proofs.places.+seek.Goals.{seek_entry-then-is_sought+in_ok-seek, seek_entry-else-is_sought+in_ok-skip}

pub seek-returns-in_default-clause-found : goal.seek-returns-in_default-clause-found
seek-returns-in_default-clause-found t c = let e = rw c.in_default.is at c.split_first.ensures.cases in on_then c.mark.result c.mark.ensures.marked (λ m. no_path e (mark_seeks c.unmark.ensures m))

pub seek-returns-then-not-open-clause-found : goal.seek-returns-then-not-open-clause-found
seek-returns-then-not-open-clause-found t c = on_then c.skip.result c.skip.ensures.passed (λ m. with_path c.in-Some.step.now c.in-Some.ensures.cases.0 (skip_seeks_step c.in-Some.step.now c.in-Some.rest.now c.kind.ensures c.unmark.ensures (c.if-not-open.ensures.refused refl) (c.if-not-open.ensures.kept refl) m))

pub seek-returns-clause-found : goal.seek-returns-clause-found
seek-returns-clause-found t c = on_then c.seek_entry.result c.seek_entry.ensures.found (λ m. with_path c.in-Some.step.now c.in-Some.ensures.cases.0 (opened_seeks c.in-Some.step.now c.in-Some.rest.now c.kind.ensures c.unmark.ensures (c.if-not-open.ensures.taken refl) m))

pub seek-returns-in_default-clause-refused : goal.seek-returns-in_default-clause-refused
seek-returns-in_default-clause-refused t c = on_err c.mark.result c.mark.ensures.refused (λ e h. mark_spares c.unmark.ensures h)

pub seek-returns-then-not-open-clause-refused : goal.seek-returns-then-not-open-clause-refused
seek-returns-then-not-open-clause-refused t c = on_err c.skip.result c.skip.ensures.refused (λ e h. skip_spares c.unmark.ensures (c.if-not-open.ensures.kept refl) h)

pub seek-returns-clause-refused : goal.seek-returns-clause-refused
seek-returns-clause-refused t c = err_then c.seek_entry.result (λ e h. opened_spares c.in-Some.step.now c.kind.ensures c.unmark.ensures (c.if-not-open.ensures.taken refl) h) c.seek_entry.ensures.refused

pub seek_entry-loop-count-init : goal.seek_entry-loop-count-init
seek_entry-loop-count-init t c = starts_passed _ _ _

pub seek_entry-loop-count-preserved : goal.seek_entry-loop-count-preserved
seek_entry-loop-count-preserved t c =
    let so = λ (b : Bool) (v w : Walked). SeeksOrSkips b c.args.path.now v w in
    passed_on c.in-Some.key _ (c.is_sought.ensures ∙ ap (is_sought c.args.step c.loop-count.count) c.as_str.ensures) c.loop-count.invariant (rw c.in-Some.is at c.in_ok-key.ensures.begun) (elim c.if-is_sought.branch [
      | seek_entry-then-is_sought+in_ok-seek w ↦ subst (λ b. so b c.entry.new.self c.if-is_sought.walk) (sym w.if-is_sought.true) (subst (so true c.entry.new.self) (sym w.walk-is) w.in_ok-seek.ensures.found)
      | seek_entry-else-is_sought+in_ok-skip w ↦ subst (λ b. so b c.entry.new.self c.if-is_sought.walk) (sym w.if-is_sought.false) (subst (so false c.entry.new.self) (sym w.walk-is) w.in_ok-skip.ensures.passed)
    ])

pub seek_entry-returns-in_default-clause-found : goal.seek_entry-returns-in_default-clause-found
seek_entry-returns-in_default-clause-found t c = passed_ends c.loop-count.invariant (rw c.in_default.is at c.in_ok-key.ensures.begun)

pub seek_entry-returns-in_err-key-clause-refused : goal.seek_entry-returns-in_err-key-clause-refused
seek_entry-returns-in_err-key-clause-refused t c =
    let (y, is, from) = err_from_is_err_and c.from_residual.result c.from_residual.ensures.1 in
    rw (is, from) (entry_spares c.loop-count.invariant c.in_err-key.ensures.refused)

pub seek_entry-returns-in_err-seek-clause-refused : goal.seek_entry-returns-in_err-seek-clause-refused
seek_entry-returns-in_err-seek-clause-refused t c =
    let (y, is, from) = err_from_is_err_and c.from_residual-in_err-seek.result c.from_residual-in_err-seek.ensures.1 in
    rw (is, from) (value_spares c.loop-count.invariant (rw c.in-Some.is at c.in_ok-key.ensures.begun) c.in_err-seek.ensures.refused)

pub seek_entry-returns-in_err-skip-clause-refused : goal.seek_entry-returns-in_err-skip-clause-refused
seek_entry-returns-in_err-skip-clause-refused t c =
    let (y, is, from) = err_from_is_err_and c.from_residual-in_err-skip.result c.from_residual-in_err-skip.ensures.1 in
    rw (is, from) (value_spares c.loop-count.invariant (rw c.in-Some.is at c.in_ok-key.ensures.begun) (λ s f a. hopeless_needs c.entry.new.self (c.in_err-skip.ensures.refused a)))

pub seek_entry-returns-clause-refused : goal.seek_entry-returns-clause-refused
seek_entry-returns-clause-refused t c = too_many c.loop-count.invariant (subst (λ x. length x ≤ c.loop-count.count) c.text-count-end.ensures c.loop-count-test.false)
