use Rattle.std.proofs.Common.{◌≡◌, ◌∙◌, List, [], Some, None, append-nil, inl, subst, sym, refl}
use Rattle.std.specs.Str.{chars}
use Rattle.std.proofs.lemmas.Result.{err_from_is_err_and}
use Rattle.json5_types.specs.declared.error.Error.{Error}
use Rattle.json5_convert.specs.Lines.{AreDocuments, RefusesDocuments, at_start, behind, first, none}
use Rattle.json5_convert.specs.Streams.{TakesNext}
use Rattle.json5_convert.proofs.DocumentsRead.{LeadsTo, front_shorter, one_more}
use Rattle.json5_convert.proofs.lines.from_lines.Goals as goal

pub loop-values-smaller : goal.loop-values-smaller
loop-values-smaller c =
    let got = subst (TakesNext c.loop-values.documents c.next.new.self) c.in-Some.is c.in_ok-value.ensures.taken in
    let (was, going, (front, same)) = got in
    front_shorter c.loop-values.documents.cursor.unread c.next.new.self.cursor.unread c.in-Some.value front

pub loop-values-preserved : goal.loop-values-preserved
loop-values-preserved c =
    let l = c.loop-values in
    let (was, going, (front, same)) = subst (TakesNext l.documents c.next.new.self) c.in-Some.is c.in_ok-value.ensures.taken in
    let (runs, input, leads, refuses) = l.invariant in
    let left = c.next.new.self.cursor.unread in (
      going,
      same ∙ input,
      subst (λ z. LeadsTo (chars c.args.text.now) z left) (sym c.in_ok-push.ensures.items) (one_more (chars c.args.text.now) l.documents.cursor.unread left l.values.items c.in-Some.value front leads),
      λ e r. refuses e (behind l.documents.cursor left c.in-Some.value e front (subst (λ i. RefusesDocuments (record { input = i; unread = left }) e) same r)),
    )

pub returns-in_err-value-clause-refused : goal.returns-in_err-value-clause-refused
returns-in_err-value-clause-refused c =
    let (y, is, from) = err_from_is_err_and c.from_residual.result c.from_residual.ensures.1 in
    let (runs, input, leads, refuses) = c.loop-values.invariant in
    let (told, failed, fault) = c.in_err-value.ensures.refused in
    rw (is, from) (refuses c.in_err-value.field-0.0 (first c.loop-values.documents.cursor c.in_err-value.field-0.0 (fault runs)))

pub returns-in_err-push-clause-refused : goal.returns-in_err-push-clause-refused
returns-in_err-push-clause-refused c =
    let (y, is, from) = err_from_is_err_and c.from_residual-in_err-push.result c.from_residual-in_err-push.ensures.1 in
    let (runs, input, leads, refuses) = c.loop-values.invariant in
    rw is (refuses y (first c.loop-values.documents.cursor y (inl from.kind)))

pub returns-clause-read : goal.returns-clause-read
returns-clause-read c =
    let l = c.loop-values in
    let (was, going, ((last, empty), same)) = subst (TakesNext l.documents c.next.new.self) c.in_default.is c.in_ok-value.ensures.taken in
    let (runs, input, leads, refuses) = l.invariant in
    subst (AreDocuments (chars c.args.text.now)) (append-nil l.values.items) (leads [] (none l.documents.cursor.unread last))
