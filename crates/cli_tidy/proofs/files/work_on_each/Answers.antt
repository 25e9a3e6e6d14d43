use Rattle.std.proofs.Common.{refl, sym, subst}
use Rattle.json5_write.specs.Pieces.{AppendsFront}
use Rattle.cli_tidy.specs.Files.{none}
use Rattle.cli_tidy.specs.Troubles.{trouble_line}
use Rattle.cli_tidy.proofs.FilesWorked.{more_tidy, more_untidy, more_bad, stops, ends}
use Rattle.cli_tidy.proofs.files.work_on_each.Goals as goal

pub loop-name-init : goal.loop-name-init
loop-name-init g c = none

pub loop-name-preserved-in-Ok-Tidy : goal.loop-name-preserved-in-Ok-Tidy
loop-name-preserved-in-Ok-Tidy g c =
    more_tidy (g.S.Store.known c.args.store.now) c.args.request.now _ _ _ _ _ c.args.names.now c.loop-name.name-index c.loop-name.status c.name-item.result c.loop-name-test.true c.name-item.is c.loop-name.invariant
    (rw (sym c.as_str.ensures.value) (rw c.in-Ok-Tidy.field-0-is at c.in-Ok-Tidy.ensures))

pub loop-name-preserved-in-Ok-Untidy : goal.loop-name-preserved-in-Ok-Untidy
loop-name-preserved-in-Ok-Untidy g c =
    rw c.max-status.ensures
    (more_untidy (g.S.Store.known c.args.store.now) c.args.request.now _ _ _ _ _ c.args.names.now c.loop-name.name-index c.loop-name.status c.name-item.result c.loop-name-test.true c.name-item.is c.loop-name.invariant
    (rw (sym c.as_str.ensures.value) (rw c.in-Ok-Untidy.field-0-is at c.in-Ok-Untidy.ensures)))

pub returns-then-is_failed_write : goal.returns-then-is_failed_write
returns-then-is_failed_write g c =
    let e = c.in-Err.trouble in
    let line = subst (λ t. AppendsFront (g.E.Write.contents c.loop-name.e) (g.E.Write.contents c.report_trouble.new.e) (trouble_line t e)) c.as_str-in-loop-name.ensures.value c.report_trouble.ensures.line in
    rw (c.max-status-in-loop-name.ensures, c.report_trouble.ensures.status)
    (stops (g.S.Store.known c.args.store.now) c.args.request.now _ _ _ _ _ c.args.names.now c.loop-name.name-index c.loop-name.status c.name-item.result c.loop-name-test.true c.name-item.is c.loop-name.invariant
    _ e (rw (sym c.as_str.ensures.value) c.in-Err.ensures) (c.if-is_failed_write.ensures.yes refl) line)

pub loop-name-preserved : goal.loop-name-preserved
loop-name-preserved g c =
    let e = c.in-Err.trouble in
    let line = subst (λ t. AppendsFront (g.E.Write.contents c.loop-name.e) (g.E.Write.contents c.report_trouble.new.e) (trouble_line t e)) c.as_str-in-loop-name.ensures.value c.report_trouble.ensures.line in
    rw (c.max-status-in-loop-name.ensures, c.report_trouble.ensures.status)
    (more_bad (g.S.Store.known c.args.store.now) c.args.request.now _ _ _ _ _ c.args.names.now c.loop-name.name-index c.loop-name.status c.name-item.result c.loop-name-test.true c.name-item.is c.loop-name.invariant
    _ e (rw (sym c.as_str.ensures.value) c.in-Err.ensures) (c.if-is_failed_write.ensures.no refl) line)

pub returns : goal.returns
returns g c = ends (g.S.Store.known c.args.store.now) c.args.request.now _ _ _ _ c.args.names.now c.loop-name.name-index c.loop-name.status c.loop-name-test.false c.loop-name.invariant
