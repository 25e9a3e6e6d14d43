use Rattle.std.proofs.Common.{sym, eqb-true, arith}
use Rattle.cli_tidy.specs.Names.{no_file, no_memory}
use Rattle.cli_tidy.proofs.NamesWorked.{some_file, works_below, stands_for_none}
use Rattle.cli_tidy.proofs.files.work_below.Goals as goal

pub returns-in_default : goal.returns-in_default
returns-in_default g c = rw c.report_trouble.ensures.status (no_memory c.report_trouble.ensures.line)

pub returns-then-is_empty : goal.returns-then-is_empty
returns-then-is_empty g c =
    let none = eqb-true _ _ (sym c.if-is_empty.ensures) in
    rw c.report_trouble-then-is_empty.ensures.status
    (no_file (stands_for_none (g.S.Store.known c.args.store.now) c.args.request.now c.args.name.now c.in-Ok.names.items (omega (arith, c.in-Ok.names.ok.0, none)) c.in-Ok.ensures) c.report_trouble-then-is_empty.ensures.line)

pub returns : goal.returns
returns g c =
    works_below (g.S.Store.known c.args.store.now) c.args.request.now c.args.name.now c.in-Ok.names.items _ _ _ _ c.as_slice.result.now _ _ (some_file c.in-Ok.names.items c.in-Ok.names.len c.in-Ok.names.ok.0 (sym c.if-is_empty.ensures)) c.as_slice.ensures.value c.in-Ok.ensures c.work_on_each.ensures
