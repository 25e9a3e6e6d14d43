use Rattle.std.proofs.Common.{rules}
use Rattle.cli_edit.specs.Works.{does_with, not_begun}
use Rattle.cli_edit.proofs.Reading.{kept_for_file}
use Rattle.cli_edit.proofs.works.do_task.Goals as goal

pub returns-in-Err : goal.returns-in-Err
returns-in-Err g c = not_begun (search rules)

pub returns-in-Ok-value_of : goal.returns-in-Ok-value_of
returns-in-Ok-value_of g c =
    does_with c.in-Ok.path c.as_str.result.now (rw c.route.ensures at c.in-Ok.ensures) (c.source.result, c.source.ensures, rw c.as_str.ensures.value c.in-Ok-value_of.ensures.read)
    (kept_for_file (g.S.Store.known c.args.store.now) c.in-Ok.path c.args.task.now c.as_str.result.now (g.R.Read.remaining c.value_of.new.r) (g.R.Read.remaining c.args.r.now)
    (g.W.Write.contents c.args.w.now) (g.E.Write.contents c.args.e.now) (g.W.Write.contents c.do_with.new.w) (g.E.Write.contents c.do_with.new.e) c.do_with.result
    c.in-Ok-value_of.ensures.kept c.do_with.ensures)

pub returns : goal.returns
returns g c = not_begun (search rules)
