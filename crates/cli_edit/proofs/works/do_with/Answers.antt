use Rattle.std.proofs.Common.{rules}
use Rattle.cli_edit.specs.Works.{reads, reads_none}
use Rattle.cli_edit.proofs.works.do_with.Goals as goal

pub returns-in-Ok : goal.returns-in-Ok
returns-in-Ok g c = reads c.as_str.result.now (rw c.as_str.ensures.value c.in-Ok.ensures.read) c.do_at.ensures

pub returns-in-Err : goal.returns-in-Err
returns-in-Err g c = rw c.unread.ensures (reads_none c.in-Err.failure c.in-Err.ensures.stopped (search rules))
