use Rattle.std.proofs.Common.{rules}
use Rattle.json5_edit.specs.declared.faults.EditError.TheVariants as error
use Rattle.cli_edit.specs.Works.{no_steps, stopped, worked}
use Rattle.cli_edit.proofs.works.do_at.Goals as goal

pub returns-in-Err : goal.returns-in-Err
returns-in-Err g c = rw c.tell.ensures (no_steps c.in-Err.error c.in-Err.ensures.refused (search rules))

pub returns-in_default : goal.returns-in_default
returns-in_default g c = rw c.tell-in_default.ensures (no_steps error.NoMemory tt (search rules))

pub returns-in-Ok-work_on : goal.returns-in-Ok-work_on
returns-in-Ok-work_on g c = worked c.as_slice.result.now c.as_str.result.now (rw c.as_slice.ensures.value c.in-Ok.ensures.steps) (rw c.as_str.ensures.value c.in-Ok-meant.ensures) c.in-Ok-work_on.ensures.worked

pub returns : goal.returns
returns g c =
    rw c.tell-in-Err-work_on.ensures (stopped c.as_slice.result.now c.as_str.result.now c.in-Err-work_on.trouble (rw c.as_slice.ensures.value c.in-Ok.ensures.steps) (rw c.as_str.ensures.value c.in-Ok-meant.ensures) c.in-Err-work_on.ensures.stopped)
