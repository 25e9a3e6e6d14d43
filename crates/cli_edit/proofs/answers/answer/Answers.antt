use Rattle.std.proofs.Common.{append-nil}
use Rattle.cli_edit.specs.Answers.{does, helps, says_usage, tells_version}
use Rattle.cli_edit.proofs.answers.answer.Goals as goal

pub returns-in-Some-Help : goal.returns-in-Some-Help
returns-in-Some-Help g c = helps (rw c.in-Some-Help.field-0-is at c.in-Some-Help.ensures) (rw append-nil at c.answer_with.ensures)

pub returns-in-Some-Version : goal.returns-in-Some-Version
returns-in-Some-Version g c = tells_version (rw c.in-Some-Version.field-0-is at c.in-Some-Version.ensures) c.answer_with-in-Some-Version.ensures

pub returns-in-Some-Task : goal.returns-in-Some-Task
returns-in-Some-Task g c = does c.in-Some-Task.task (rw c.in-Some-Task.field-0-is at c.in-Some-Task.ensures) c.do_task.ensures

pub returns-in-None : goal.returns-in-None
returns-in-None g c = says_usage c.in-None.ensures
