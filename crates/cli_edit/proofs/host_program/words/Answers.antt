use Rattle.cli_edit.proofs.Statuses.{small, usage_status}
use Rattle.cli_edit.proofs.host_program.words.Goals as goal

pub returns : goal.returns
returns c = (small c.answer.ensures, usage_status c.answer.ensures)
