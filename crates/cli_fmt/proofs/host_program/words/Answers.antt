use Rattle.cli_fmt.proofs.Statuses.{answers_low, answers_two}
use Rattle.cli_fmt.proofs.host_program.words.Goals as goal

pub returns-in-Ok : goal.returns-in-Ok
returns-in-Ok c = (answers_low c.answer.ensures, answers_two c.answer.ensures)

pub returns-in-Err : goal.returns-in-Err
returns-in-Err c = (answers_low c.answer-in-Err.ensures, answers_two c.answer-in-Err.ensures)
