use Rattle.cli_tidy.proofs.Statuses.{answers_low, answers_two}
use Rattle.cli_tidy.proofs.host_program.words.Goals as goal

pub returns-in-Ok : goal.returns-in-Ok
returns-in-Ok c = (answers_low _ _ _ _ _ _ _ _ c.answer.ensures, λ nothing. answers_two _ _ _ _ _ _ _ _ nothing c.answer.ensures)

pub returns-in-Err : goal.returns-in-Err
returns-in-Err c = (answers_low _ _ _ _ _ _ _ _ c.answer-in-Err.ensures, λ nothing. answers_two _ _ _ _ _ _ _ _ nothing c.answer-in-Err.ensures)
