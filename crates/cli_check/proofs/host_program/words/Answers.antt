use Rattle.cli_check.proofs.Statuses.{answers_low}
use Rattle.cli_check.proofs.host_program.words.Goals as goal

pub returns-in-Ok : goal.returns-in-Ok
returns-in-Ok c = answers_low _ _ _ _ _ _ _ _ c.answer.ensures

pub returns-in-Err : goal.returns-in-Err
returns-in-Err c = answers_low _ _ _ _ _ _ _ _ c.answer-in-Err.ensures
