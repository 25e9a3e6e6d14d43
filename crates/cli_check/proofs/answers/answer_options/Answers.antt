use Rattle.cli_check.proofs.answers.answer_options.Goals as goal

pub returns-in-Version : goal.returns-in-Version
returns-in-Version g c = rw c.in-Version.is c.answer_with-in-Version.ensures
