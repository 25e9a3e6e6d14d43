use Rattle.std.proofs.Common.{rules}
use Rattle.cli_files.specs.declared.failure.Failure.TheVariants as failure
use Rattle.cli_tidy.specs.declared.trouble.FileTrouble.TheVariants as trouble
use Rattle.cli_tidy.specs.Answers.{tidies, fails}
use Rattle.cli_tidy.proofs.answers.answer_stream.Goals as goal

pub returns-in_default : goal.returns-in_default
returns-in_default g c = rw c.report_trouble.ensures.status (fails (trouble.Failed failure.NoMemory) (tt, search rules) (rw c.name_of_input-name.ensures at c.report_trouble.ensures.line))

pub returns-in-Ok-tidy_stream : goal.returns-in-Ok-tidy_stream
returns-in-Ok-tidy_stream g c = tidies (rw c.in-Ok.ensures.stars at (rw c.in-Ok.ensures.last_commas at (rw c.name_of_input-name.ensures at c.in-Ok-tidy_stream.ensures.written)))

pub returns-in-Err : goal.returns-in-Err
returns-in-Err g c =
    let named = c.name_of_input-name.ensures in
    rw c.report_trouble-in-Err.ensures.status
    (fails c.in-Err.trouble (rw c.in-Ok.ensures.stars at (rw c.in-Ok.ensures.last_commas at (rw named at c.in-Err.ensures.stopped))) (rw named at c.report_trouble-in-Err.ensures.line))
