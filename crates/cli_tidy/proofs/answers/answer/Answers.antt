use Rattle.cli_tidy.specs.Answers.{answers, says_usage, no_memory}
use Rattle.cli_tidy.proofs.answers.answer.Goals as goal

pub returns-in-Ok : goal.returns-in-Ok
returns-in-Ok g c = answers c.in-Ok.request c.in-Ok.ensures c.answer_request.ensures

pub returns-in-Err-Unknown : goal.returns-in-Err-Unknown
returns-in-Err-Unknown g c = says_usage (c.in-Err-Unknown.ensures c.in-Err-Unknown.field-0-is) c.usage.ensures

pub returns-in-Err-NoMemory : goal.returns-in-Err-NoMemory
returns-in-Err-NoMemory g c = no_memory c.no_memory.ensures
