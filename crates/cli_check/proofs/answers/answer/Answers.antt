use Rattle.cli_check.specs.Answers.{answers, says_usage, no_memory}
use Rattle.cli_check.proofs.answers.answer.Goals as goal

pub returns-in-Ok : goal.returns-in-Ok
returns-in-Ok g c = answers c.in-Ok.options c.in-Ok.ensures c.answer_options.ensures

pub returns-in-Err-Unknown : goal.returns-in-Err-Unknown
returns-in-Err-Unknown g c = rw c.usage.ensures.0 (says_usage (c.in-Err-Unknown.ensures c.in-Err-Unknown.field-0-is) c.usage.ensures.1)

pub returns-in-Err-NoMemory : goal.returns-in-Err-NoMemory
returns-in-Err-NoMemory g c = rw c.no_memory.ensures.0 (no_memory c.no_memory.ensures.1)
