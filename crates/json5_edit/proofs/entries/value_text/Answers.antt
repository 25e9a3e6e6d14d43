use Rattle.json5_edit.proofs.EntriesPassed.{text_moves}
use Rattle.json5_edit.proofs.entries.value_text.Goals as goal

pub returns-in-Some : goal.returns-in-Some
returns-in-Some c = text_moves c.text-text.result.now c.in-Some.value.now c.offset-start.result c.offset-end.result c.in_ok-skip.ensures.passed c.text-text.ensures c.offset-start.ensures c.offset-end.ensures c.in-Some.ensures.cases.0
