use Rattle.json5_convert.proofs.Kept.{unread}
use Rattle.json5_convert.proofs.respelled.refusal.Goals as goal

pub returns-in-Err : goal.returns-in-Err
returns-in-Err c = unread c.args.spelling c.args.text.now c.in-Err.error c.of_text.result c.in-Err.ensures c.of_text.ensures
