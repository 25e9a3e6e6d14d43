use Rattle.json5_write.proofs.EscapeFreeRuns.{escape_free_whole, empty_from}
use Rattle.json5_write.proofs.escape_free.is_escape_free.Goals as goal

pub returns : goal.returns
returns c = λ t. escape_free_whole _ _ c.skip_escape_free.ensures.skips (empty_from c.skip_escape_free.result.now _ c.is_empty.ensures t)
