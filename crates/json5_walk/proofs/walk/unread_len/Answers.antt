use Rattle.std.proofs.Common.{refl, ◌∙◌}
use Rattle.json5_walk.proofs.Calls.{left_over}
use Rattle.json5_walk.proofs.walk.unread_len.Goals as goal

pub returns : goal.returns
returns c = c.saturating_sub.ensures ∙ left_over c.args.scanner.now c.input.result.now refl c.input.utf8 c.input.ensures c.offset.ensures.suffix c.offset.ensures.counted
