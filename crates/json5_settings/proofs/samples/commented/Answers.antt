use Rattle.json5_settings.proofs.SlipsSeen.{if_ok_then}
use Rattle.json5_settings.proofs.samples.commented.Goals as goal

pub returns : goal.returns
returns c = if_ok_then c.comment.result c.comment.ensures.commented (λ made is. (_, is))
