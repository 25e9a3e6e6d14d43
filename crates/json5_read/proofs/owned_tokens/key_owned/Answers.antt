use Rattle.std.proofs.Common.{◌∙◌}
use Rattle.json5_read.proofs.owned_tokens.key_owned.Goals as goal

pub returns : goal.returns
returns g c u escape_free k = c.in_ok-text.ensures.ok ∙ c.text_of.ensures u escape_free k
