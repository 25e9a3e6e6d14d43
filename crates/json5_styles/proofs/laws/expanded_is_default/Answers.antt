use Rattle.json5_styles.proofs.DefaultLayout.{default_written}
use Rattle.json5_styles.proofs.TextsBack.{within}
use Rattle.json5_styles.proofs.laws.expanded_is_default.Goals as goal

pub returns : goal.returns
returns c = λ x h k. default_written x h (within _ _ k)
