use Rattle.json5_tidy.proofs.Kept.{as_plain}
use Rattle.json5_tidy.proofs.plainness.Plainness.is_kept.Goals as goal

pub returns-in-Bare : goal.returns-in-Bare
returns-in-Bare c = λ t text no_plainer comments plain. as_plain comments c.args.made.now (c.is_plain_with.ensures.0 t)
